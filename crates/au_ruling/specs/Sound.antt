-- What is so of all that a statement is decided in, of each statement that is read, and of what one comes to.
use Rattle.std.specs.Prelude.{◌≡◌, ◌≢◌, ◌≤◌, ⊤, ℕ, Bool, IsTrue, List, length, map, Option, Some, None}
use Rattle.std.specs.List.{AllByRecursion, Contains, list_any}
use Rattle.std.specs.Str.{bytes_eq}
use Rattle.au_admin.specs.Going.{IsTimely}
use Rattle.au_admin.specs.Names.{IsNamed as IsNamedAdministration, IsShort}
use Rattle.au_audit.specs.Statements.{Object, tables_of, written_tables}
use Rattle.au_base.specs.BuiltIn.{sys}
use Rattle.au_base.specs.Limits.{LAST_MOMENT, STATEMENT_BYTES}
use Rattle.au_base.specs.Naming.{IsName}
use Rattle.au_base.specs.declared.grant.GrantStatement.{GrantStatement}
use Rattle.au_base.specs.declared.grant.GrantStatement.TheVariants as grants
use Rattle.au_base.specs.declared.numbers.ClientNo.{ClientNo}
use Rattle.au_base.specs.declared.numbers.Stamp.{Stamp}
use Rattle.au_base.specs.declared.table.TableName.{TableName}
use Rattle.au_define.specs.Deciding.{IsWellFormed}
use Rattle.au_define.specs.Names.{IsNamed as IsNamedDefinition, IsTableNamed}
use Rattle.au_entries.specs.declared.fine_grained.FgaName.{FgaName}
use Rattle.au_entries.specs.Replaying.{has_user}
use Rattle.au_kept.specs.Sound.{IsKept}
use Rattle.au_literals.specs.Literals.{AreLiteralsSound}
use Rattle.au_replay.specs.Reading.{conditions}
use Rattle.au_ruling.specs.Rulings.{Ground}
use Rattle.au_txn.specs.Desks.{Contents as Desk, open_of}
use Rattle.au_txn.specs.Rows.{of_triple}
use Rattle.au_txn.specs.Transactions.{names_table}
use Rattle.sql_ast.specs.declared.statement.Statement.{Statement}
use Rattle.sql_ast.specs.declared.statement.Statement.TheVariants.{Grant}

-- ---- the basis

-- What is kept is so as after each frame, and SYS and the statement's user are users in it. The user's name, the session's
-- number and the stamp can be written.
pub record IsSoundGround (basis : Ground) : Type 0 where
  pub kept : IsKept conditions basis.kept
  pub system : IsTrue (has_user basis.kept sys)
  pub user : IsTrue (has_user basis.kept basis.session.user)
  pub named : IsName basis.session.user
  pub number : basis.session.session.0 ≤ 999_999_999_999_999_999
  pub stamp : basis.session.stamp.0 ≤ LAST_MOMENT

-- the same stands in both, each client's changes among it
pub record AreAlike (a b : Ground) : Type 0 where
  pub kept : a.kept ≡ b.kept
  pub busy : a.busy ≡ b.busy
  pub client : a.client ≡ b.client
  pub session : a.session ≡ b.session
  pub transactions : (client : ClientNo) → a.transactions client ≡ b.transactions client

-- the user has a session
abbrev pub is_connected : Ground → List ℕ → Bool
is_connected basis user = list_any (λ other. bytes_eq other user) basis.busy.connected

-- the desk has the rows that are kept, and the changes of each client
pub record IsDeskIn (basis : Ground) (desk : Desk) : Type 0 where
  pub rows : desk.rows ≡ map of_triple basis.kept.rows
  pub changes : (client : ClientNo) → open_of desk client ≡ basis.transactions client

-- what is told of busy tables is enough for the statement: of the tables that it names, those in which another client has a
-- change are told
abbrev pub TellsBusy : Ground → Statement → Desk → Type 0
TellsBusy basis statement desk =
    (client : ClientNo) (table : TableName) → client.0 ≢ basis.client.0 → Contains (tables_of basis.session.user statement) table
    → IsTrue (names_table table (open_of desk client)) → Contains basis.busy.tables (table, client)

-- ---- the statement

-- no more of each than a statement has bytes
abbrev pub AreFew : {R : Type 0} → List R → List (List ℕ) → Type 0
AreFew rights grantees = (length rights ≤ STATEMENT_BYTES) × (length grantees ≤ STATEMENT_BYTES)

abbrev pub AreFewGrants : GrantStatement → Type 0
AreFewGrants (grants.Grant rights grantees admin) = AreFew rights grantees
AreFewGrants (grants.Revoke rights grantees) = AreFew rights grantees
AreFewGrants (grants.GrantObject rights table grantees) = AreFew rights grantees
AreFewGrants (grants.RevokeObject rights table grantees) = AreFew rights grantees

-- GRANT and REVOKE name few rights and few grantees
abbrev pub IsFew : Statement → Type 0
IsFew (Grant grant) = AreFewGrants grant
IsFew _ = ⊤

-- So of each statement that a text is read as: the names in it are names, and its texts are UTF-8; what CREATE TABLE defines is
-- well-formed; no moment is over the last one, and no number has over 18 digits; and its lists and its texts are short.
pub record IsSoundStatement (statement : Statement) : Type 0 where
  pub named : IsNamedDefinition statement
  pub administered : IsNamedAdministration statement
  pub tables : AllByRecursion IsTableNamed (written_tables statement)
  pub formed : IsWellFormed statement
  pub timely : IsTimely statement
  pub few : IsFew statement
  pub short : IsShort statement
  pub literals : AreLiteralsSound statement

-- ---- what comes of it

-- a purge's moment, where it has one, isn't over the last one
abbrev pub IsTimelyPurge : Option (Option Stamp) → Type 0
IsTimelyPurge None = ⊤
IsTimelyPurge (Some None) = ⊤
IsTimelyPurge (Some (Some before)) = before.0 ≤ LAST_MOMENT

-- the names of a fine-grained policy are names: its table's owner and name, and its own
abbrev pub IsNamedFga : FgaName → Type 0
IsNamedFga name = IsName name.table.owner × IsName name.table.name × IsName name.policy

-- the names of an object are names, where there is one: its owner, where it has one, and its own
abbrev pub IsOwned : Option (List ℕ) → Type 0
IsOwned None = ⊤
IsOwned (Some owner) = IsName owner

abbrev pub IsNamedObject : Option Object → Type 0
IsNamedObject None = ⊤
IsNamedObject (Some object) = IsOwned object.0 × IsName object.1
