-- Which changes go on from what is kept (the rule by which a journal is replayed is this project's profile).
use Rattle.std.specs.Prelude.{◌≡◌, ◌≢◌, ◌≤◌, ◌<◌, ℕ, zero, suc, Bool, not, ◌||◌, ⊤, IsTrue, List, [], ◌∷◌, map, length, get_or, Option, Some, None, ◌⊎◌}
use Rattle.std.specs.List.{AllByRecursion, Contains, list_all, list_any}
use Rattle.std.specs.Str.{bytes_eq}
use Rattle.au_base.specs.BuiltIn.{dual, ora_mandatory, trail}
use Rattle.au_base.specs.Limits.{INSTANCES, LAST_MOMENT}
use Rattle.au_base.specs.Sameness.{same_table}
use Rattle.au_base.specs.declared.numbers.Stamp.{Stamp}
use Rattle.au_base.specs.declared.table.Column.{Column}
use Rattle.au_base.specs.declared.table.ColumnKind.{ColumnKind}
use Rattle.au_base.specs.declared.table.ColumnKind.TheVariants as kinds
use Rattle.au_base.specs.declared.table.TableName.{TableName}
use Rattle.au_entries.specs.declared.change.Change.{Change}
use Rattle.au_entries.specs.declared.change.Change.TheVariants.{User, UserGone, Role, RoleGone, SysGrant, SysRevoke, RoleGrant, RoleRevoke, ObjGrant, ObjRevoke, Table, TableGone, Put, Gone, Policy, PolicyGone, Enable, Fga, FgaGone, Archive, Start}
use Rattle.au_entries.specs.declared.kept.Kept.{Kept}
use Rattle.au_entries.specs.declared.policy.Enabled.{Enabled}
use Rattle.au_entries.specs.declared.policy.Enabled.TheVariants.{Off, By, Except}
use Rattle.au_entries.specs.declared.policy.Evaluate.{Evaluate}
use Rattle.au_entries.specs.declared.table.Table.{Table as AnyTable}
use Rattle.au_entries.specs.Changing.{changed, is_fga, is_row}
use Rattle.au_grants.specs.Holding.{grants_object, grants_privilege, grants_role}
use Rattle.au_grants.specs.Rights.{IsHolder}
use Rattle.sql_ast.specs.declared.expression.Expr.{Expr}

-- What conditions are: which texts can be read, as which tree a text is read (of a text that can't be read nothing is said),
-- and which trees are truths over the columns of a table, or over none.
pub record Conditions : Type 0 where
  pub is_read : List ℕ → Bool
  pub tree : List ℕ → Expr
  pub is_truth : Option AnyTable → Expr → Bool

-- ---- what is there

-- a user of this name
abbrev pub has_user : Kept → List ℕ → Bool
has_user kept name = list_any (λ user. bytes_eq user.0 name) kept.users

-- a role of this name
abbrev pub has_role : Kept → List ℕ → Bool
has_role kept name = list_any (λ role. bytes_eq role name) kept.roles

-- a user or a role of this name
abbrev pub has_grantee : Kept → List ℕ → Bool
has_grantee kept name = has_user kept name || has_role kept name

-- a table of this name, a built-in one not counted
abbrev pub has_table : Kept → TableName → Bool
has_table kept name = list_any (λ table. same_table table.name name) kept.tables

-- an audit policy of this name
abbrev pub has_policy : Kept → List ℕ → Bool
has_policy kept name = list_any (λ policy. bytes_eq policy.name name) kept.policies

-- the audit policy of this name is enabled for somebody
abbrev pub is_enabled : Kept → List ℕ → Bool
is_enabled kept name = list_any (λ entry. bytes_eq entry.0 name) kept.enabled

-- the user owns a table
abbrev pub owns_table : Kept → List ℕ → Bool
owns_table kept user = list_any (λ table. bytes_eq table.name.owner user) kept.tables

-- the users that an enablement names
abbrev pub named_users : Enabled → List (List ℕ)
named_users Off = []
named_users (By users) = map (λ user. user.0) users
named_users (Except users outcomes) = users

-- ---- new tables

-- 1 to 18 digits of a number, 1 to 4000 bytes of a text, 6 for a moment
abbrev pub IsSizeOf : ColumnKind → ℕ → Type 0
IsSizeOf kinds.Number size = (1 ≤ size) × (size ≤ 18)
IsSizeOf kinds.Text size = (1 ≤ size) × (size ≤ 4000)
IsSizeOf kinds.Moment size = size ≡ 6

-- no two of the numbers are the same
abbrev pub NumbersDiffer : List ℕ → Type 0
NumbersDiffer numbers = (i j : ℕ) → i < j → j < length numbers → get_or numbers i 0 ≢ get_or numbers j 0

-- no two of the names are the same
abbrev pub NamesDiffer : List (List ℕ) → Type 0
NamesDiffer names = (i j : ℕ) → i < j → j < length names → get_or names i [] ≢ get_or names j []

-- the place is that of a column that is NOT NULL
abbrev pub IsKeyPlace : List Column → ℕ → Type 0
IsKeyPlace [] place = ⊥
IsKeyPlace (column ∷ columns) zero = IsTrue column.not_null
IsKeyPlace (column ∷ columns) (suc place) = IsKeyPlace columns place

-- A table has at least one column, and its columns' names differ. Each size is in its kind's range. The key's places
-- differ, and each is that of a column that is NOT NULL.
pub record IsTable (columns : List Column) (key : List ℕ) : Type 0 where
  pub some : 1 ≤ length columns
  pub named : NamesDiffer (map (λ column. column.name) columns)
  pub sized : AllByRecursion (λ column. IsSizeOf column.kind column.size) columns
  pub key_differs : NumbersDiffer key
  pub key_stands : AllByRecursion (IsKeyPlace columns) key

-- ---- conditions

-- an audit policy's condition, where it has one, can be read, and is a truth over no table
abbrev pub IsPolicyCondition : Conditions → Option (Evaluate × List ℕ) → Type 0
IsPolicyCondition conditions None = ⊤
IsPolicyCondition conditions (Some when) = IsTrue (conditions.is_read when.1) × IsTrue (conditions.is_truth None (conditions.tree when.1))

-- a fine-grained policy's condition, where it has one, can be read, and is a truth over the table
abbrev pub IsFgaCondition : Conditions → AnyTable → Option (List ℕ) → Type 0
IsFgaCondition conditions table None = ⊤
IsFgaCondition conditions table (Some text) = IsTrue (conditions.is_read text) × IsTrue (conditions.is_truth (Some table) (conditions.tree text))

-- ---- the rule

-- An archive timestamp, where one is set, isn't over the last moment. Each moment that a frame can spell is so, and the rule
-- adds nothing.
abbrev pub IsArchive : Option Stamp → Type 0
IsArchive None = ⊤
IsArchive (Some stamp) = stamp.0 ≤ LAST_MOMENT

-- the table of this name, as it is kept
abbrev pub IsKeptTable : Kept → TableName → AnyTable → Type 0
IsKeptTable kept name table = Contains kept.tables table × (table.name ≡ name)

-- The change goes on from what is kept before it: what it takes away is there, and so is what it stands on. `image` says
-- whether it is one of an image.
abbrev pub GoesOn : Conditions → Bool → Kept → Change → Type 0
-- a user is added, or gets a new verifier
GoesOn conditions image kept (User name verifier) = ⊤
-- a user who is dropped is there, and owns no table
GoesOn conditions image kept (UserGone name) = IsTrue (has_user kept name) × IsTrue (not (owns_table kept name))
-- a role is new
GoesOn conditions image kept (Role name) = IsTrue (not (has_role kept name))
-- a role that is dropped is there
GoesOn conditions image kept (RoleGone name) = IsTrue (has_role kept name)
-- the grantee is there
GoesOn conditions image kept (SysGrant grantee privilege admin) = IsTrue (has_grantee kept grantee)
-- what is revoked is granted
GoesOn conditions image kept (SysRevoke grantee privilege) = IsTrue (list_any (grants_privilege grantee privilege) kept.grants.system)
-- the grantee and the role are there, and the grant closes no circle: the role isn't the grantee, and doesn't hold it
GoesOn conditions image kept (RoleGrant grantee role admin) =
    IsTrue (has_grantee kept grantee) × IsTrue (has_role kept role) × (¬ IsHolder kept.grants.role role grantee)
GoesOn conditions image kept (RoleRevoke grantee role) = IsTrue (list_any (grants_role grantee role) kept.grants.role)
-- the grantee and the table are there
GoesOn conditions image kept (ObjGrant grantee table action) = IsTrue (has_grantee kept grantee) × IsTrue (has_table kept table)
GoesOn conditions image kept (ObjRevoke grantee table action) = IsTrue (list_any (grants_object grantee table action) kept.grants.object)
-- a table is new and no built-in one, its owner is a user, and its columns and its key are those of a table
GoesOn conditions image kept (Table name columns key) =
    IsTrue (not (has_table kept name)) × (name ≢ dual) × (name ≢ trail) × IsTrue (has_user kept name.owner) × IsTable columns key
-- a table that is dropped is there
GoesOn conditions image kept (TableGone name) = IsTrue (has_table kept name)
-- the row's table is there, with as many columns as there are cells; its number is at least 1
GoesOn conditions image kept (Put name row cells) = (1 ≤ row.0) × ((table : AnyTable) × IsKeptTable kept name table × (length cells ≡ length table.columns))
-- a row that goes is there
GoesOn conditions image kept (Gone name row) = IsTrue (list_any (is_row name row) kept.rows)
-- an audit policy hasn't the name of what is mandatory; the tables and roles that it names needn't be there
GoesOn conditions image kept (Policy name privileges actions roles when) = (name ≢ ora_mandatory) × IsPolicyCondition conditions when
-- a policy that is dropped is there, and enabled for nobody
GoesOn conditions image kept (PolicyGone name) = IsTrue (has_policy kept name) × IsTrue (not (is_enabled kept name))
-- the policy and the users that the enablement names are there
GoesOn conditions image kept (Enable policy enabled) = IsTrue (has_policy kept policy) × IsTrue (list_all (has_user kept) (named_users enabled))
-- the policy's table is there
GoesOn conditions image kept (Fga name policy condition columns all types enabled) =
    (table : AnyTable) × IsKeptTable kept name table × IsFgaCondition conditions table condition
-- a fine-grained policy that is dropped is there
GoesOn conditions image kept (FgaGone name policy) = IsTrue (list_any (is_fga name policy) kept.fga)
-- an archive timestamp is set or taken away
GoesOn conditions image kept (Archive stamp) = IsArchive stamp
-- an instance's number is over the one before, but in an image any
GoesOn conditions image kept (Start instance) = (instance ≤ INSTANCES) × (IsTrue image ⊎ (kept.instance < instance))

-- each change goes on from what those before it leave
abbrev pub AllGoOn : Conditions → Bool → Kept → List Change → Type 0
AllGoOn conditions image kept [] = ⊤
AllGoOn conditions image kept (change ∷ changes) =
    GoesOn conditions image kept change × AllGoOn conditions image (changed conditions.tree change kept) changes
