-- What a statement is decided by.
use Rattle.std.specs.Prelude.{◌||◌, ℕ, nat_le, Bool, IsTrue, List, map}
use Rattle.std.specs.List.{list_any}
use Rattle.std.specs.Str.{bytes_eq}
use Rattle.au_base.specs.BuiltIn.{audsys, public_name}
use Rattle.au_base.specs.Limits.{CATALOG_OBJECTS}
use Rattle.au_base.specs.Order.{fields_before, is_in_order, name_before}
use Rattle.au_base.specs.Sameness.{same_table}
use Rattle.au_base.specs.declared.numbers.ClientNo.{ClientNo}
use Rattle.au_base.specs.declared.table.TableName.{TableName}
use Rattle.au_define.specs.declared.case.Case.{Case}
use Rattle.au_entries.specs.declared.decision.Busy.{Busy}
use Rattle.au_entries.specs.declared.kept.Kept.{Kept}
use Rattle.au_entries.specs.declared.table.Table.{Table}
use Rattle.au_entries.specs.Changing.{table_fields}
use Rattle.au_grants.specs.Rights.{Grants}

-- What is there before the statement: users with their verifiers, roles, tables and grants; the user whose statement it is,
-- and the client; and what sessions hold.
pub record Setting : Type 0 where
  pub users : List (List ℕ × List ℕ)
  pub roles : List (List ℕ)
  pub tables : List Table
  pub grants : Grants
  pub user : List ℕ
  pub client : ClientNo
  pub busy : Busy

-- what a case lends
abbrev pub lent : Case → Setting
lent case = record {
  users = case.users.now;
  roles = case.roles.now;
  tables = case.tables.now;
  grants = case.grants.now;
  user = case.user.now;
  client = case.client;
  busy = case.busy.now;
}

-- what is kept, and a user whose statement it is
abbrev pub setting_of : Kept → List ℕ → ClientNo → Busy → Setting
setting_of kept user client busy =
    record { users = kept.users; roles = kept.roles; tables = kept.tables; grants = kept.grants; user = user; client = client; busy = busy }

-- each list stands in the byte order of its names, as in all that is kept
pub record IsSorted (case : Case) : Type 0 where
  pub users : IsTrue (is_in_order name_before (map (λ user. user.0) case.users.now))
  pub roles : IsTrue (is_in_order name_before case.roles.now)
  pub tables : IsTrue (is_in_order fields_before (map (λ table. table_fields table.name) case.tables.now))

-- a user of this name is there
abbrev pub has_user : Setting → List ℕ → Bool
has_user setting name = list_any (λ user. bytes_eq user.0 name) setting.users

-- a role of this name is there
abbrev pub has_role : Setting → List ℕ → Bool
has_role setting name = list_any (λ role. bytes_eq role name) setting.roles

-- a table of this name is there, a built-in one not counted
abbrev pub has_table : Setting → TableName → Bool
has_table setting name = list_any (λ table. same_table table.name name) setting.tables

-- the user owns a table
abbrev pub owns_table : Setting → List ℕ → Bool
owns_table setting user = list_any (λ table. bytes_eq table.name.owner user) setting.tables

-- the user has a session
abbrev pub is_connected : Setting → List ℕ → Bool
is_connected setting user = list_any (λ other. bytes_eq other user) setting.busy.connected

-- no new user or role can have the name: a user or a role has it, or it is AUDSYS or PUBLIC
abbrev pub is_taken : Setting → List ℕ → Bool
is_taken setting name = has_user setting name || has_role setting name || bytes_eq name audsys || bytes_eq name public_name

-- no more users, roles or tables can be there beside so many of them
abbrev pub is_full : ℕ → Bool
is_full count = nat_le CATALOG_OBJECTS count
