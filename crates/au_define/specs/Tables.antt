-- How CREATE TABLE and DROP TABLE are decided (SQL Language Reference, "CREATE TABLE" and "DROP TABLE"; the order of the
-- rules and their codes are this project's profile).
use Rattle.std.specs.Prelude.{◌≡◌, ◌&&◌, ◌||◌, ◌==◌, not, nat_lt, Bool, if◌then◌else◌, List, [], ◌∷◌, length}
use Rattle.std.specs.List.{list_any}
use Rattle.std.specs.Str.{bytes_eq}
use Rattle.au_base.specs.BuiltIn.{dual, dual_name, resolved_table, trail, trail_name}
use Rattle.au_base.specs.Codes.{COLUMN_TWICE, LOCKED, NAME_USED, NO_SUCH_TABLE, NO_SUCH_USER, PRIVILEGE_MISSING, SECOND_PRIMARY_KEY, TOO_MANY_OBJECTS, TRAIL_READ_ONLY, UNKNOWN_COLUMN}
use Rattle.au_base.specs.Limits.{TABLE_COLUMNS}
use Rattle.au_base.specs.Sameness.{same_table}
use Rattle.au_base.specs.declared.code.Code.{Code}
use Rattle.au_base.specs.declared.privilege.Privilege.{Privilege}
use Rattle.au_base.specs.declared.privilege.Privilege.TheVariants as privilege
use Rattle.au_base.specs.declared.table.TableName.{TableName}
use Rattle.au_base.specs.declared.table.TableReference.{TableReference}
use Rattle.au_define.specs.declared.creating.Creating.{Creating}
use Rattle.au_define.specs.Columns.{has_column_twice, has_second_key, has_unknown_key, made_columns, made_key, names_of}
use Rattle.au_define.specs.Rules.{Rules, Tells, decided}
use Rattle.au_define.specs.Settings.{Setting, has_table, has_user, is_full}
use Rattle.au_entries.specs.declared.change.Change.TheVariants.{Table, TableGone}
use Rattle.au_entries.specs.declared.decision.Decision.{Decision}
use Rattle.au_grants.specs.Rights.{HoldsPrivilege}
use Rattle.au_priv.specs.Allowing.{IsRefusal}
use Rattle.sql_ast.specs.declared.table.CreateTable.{CreateTable}
use Rattle.sql_ast.specs.declared.table.Element.{Element}

-- the table is in the user's own schema
abbrev pub is_own : Setting → TableName → Bool
is_own setting table = bytes_eq table.owner setting.user

-- ---- CREATE TABLE

-- the user holds none that suffices for the schema
abbrev pub may_not_create : Creating → Setting → TableName → Bool
may_not_create held setting table = not held.any && not (is_own setting table && held.own)

-- the one that suffices: in the own schema CREATE TABLE comes first
abbrev pub creating_by : Creating → Setting → TableName → Privilege
creating_by held setting table = if is_own setting table && held.own then privilege.CreateTable else privilege.CreateAnyTable

-- a table is there, or the name is that of a built-in one, whatever its owner
abbrev pub is_used : Setting → TableName → Bool
is_used setting table = has_table setting table || bytes_eq table.name dual_name || bytes_eq table.name trail_name

-- no room for one more table, or for so many columns
abbrev pub has_too_many : Setting → List Element → Bool
has_too_many setting elements = is_full (length setting.tables) || nat_lt TABLE_COLUMNS (length (names_of elements))

-- another schema's user is there; the name is new; no column stands twice; one primary key at most, of columns that are
-- there; room for the table and its columns
abbrev pub creating_rules : Setting → TableName → List Element → Rules
creating_rules setting table elements =
    (not (is_own setting table) && not (has_user setting table.owner), NO_SUCH_USER)
    ∷ (is_used setting table, NAME_USED)
    ∷ (has_column_twice elements, COLUMN_TWICE)
    ∷ (has_second_key elements, SECOND_PRIMARY_KEY)
    ∷ (has_unknown_key elements, UNKNOWN_COLUMN)
    ∷ (has_too_many setting elements, TOO_MANY_OBJECTS) ∷ []

abbrev pub create_table : Creating → Setting → TableName → List Element → Decision
create_table held setting table elements =
    decided ((may_not_create held setting table, PRIVILEGE_MISSING) ∷ []) (creating_rules setting table elements)
    (creating_by held setting table ∷ [])
    (Table table (made_columns elements) (made_key elements) ∷ [])

-- what is decided of a table of this name with these elements
abbrev pub DecidesCreating : Setting → TableName → List Element → Decision → Type 0
DecidesCreating setting table elements decision =
    (held : Creating) × Tells held.own (HoldsPrivilege setting.grants setting.user privilege.CreateTable)
    × Tells held.any (HoldsPrivilege setting.grants setting.user privilege.CreateAnyTable)
    × (decision ≡ create_table held setting table elements)

abbrev pub DecidesCreateTable : Setting → CreateTable → Decision → Type 0
DecidesCreateTable setting statement decision = DecidesCreating setting (resolved_table setting.user statement.table) statement.elements decision

-- ---- DROP TABLE

-- another client has an unsettled change in the table
abbrev pub is_changed : Setting → TableName → Bool
is_changed setting table = list_any (λ entry. same_table entry.0 table && not (entry.1.0 == setting.client.0)) setting.busy.tables

-- Not the audit trail and not DUAL; a table of that name; its owner, or else the privilege, or else the code by what the user
-- has on the table; no other client's change in it
abbrev pub drop_table : Bool → Code → Setting → TableName → Decision
drop_table held refusal setting table =
    decided ((same_table table trail, TRAIL_READ_ONLY) ∷ (same_table table dual, PRIVILEGE_MISSING)
    ∷ (not (has_table setting table), NO_SUCH_TABLE) ∷ (not (is_own setting table) && not held, refusal) ∷ [])
    ((is_changed setting table, LOCKED) ∷ [])
    (if is_own setting table then [] else privilege.DropAnyTable ∷ [])
    (TableGone table ∷ [])

-- what is decided of the table of this name
abbrev pub DecidesDropping : Setting → TableName → Decision → Type 0
DecidesDropping setting table decision =
    (held : Bool) × (refusal : Code) × Tells held (HoldsPrivilege setting.grants setting.user privilege.DropAnyTable)
    × IsRefusal setting.grants setting.user table refusal × (decision ≡ drop_table held refusal setting table)

abbrev pub DecidesDropTable : Setting → TableReference → Decision → Type 0
DecidesDropTable setting table decision = DecidesDropping setting (resolved_table setting.user table) decision
