-- What a user may do with a table (Database Security Guide, "Configuring Privilege and Role Authorization"; the
-- codes and the rules of the two built-in tables are this project's profile).
use Rattle.std.specs.Prelude.{◌≡◌, ◌≢◌, Option, Some, None, ◌⊎◌}
use Rattle.au_base.specs.declared.action.Action.{Action}
use Rattle.au_base.specs.declared.action.Action.TheVariants.{Select, Insert, Update, Delete}
use Rattle.au_base.specs.declared.code.Code.{Code}
use Rattle.au_base.specs.Codes.{PRIVILEGE_MISSING, NO_SUCH_TABLE, TRAIL_READ_ONLY}
use Rattle.au_base.specs.declared.privilege.Privilege.{Privilege}
use Rattle.au_base.specs.declared.privilege.Privilege.TheVariants.{SelectAnyTable, InsertAnyTable, UpdateAnyTable, DeleteAnyTable}
use Rattle.au_base.specs.declared.table.TableName.{TableName}
use Rattle.au_base.specs.BuiltIn.{dual, trail, audit_admin, audit_viewer}
use Rattle.au_priv.specs.declared.allowed.Allowed.{Allowed}
use Rattle.au_priv.specs.declared.allowed.Allowed.TheVariants.{Owner, Object, System, Refused}
use Rattle.au_grants.specs.declared.grants.Grants.{Grants}
use Rattle.au_grants.specs.Rights.{Name, HoldsRole, HoldsPrivilege, HasObjectPrivilege, HasSomeObjectPrivilege}

-- the system privilege that allows the action on any table
abbrev pub any_table_privilege : Action → Option Privilege
any_table_privilege Select = Some SelectAnyTable
any_table_privilege Insert = Some InsertAnyTable
any_table_privilege Update = Some UpdateAnyTable
any_table_privilege Delete = Some DeleteAnyTable
any_table_privilege _ = None

-- the user holds the privilege that allows the action on any table
abbrev pub HoldsAnyTable : Grants → Name → Action → Privilege → Type 0
HoldsAnyTable grants user action privilege = (any_table_privilege action ≡ Some privilege) × HoldsPrivilege grants user privilege

-- the user holds some of the four privileges on any table
abbrev pub HoldsSomeAnyTable : Grants → Name → Type 0
HoldsSomeAnyTable grants user = (action : Action) × (privilege : Privilege) × HoldsAnyTable grants user action privilege

-- the user has something on the table, if not the right that is asked for
abbrev pub HasSomething : Grants → Name → TableName → Type 0
HasSomething grants user table = HasSomeObjectPrivilege grants user table ⊎ HoldsSomeAnyTable grants user

-- the code where a right on a table is missing: for who has something on it, and for who has nothing
abbrev pub IsRefusal : Grants → Name → TableName → Code → Type 0
IsRefusal grants user table code =
    (HasSomething grants user table × (code ≡ PRIVILEGE_MISSING)) ⊎ ((¬ HasSomething grants user table) × (code ≡ NO_SUCH_TABLE))

-- the owner may; else an object privilege suffices; else the matching ANY TABLE privilege suffices and is used
abbrev pub AllowedOnTable : Grants → Name → TableName → Action → Allowed → Type 0
AllowedOnTable grants user table action Owner = user ≡ table.owner
AllowedOnTable grants user table action Object = (user ≢ table.owner) × HasObjectPrivilege grants user table action
AllowedOnTable grants user table action (System privilege) =
    (user ≢ table.owner) × (¬ HasObjectPrivilege grants user table action) × HoldsAnyTable grants user action privilege
AllowedOnTable grants user table action (Refused code) =
    (user ≢ table.owner) × (¬ HasObjectPrivilege grants user table action) × ((privilege : Privilege) → ¬ HoldsAnyTable grants user action privilege) × IsRefusal grants user table code

-- everybody may select DUAL, and nobody may write it
abbrev pub dual_answer : Action → Allowed
dual_answer Select = Object
dual_answer _ = Refused PRIVILEGE_MISSING

-- the user holds one of the two roles that may read the audit trail
abbrev pub ReadsTrail : Grants → Name → Type 0
ReadsTrail grants user = HoldsRole grants.role user audit_admin ⊎ HoldsRole grants.role user audit_viewer

-- the audit trail is selected by who may read it, and written by nobody
abbrev pub AllowedOnTrail : Grants → Name → Action → Allowed → Type 0
AllowedOnTrail grants user Select Object = ReadsTrail grants user
AllowedOnTrail grants user Select (Refused code) = (¬ ReadsTrail grants user) × (code ≡ NO_SUCH_TABLE)
AllowedOnTrail grants user Select _ = ⊥
AllowedOnTrail grants user _ answer = answer ≡ Refused TRAIL_READ_ONLY

-- what the user may do with the table, and by what
pub record AllowedIs (grants : Grants) (user : Name) (table : TableName) (action : Action) (answer : Allowed) : Type 0 where
  pub on_dual : table ≡ dual → answer ≡ dual_answer action
  pub on_trail : table ≡ trail → AllowedOnTrail grants user action answer
  pub on_table : table ≢ dual → table ≢ trail → AllowedOnTable grants user table action answer
