-- How CREATE ROLE and DROP ROLE are decided (SQL Language Reference, "CREATE ROLE" and "DROP ROLE"; the order of the rules
-- and their codes are this project's profile).
use Rattle.std.specs.Prelude.{◌≡◌, ◌&&◌, ◌||◌, ℕ, nat_le, not, Bool, true, if◌then◌else◌, List, [], ◌∷◌, length}
use Rattle.std.specs.Str.{bytes_eq}
use Rattle.au_base.specs.BuiltIn.{audit_admin, audit_viewer}
use Rattle.au_base.specs.Codes.{NO_SUCH_ROLE, PRIVILEGE_MISSING, ROLE_NAME_USED, TOO_MANY_OBJECTS}
use Rattle.au_base.specs.Limits.{GRANTS}
use Rattle.au_base.specs.declared.privilege.Privilege.TheVariants.{CreateRole, DropAnyRole}
use Rattle.au_define.specs.Rules.{Tells, decided}
use Rattle.au_define.specs.Settings.{Setting, has_role, is_full, is_taken}
use Rattle.au_entries.specs.declared.change.Change.TheVariants.{Role, RoleGone, RoleGrant}
use Rattle.au_entries.specs.declared.decision.Decision.{Decision}
use Rattle.au_grants.specs.Rights.{AdministersRole, HoldsPrivilege, grant_count}

-- no room for one more role, or for the grant of it
abbrev pub has_no_room : Setting → Bool
has_no_room setting = is_full (length setting.roles) || nat_le GRANTS (grant_count setting.grants)

-- CREATE ROLE: the privilege; a name that can be a new one; room for one more role and one more grant. The role is granted to
-- its creator with admin option.
abbrev pub create_role : Bool → Setting → List ℕ → Decision
create_role held setting name =
    decided ((not held, PRIVILEGE_MISSING) ∷ [])
    ((is_taken setting name, ROLE_NAME_USED) ∷ (has_no_room setting, TOO_MANY_OBJECTS) ∷ [])
    (CreateRole ∷ [])
    (Role name ∷ RoleGrant setting.user name true ∷ [])

abbrev pub DecidesCreateRole : Setting → List ℕ → Decision → Type 0
DecidesCreateRole setting name decision =
    (held : Bool) × Tells held (HoldsPrivilege setting.grants setting.user CreateRole) × (decision ≡ create_role held setting name)

-- one of the two roles of auditing, which stay
abbrev pub is_audit_role : List ℕ → Bool
is_audit_role name = bytes_eq name audit_admin || bytes_eq name audit_viewer

-- DROP ROLE: a role of that name, and none of the two of auditing; its admin option, or else the privilege
abbrev pub drop_role : Bool → Bool → Setting → List ℕ → Decision
drop_role administered held setting name =
    decided ((not (has_role setting name), NO_SUCH_ROLE) ∷ (is_audit_role name, PRIVILEGE_MISSING)
    ∷ (not administered && not held, PRIVILEGE_MISSING) ∷ [])
    []
    (if administered then [] else DropAnyRole ∷ [])
    (RoleGone name ∷ [])

abbrev pub DecidesDropRole : Setting → List ℕ → Decision → Type 0
DecidesDropRole setting name decision =
    (administered held : Bool) × Tells administered (AdministersRole setting.grants setting.user name)
    × Tells held (HoldsPrivilege setting.grants setting.user DropAnyRole) × (decision ≡ drop_role administered held setting name)
