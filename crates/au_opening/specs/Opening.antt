-- What is kept in a store that nobody has used yet (Database Security Guide, "Configuring Privilege and Role
-- Authorization"; what stands in it is this project's profile). The verifier of a password is a digest by FIPS 180-4,
-- section 6.2.
use Rattle.std.specs.Prelude.{ℕ, Bool, true, false, List, [], ◌∷◌, ◌++◌, map, None}
use Rattle.sha2.specs.Sha256.{sha256}
use Rattle.au_base.specs.declared.action.Action.TheVariants.{All}
use Rattle.au_base.specs.declared.privilege.Privilege.{Privilege}
use Rattle.au_base.specs.declared.privilege.Privilege.TheVariants.{AlterUser, AuditSystem, CreateAnyTable, CreateRole, CreateSession, CreateTable, CreateUser, DeleteAnyTable, DropAnyRole, DropAnyTable, DropUser, GrantAnyObjectPrivilege, GrantAnyPrivilege, GrantAnyRole, InsertAnyTable, SelectAnyTable, UpdateAnyTable}
pub use Rattle.au_base.specs.BuiltIn.{sys, audit_admin, audit_viewer, p_all}
use Rattle.au_entries.specs.declared.change.Change.{Change}
use Rattle.au_entries.specs.declared.kept.Kept.{Kept}
use Rattle.au_entries.specs.declared.policy.AuditPolicy.{AuditPolicy}
use Rattle.au_entries.specs.Imaging.{system_change}
use Rattle.au_grants.specs.declared.grants.Grants.{Grants}

-- the digest of the user's name, a byte 0 and the password
abbrev pub verifier : List ℕ → List ℕ → List ℕ
verifier user password = sha256 (user ++ 0 ∷ password)

-- all system privileges, in the order of their numbers
abbrev pub each_privilege : List Privilege
each_privilege =
    AlterUser ∷ AuditSystem ∷ CreateAnyTable ∷ CreateRole ∷ CreateSession ∷ CreateTable ∷ CreateUser ∷ DeleteAnyTable ∷ DropAnyRole
    ∷ DropAnyTable ∷ DropUser ∷ GrantAnyObjectPrivilege ∷ GrantAnyPrivilege ∷ GrantAnyRole ∷ InsertAnyTable ∷ SelectAnyTable ∷ UpdateAnyTable ∷ []

-- the privilege is granted to SYS with admin option
abbrev pub granted_to_sys : Privilege → List ℕ × Privilege × Bool
granted_to_sys privilege = (sys, privilege, true)

-- the same, as a change
abbrev pub right_of_sys : Privilege → Change
right_of_sys privilege = system_change (granted_to_sys privilege)

-- the policy that meets every statement
abbrev pub policy_of_all : AuditPolicy
policy_of_all = record { name = p_all; privileges = []; actions = (All, None) ∷ []; roles = []; when = None }

-- the user SYS, with this password
abbrev pub opening_users : List ℕ → List (List ℕ × List ℕ)
opening_users password = (sys, verifier sys password) ∷ []

-- the two roles of auditing
abbrev pub opening_roles : List (List ℕ)
opening_roles = audit_admin ∷ audit_viewer ∷ []

-- AUDIT SYSTEM is granted to AUDIT_ADMIN, and all system privileges to SYS
abbrev pub opening_system : List (List ℕ × Privilege × Bool)
opening_system = (audit_admin, AuditSystem, false) ∷ map granted_to_sys each_privilege

-- both roles are granted to SYS with admin option
abbrev pub opening_role_grants : List (List ℕ × List ℕ × Bool)
opening_role_grants = (sys, audit_admin, true) ∷ (sys, audit_viewer, true) ∷ []

abbrev pub opening_grants : Grants
opening_grants = record { system = opening_system; role = opening_role_grants; object = [] }

-- What is kept in a new store: the user, the roles, the grants, and a policy of all actions, enabled for nobody. No
-- instance has begun, nothing is recorded, and the last stamp is 0.
abbrev pub opening : List ℕ → Kept
opening password = record {
  users = opening_users password;
  roles = opening_roles;
  grants = opening_grants;
  tables = [];
  rows = [];
  policies = policy_of_all ∷ [];
  enabled = [];
  fga = [];
  trail = [];
  archive = None;
  last = record { 0 = 0 };
  instance = 0;
}
