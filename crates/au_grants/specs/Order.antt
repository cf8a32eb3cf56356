-- The byte order of grants, in which lists of them stand (the order is this project's profile).
use Rattle.std.specs.Prelude.{ℕ, ◌≤◌, List, [], ◌∷◌, Bool, IsTrue}
pub use Rattle.au_base.specs.Order.{fields_before, is_in_order, name_before as comes_before, placed}
use Rattle.au_base.specs.Actions as actions
use Rattle.au_base.specs.Limits.{GRANTS}
use Rattle.au_base.specs.Privileges as privileges
use Rattle.au_grants.specs.Rights.{Grants, SystemEntry, RoleEntry, ObjectEntry, grant_count}

-- the fields of a grant of a system privilege that order it: the grantee, and the privilege's code
abbrev pub system_fields : SystemEntry → List (List ℕ)
system_fields entry = entry.0 ∷ (privileges.code_of entry.1 ∷ []) ∷ []

-- those of a grant of a role: the grantee and the role
abbrev pub role_fields : RoleEntry → List (List ℕ)
role_fields entry = entry.0 ∷ entry.1 ∷ []

-- those of a grant of an object privilege: the grantee, the table's owner and name, and the action's code
abbrev pub object_fields : ObjectEntry → List (List ℕ)
object_fields entry = entry.0 ∷ entry.1.owner ∷ entry.1.name ∷ (actions.code_of entry.2 ∷ []) ∷ []

-- the first grant of a system privilege comes before the second
abbrev pub system_before : SystemEntry → SystemEntry → Bool
system_before a b = fields_before (system_fields a) (system_fields b)

-- the same of grants of roles
abbrev pub role_before : RoleEntry → RoleEntry → Bool
role_before a b = fields_before (role_fields a) (role_fields b)

-- the same of grants of object privileges
abbrev pub object_before : ObjectEntry → ObjectEntry → Bool
object_before a b = fields_before (object_fields a) (object_fields b)

-- the grants of each kind stand in order
abbrev pub AreInOrder : Grants → Type 0
AreInOrder grants =
    IsTrue (is_in_order system_before grants.system) × IsTrue (is_in_order role_before grants.role) × IsTrue (is_in_order object_before grants.object)

-- grants as they are kept: the grants of each kind stand in order, and there are 100,000 at most of all kinds
pub record AreKept (grants : Grants) : Type 0 where
  pub in_order : AreInOrder grants
  pub few : grant_count grants ≤ GRANTS
