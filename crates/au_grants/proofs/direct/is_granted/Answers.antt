use Rattle.std.proofs.Common.{◌≡◌, ◌↔◌, ◌∙◌, sym, ap, subst, Bool, true, List}
use Rattle.std.specs.List.{list_any}
use Rattle.au_grants.specs.declared.grants.Grants.{Grants}
use Rattle.au_grants.specs.declared.right.Sought.{Sought}
use Rattle.au_grants.specs.descent.Direct.{IsGranted}
use Rattle.au_grants.specs.Rights.{Name}
use Rattle.au_grants.proofs.Entries.{role_granted, role_administered, privilege_granted, privilege_administered, any_table_granted, object_granted, some_object_granted}
use Rattle.au_grants.proofs.direct.is_granted.Goals as goal

-- a test of a list that equals another list decides what it does there
along : {X : Type 0} (test : List X → Bool) {b : Bool} {xs ys : List X} {P : Type 0} → b ≡ test xs → xs ≡ ys → (test ys ≡ true) ↔ P → (b ≡ true) ↔ P
along test same lists decides = (λ is. decides.0 (sym (same ∙ ap test lists) ∙ is), λ holds. same ∙ ap test lists ∙ decides.1 holds)

-- what is decided of a right is decided of one that equals it
at_right : (b : Bool) (grants : Grants) (holder : Name) (right same : Sought) → right ≡ same → (b ≡ true) ↔ IsGranted grants holder same → (b ≡ true) ↔ IsGranted grants holder right
at_right b grants holder right same is decides = subst (λ (r : Sought). (b ≡ true) ↔ IsGranted grants holder r) (sym is) decides

pub returns-in-Role : goal.returns-in-Role
returns-in-Role c = at_right _ _ _ _ _ c.in-Role.is (along (list_any _) c.has_role.ensures c.role_grants.ensures.value (role_granted _ _ _))

pub returns-in-RoleWithAdmin : goal.returns-in-RoleWithAdmin
returns-in-RoleWithAdmin c = at_right _ _ _ _ _ c.in-RoleWithAdmin.is (along (list_any _) c.has_role_as.ensures c.role_grants-in-RoleWithAdmin.ensures.value (role_administered _ _ _))

pub returns-in-Privilege : goal.returns-in-Privilege
returns-in-Privilege c = at_right _ _ _ _ _ c.in-Privilege.is (along (list_any _) c.has_privilege.ensures c.system_grants.ensures.value (privilege_granted _ _ _))

pub returns-in-PrivilegeWithAdmin : goal.returns-in-PrivilegeWithAdmin
returns-in-PrivilegeWithAdmin c = at_right _ _ _ _ _ c.in-PrivilegeWithAdmin.is (along (list_any _) c.has_privilege_as.ensures c.system_grants-in-PrivilegeWithAdmin.ensures.value (privilege_administered _ _ _))

pub returns-in-AnyTable : goal.returns-in-AnyTable
returns-in-AnyTable c = at_right _ _ _ _ _ c.in-AnyTable.is (along (list_any _) c.has_any_table.ensures c.system_grants-in-AnyTable.ensures.value (any_table_granted _ _))

pub returns-in-Object : goal.returns-in-Object
returns-in-Object c = at_right _ _ _ _ _ c.in-Object.is (along (list_any _) c.has_object.ensures c.object_grants.ensures.value (object_granted _ _ _ _))

pub returns-in-SomeObject : goal.returns-in-SomeObject
returns-in-SomeObject c = at_right _ _ _ _ _ c.in-SomeObject.is (along (list_any _) c.has_some_object.ensures c.object_grants-in-SomeObject.ensures.value (some_object_granted _ _ _))
