-- The tests on grants say what the lists of grants have.
use Rattle.std.proofs.Common.{◌≡◌, ◌==◌, ℕ, Bool, true, false, ◌&&◌, ◌||◌, ◌↔◌, List, Some, refl, ap, sym, subst, ◌∙◌, arith}
use Rattle.std.specs.List.{Contains, list_any, find}
use Rattle.std.specs.Str.{bytes_eq}
use Rattle.std.proofs.lemmas.Bool.{and_parts, and_from}
use Rattle.std.proofs.lemmas.Bool.Decides.{nat_tests}
use Rattle.std.proofs.lemmas.Slice.Eq.{bytes_eq-Decides}
use Rattle.std.proofs.lemmas.Option.{same_Some}
use Rattle.au_base.specs.declared.action.Action.{Action}
use Rattle.au_base.specs.declared.action.Action.TheVariants as A
use Rattle.au_base.specs.declared.action.TheConstants.Action as AllActions
use Rattle.au_base.specs.declared.privilege.Privilege.{Privilege}
use Rattle.au_base.specs.declared.privilege.Privilege.TheVariants as P
use Rattle.au_base.specs.declared.privilege.TheConstants.Privilege as AllPrivileges
use Rattle.au_base.specs.declared.table.TableName.{TableName}
use Rattle.au_base.specs.Privileges as privileges
use Rattle.au_base.specs.Actions as actions
use Rattle.au_grants.specs.Holding.{same_table, same_privilege, same_action, grants_role, grants_privilege, grants_object, is_any_table}
use Rattle.au_grants.specs.descent.Direct.{grants_any_table, grants_some_object}
use Rattle.au_grants.specs.Rights.{Name, SystemEntry, RoleEntry, ObjectEntry, IsRoleGranted}
use Rattle.au_grants.specs.Holding.{grants_privilege_as, grants_role_as}
use Rattle.au_grants.proofs.Members.{any_from, any_to}

pub nat_eq-is : (m n : ℕ) → (m == n) ≡ true → m ≡ n
nat_eq-is m n is = grind (arith, nat_tests)

pub nat_eq-to : (m n : ℕ) → m ≡ n → (m == n) ≡ true
nat_eq-to m n same = grind (arith, nat_tests)

nat_eq-same : (m : ℕ) → (m == m) ≡ true
nat_eq-same m = grind (arith, nat_tests)

first_privilege : (privilege : Privilege) → find (λ other. privileges.code_of other == privileges.code_of privilege) AllPrivileges.EACH ≡ Some privilege
first_privilege P.AlterUser = refl
first_privilege P.AuditSystem = refl
first_privilege P.CreateAnyTable = refl
first_privilege P.CreateRole = refl
first_privilege P.CreateSession = refl
first_privilege P.CreateTable = refl
first_privilege P.CreateUser = refl
first_privilege P.DeleteAnyTable = refl
first_privilege P.DropAnyRole = refl
first_privilege P.DropAnyTable = refl
first_privilege P.DropUser = refl
first_privilege P.GrantAnyObjectPrivilege = refl
first_privilege P.GrantAnyPrivilege = refl
first_privilege P.GrantAnyRole = refl
first_privilege P.InsertAnyTable = refl
first_privilege P.SelectAnyTable = refl
first_privilege P.UpdateAnyTable = refl

first_action : (action : Action) → find (λ other. actions.code_of other == actions.code_of action) AllActions.EACH ≡ Some action
first_action A.All = refl
first_action A.Select = refl
first_action A.Insert = refl
first_action A.Update = refl
first_action A.Delete = refl
first_action A.Commit = refl
first_action A.Rollback = refl
first_action A.CreateTable = refl
first_action A.DropTable = refl
first_action A.CreateUser = refl
first_action A.AlterUser = refl
first_action A.DropUser = refl
first_action A.CreateRole = refl
first_action A.DropRole = refl
first_action A.Grant = refl
first_action A.Revoke = refl
first_action A.CreateAuditPolicy = refl
first_action A.DropAuditPolicy = refl
first_action A.Audit = refl
first_action A.Noaudit = refl
first_action A.Execute = refl
first_action A.Logon = refl
first_action A.Logoff = refl

-- the tests of sameness decide
pub same_name-is : (a b : Name) → bytes_eq a b ≡ true → a ≡ b
same_name-is a b is = (bytes_eq-Decides a b).0 is

pub same_name-to : (a b : Name) → a ≡ b → bytes_eq a b ≡ true
same_name-to a b same = (bytes_eq-Decides a b).1 same

pub same_name-refl : (a : Name) → bytes_eq a a ≡ true
same_name-refl a = (bytes_eq-Decides a a).1 refl

pub same_privilege-is : (a b : Privilege) → same_privilege a b ≡ true → a ≡ b
same_privilege-is a b is =
    let codes : privileges.code_of a ≡ privileges.code_of b = nat_eq-is _ _ is in
    same_Some a b (sym (first_privilege a) ∙ subst (λ (code : ℕ). find (λ other. privileges.code_of other == code) AllPrivileges.EACH ≡ Some b) (sym codes) (first_privilege b))

pub same_privilege-refl : (a : Privilege) → same_privilege a a ≡ true
same_privilege-refl a = nat_eq-same (privileges.code_of a)

pub same_action-is : (a b : Action) → same_action a b ≡ true → a ≡ b
same_action-is a b is =
    let codes : actions.code_of a ≡ actions.code_of b = nat_eq-is _ _ is in
    same_Some a b (sym (first_action a) ∙ subst (λ (code : ℕ). find (λ other. actions.code_of other == code) AllActions.EACH ≡ Some b) (sym codes) (first_action b))

pub same_action-refl : (a : Action) → same_action a a ≡ true
same_action-refl a = nat_eq-same (actions.code_of a)

pub same_table-is : (a b : TableName) → same_table a b ≡ true → a ≡ b
same_table-is a b is =
    let parts = and_parts (bytes_eq a.owner b.owner) (bytes_eq a.name b.name) is in
    let owners : a.owner ≡ b.owner = same_name-is _ _ parts.0 in
    let names : a.name ≡ b.name = same_name-is _ _ parts.1 in
    let table : Name → Name → TableName = λ owner name. record { owner = owner; name = name } in
    let half : table a.owner a.name ≡ table b.owner a.name = ap (λ (owner : Name). table owner a.name) owners in
    half ∙ ap (λ (name : Name). table b.owner name) names

pub same_table-refl : (a : TableName) → same_table a a ≡ true
same_table-refl a = and_from _ _ (same_name-refl a.owner) (same_name-refl a.name)

-- an entry that passes the test is the grant, with some admin option
pub grants_role-is : (grantee role : Name) (entry : RoleEntry) → grants_role grantee role entry ≡ true → entry ≡ (grantee, role, entry.2)
grants_role-is grantee role (to, granted, admin) is =
    let parts = and_parts (bytes_eq to grantee) (bytes_eq granted role) is in
    let grantees : to ≡ grantee = same_name-is _ _ parts.0 in
    let roles : granted ≡ role = same_name-is _ _ parts.1 in
    cc

pub grants_role-refl : (grantee role : Name) (admin : Bool) → grants_role grantee role (grantee, role, admin) ≡ true
grants_role-refl grantee role admin = and_from _ _ (same_name-refl grantee) (same_name-refl role)

pub grants_privilege-is : (grantee : Name) (privilege : Privilege) (entry : SystemEntry) → grants_privilege grantee privilege entry ≡ true → entry ≡ (grantee, privilege, entry.2)
grants_privilege-is grantee privilege (to, granted, admin) is =
    let parts = and_parts (bytes_eq to grantee) (same_privilege granted privilege) is in
    let grantees : to ≡ grantee = same_name-is _ _ parts.0 in
    let same : granted ≡ privilege = same_privilege-is _ _ parts.1 in
    cc

pub grants_privilege-refl : (grantee : Name) (privilege : Privilege) (admin : Bool) → grants_privilege grantee privilege (grantee, privilege, admin) ≡ true
grants_privilege-refl grantee privilege admin = and_from _ _ (same_name-refl grantee) (same_privilege-refl privilege)

pub grants_object-is : (grantee : Name) (table : TableName) (action : Action) (entry : ObjectEntry) → grants_object grantee table action entry ≡ true → entry ≡ (grantee, table, action)
grants_object-is grantee table action (to, on, granted) is =
    let parts = and_parts (bytes_eq to grantee && same_table on table) (same_action granted action) is in
    let front = and_parts (bytes_eq to grantee) (same_table on table) parts.0 in
    let grantees : to ≡ grantee = same_name-is _ _ front.0 in
    let tables : on ≡ table = same_table-is _ _ front.1 in
    let same : granted ≡ action = same_action-is _ _ parts.1 in
    cc

pub grants_some_object-is : (grantee : Name) (table : TableName) (entry : ObjectEntry) → grants_some_object grantee table entry ≡ true → entry ≡ (grantee, table, entry.2)
grants_some_object-is grantee table (to, on, which) is =
    let parts = and_parts (bytes_eq to grantee) (same_table on table) is in
    let grantees : to ≡ grantee = same_name-is _ _ parts.0 in
    let tables : on ≡ table = same_table-is _ _ parts.1 in
    cc

pub grants_object-refl : (grantee : Name) (table : TableName) (action : Action) → grants_object grantee table action (grantee, table, action) ≡ true
grants_object-refl grantee table action = and_from _ _ (and_from _ _ (same_name-refl grantee) (same_table-refl table)) (same_action-refl action)

or_false : (b : Bool) → (b || false) ≡ true → b ≡ true
or_false true is = refl
or_false false is = is

-- the tests on whole lists
pub role_granted : (roles : List RoleEntry) (grantee role : Name) → (list_any (grants_role grantee role) roles ≡ true) ↔ IsRoleGranted roles grantee role
role_granted roles grantee role = (
  λ is. (let found = any_from (grants_role grantee role) roles is in
      (found.0.2, subst (λ (entry : RoleEntry). Contains roles entry) (grants_role-is grantee role found.0 found.2) found.1)),
  λ is. any_to (grants_role grantee role) roles (grantee, role, is.0) is.1 (grants_role-refl grantee role is.0),
)

pub role_administered : (roles : List RoleEntry) (grantee role : Name) → (list_any (grants_role_as grantee role true) roles ≡ true) ↔ Contains roles (grantee, role, true)
role_administered roles grantee role = (
  λ is. (let found = any_from (grants_role_as grantee role true) roles is in
      let parts = and_parts (grants_role grantee role found.0) (found.0.2 || false) found.2 in
      let same : found.0 ≡ (grantee, role, found.0.2) = grants_role-is grantee role found.0 parts.0 in
      let admin : found.0.2 ≡ true = or_false found.0.2 parts.1 in
      subst (λ (entry : RoleEntry). Contains roles entry) (same ∙ ap (λ (b : Bool). (grantee, role, b)) admin) found.1),
  λ is. any_to (grants_role_as grantee role true) roles (grantee, role, true) is (and_from _ _ (grants_role-refl grantee role true) refl),
)

pub privilege_granted : (system : List SystemEntry) (grantee : Name) (privilege : Privilege) → (list_any (grants_privilege grantee privilege) system ≡ true) ↔ ((admin : Bool) × Contains system (grantee, privilege, admin))
privilege_granted system grantee privilege = (
  λ is. (let found = any_from (grants_privilege grantee privilege) system is in
      (found.0.2, subst (λ (entry : SystemEntry). Contains system entry) (grants_privilege-is grantee privilege found.0 found.2) found.1)),
  λ is. any_to (grants_privilege grantee privilege) system (grantee, privilege, is.0) is.1 (grants_privilege-refl grantee privilege is.0),
)

pub privilege_administered : (system : List SystemEntry) (grantee : Name) (privilege : Privilege) → (list_any (grants_privilege_as grantee privilege true) system ≡ true) ↔ Contains system (grantee, privilege, true)
privilege_administered system grantee privilege = (
  λ is. (let found = any_from (grants_privilege_as grantee privilege true) system is in
      let parts = and_parts (grants_privilege grantee privilege found.0) (found.0.2 || false) found.2 in
      let same : found.0 ≡ (grantee, privilege, found.0.2) = grants_privilege-is grantee privilege found.0 parts.0 in
      let admin : found.0.2 ≡ true = or_false found.0.2 parts.1 in
      subst (λ (entry : SystemEntry). Contains system entry) (same ∙ ap (λ (b : Bool). (grantee, privilege, b)) admin) found.1),
  λ is. any_to (grants_privilege_as grantee privilege true) system (grantee, privilege, true) is (and_from _ _ (grants_privilege-refl grantee privilege true) refl),
)

pub any_table_granted : (system : List SystemEntry) (grantee : Name) → (list_any (grants_any_table grantee) system ≡ true) ↔ ((privilege : Privilege) × (admin : Bool) × (is_any_table privilege ≡ true) × Contains system (grantee, privilege, admin))
any_table_granted system grantee = (
  λ is. (let found = any_from (grants_any_table grantee) system is in
      let parts = and_parts (bytes_eq found.0.0 grantee) (is_any_table found.0.1) found.2 in
      let same : found.0.0 ≡ grantee = same_name-is _ _ parts.0 in
      (found.0.1, found.0.2, parts.1, subst (λ (n : Name). Contains system (n, found.0.1, found.0.2)) same found.1)),
  λ is. any_to (grants_any_table grantee) system (grantee, is.0, is.1) is.3 (and_from _ _ (same_name-refl grantee) is.2),
)

pub object_granted : (object : List ObjectEntry) (grantee : Name) (table : TableName) (action : Action) → (list_any (grants_object grantee table action) object ≡ true) ↔ Contains object (grantee, table, action)
object_granted object grantee table action = (
  λ is. (let found = any_from (grants_object grantee table action) object is in
      subst (λ (entry : ObjectEntry). Contains object entry) (grants_object-is grantee table action found.0 found.2) found.1),
  λ is. any_to (grants_object grantee table action) object (grantee, table, action) is (grants_object-refl grantee table action),
)

pub some_object_granted : (object : List ObjectEntry) (grantee : Name) (table : TableName) → (list_any (grants_some_object grantee table) object ≡ true) ↔ ((action : Action) × Contains object (grantee, table, action))
some_object_granted object grantee table = (
  λ is. (let found = any_from (grants_some_object grantee table) object is in
      (found.0.2, subst (λ (e : ObjectEntry). Contains object e) (grants_some_object-is grantee table found.0 found.2) found.1)),
  λ is. any_to (grants_some_object grantee table) object (grantee, table, is.0) is.1 (and_from _ _ (same_name-refl grantee) (same_table-refl table)),
)
