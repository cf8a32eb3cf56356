-- What stands at the place of a grant says whether it is granted.
use Rattle.std.proofs.Common.{◌≡◌, ◌≤◌, ◌<◌, ℕ, Bool, true, false, not, ◌&&◌, ◌||◌, ◌==◌, List, [], ◌∷◌, length, get_or, refl, sym, ap, ◌∙◌}
use Rattle.std.specs.List.{list_any}
use Rattle.std.specs.Str.{bytes_eq}
use Rattle.std.proofs.lemmas.Bool.{and_parts, and_from, or_left, or_right}
use Rattle.au_base.specs.declared.action.Action.{Action}
use Rattle.au_base.specs.declared.privilege.Privilege.{Privilege}
use Rattle.au_base.specs.declared.privilege.Privilege.TheVariants as P
use Rattle.au_base.specs.declared.table.TableName.{TableName}
use Rattle.au_base.specs.Actions as actions
use Rattle.au_base.specs.Privileges as privileges
use Rattle.au_grants.specs.Changing.{role_to}
use Rattle.au_grants.specs.descent.Halving.{IsPlaceOf}
use Rattle.au_grants.specs.Holding.{grants_role, grants_privilege, grants_object, is_any_table, same_privilege}
use Rattle.au_grants.specs.descent.Direct.{grants_any_table, grants_some_object}
use Rattle.au_grants.specs.Order.{is_in_order, object_before, object_fields, role_before, role_fields, system_before, system_fields}
use Rattle.au_grants.specs.Rights.{Name, ObjectEntry, RoleEntry, SystemEntry}
use Rattle.au_grants.specs.Holding.{grants_privilege_as, grants_role_as}
use Rattle.au_grants.proofs.Entries.{nat_eq-is, nat_eq-to, same_name-is, same_name-to}
use Rattle.au_grants.proofs.Halving.{IsFront, any_at, any_only_at, none_at}

-- each test is passed by what begins with the fields that are asked for
role_to_front : (grantee : Name) (x : RoleEntry) → role_to grantee x ≡ true → IsFront (grantee ∷ []) (role_fields x)
role_to_front grantee x is = (same_name-is _ _ is, tt)

role_to_from : (grantee : Name) (x : RoleEntry) → IsFront (grantee ∷ []) (role_fields x) → role_to grantee x ≡ true
role_to_from grantee x front = same_name-to _ _ front.0

role_front : (grantee role : Name) (x : RoleEntry) → grants_role grantee role x ≡ true → IsFront (grantee ∷ role ∷ []) (role_fields x)
role_front grantee role x is = let parts = and_parts (bytes_eq x.0 grantee) (bytes_eq x.1 role) is in (same_name-is _ _ parts.0, (same_name-is _ _ parts.1, tt))

role_from : (grantee role : Name) (x : RoleEntry) → IsFront (grantee ∷ role ∷ []) (role_fields x) → grants_role grantee role x ≡ true
role_from grantee role x front = and_from _ _ (same_name-to _ _ front.0) (same_name-to _ _ front.1.0)

code_front : (a b : ℕ) → a ≡ b → a ∷ [] ≡ b ∷ []
code_front a b same = ap (λ n. n ∷ []) same

code_from : (a b : ℕ) → a ∷ [] ≡ b ∷ [] → a ≡ b
code_from a b same = ap (λ xs. get_or xs 0 0) same

system_front : (grantee : Name) (privilege : Privilege) (x : SystemEntry) → grants_privilege grantee privilege x ≡ true → IsFront (grantee ∷ (privileges.code_of privilege ∷ []) ∷ []) (system_fields x)
system_front grantee privilege x is =
    let parts = and_parts (bytes_eq x.0 grantee) (same_privilege x.1 privilege) is in
    (same_name-is _ _ parts.0, (code_front _ _ (nat_eq-is _ _ parts.1), tt))

system_from : (grantee : Name) (privilege : Privilege) (x : SystemEntry) → IsFront (grantee ∷ (privileges.code_of privilege ∷ []) ∷ []) (system_fields x) → grants_privilege grantee privilege x ≡ true
system_from grantee privilege x front = and_from _ _ (same_name-to _ _ front.0) (nat_eq-to _ _ (code_from _ _ front.1.0))

object_front : (grantee : Name) (table : TableName) (action : Action) (x : ObjectEntry) → grants_object grantee table action x ≡ true
    → IsFront (grantee ∷ table.owner ∷ table.name ∷ (actions.code_of action ∷ []) ∷ []) (object_fields x)
object_front grantee table action x is =
    let parts = and_parts _ (actions.code_of x.2 == actions.code_of action) is in
    let front = and_parts (bytes_eq x.0 grantee) _ parts.0 in
    let on = and_parts (bytes_eq x.1.owner table.owner) (bytes_eq x.1.name table.name) front.1 in
    (same_name-is _ _ front.0, (same_name-is _ _ on.0, (same_name-is _ _ on.1, (code_front _ _ (nat_eq-is _ _ parts.1), tt))))

object_from : (grantee : Name) (table : TableName) (action : Action) (x : ObjectEntry)
    → IsFront (grantee ∷ table.owner ∷ table.name ∷ (actions.code_of action ∷ []) ∷ []) (object_fields x) → grants_object grantee table action x ≡ true
object_from grantee table action x front =
    and_from _ _ (and_from _ _ (same_name-to _ _ front.0) (and_from _ _ (same_name-to _ _ front.1.0) (same_name-to _ _ front.1.1.0))) (nat_eq-to _ _ (code_from _ _ front.1.1.1.0))

table_front : (grantee : Name) (table : TableName) (x : ObjectEntry) → grants_some_object grantee table x ≡ true → IsFront (grantee ∷ table.owner ∷ table.name ∷ []) (object_fields x)
table_front grantee table x is =
    let front = and_parts (bytes_eq x.0 grantee) _ is in
    let on = and_parts (bytes_eq x.1.owner table.owner) (bytes_eq x.1.name table.name) front.1 in
    (same_name-is _ _ front.0, (same_name-is _ _ on.0, (same_name-is _ _ on.1, tt)))

table_from : (grantee : Name) (table : TableName) (x : ObjectEntry) → IsFront (grantee ∷ table.owner ∷ table.name ∷ []) (object_fields x) → grants_some_object grantee table x ≡ true
table_from grantee table x front = and_from _ _ (same_name-to _ _ front.0) (and_from _ _ (same_name-to _ _ front.1.0) (same_name-to _ _ front.1.1.0))

-- whether anything passes, by the entry at the place
pub grantee_at : (grantee : Name) (xs : List RoleEntry) (k : ℕ) (d : RoleEntry) → is_in_order role_before xs ≡ true → IsPlaceOf role_fields (grantee ∷ []) xs k → k < length xs
    → role_to grantee (get_or xs k d) ≡ list_any (role_to grantee) xs
grantee_at grantee xs k d ordered place within = sym (any_at role_fields (grantee ∷ []) (role_to grantee) xs k d (role_to_front grantee) (role_to_from grantee) ordered place within)

pub no_grantee : (grantee : Name) (xs : List RoleEntry) (k : ℕ) → IsPlaceOf role_fields (grantee ∷ []) xs k → length xs ≤ k → false ≡ list_any (role_to grantee) xs
no_grantee grantee xs k place end = sym (none_at role_fields (grantee ∷ []) (role_to grantee) xs k (role_to_front grantee) place end)

pub role_at : (grantee role : Name) (xs : List RoleEntry) (k : ℕ) (d : RoleEntry) → is_in_order role_before xs ≡ true → IsPlaceOf role_fields (grantee ∷ role ∷ []) xs k → k < length xs
    → grants_role grantee role (get_or xs k d) ≡ list_any (grants_role grantee role) xs
role_at grantee role xs k d ordered place within = sym (any_at role_fields (grantee ∷ role ∷ []) (grants_role grantee role) xs k d (role_front grantee role) (role_from grantee role) ordered place within)

pub no_role : (grantee role : Name) (xs : List RoleEntry) (k : ℕ) → IsPlaceOf role_fields (grantee ∷ role ∷ []) xs k → length xs ≤ k → false ≡ list_any (grants_role grantee role) xs
no_role grantee role xs k place end = sym (none_at role_fields (grantee ∷ role ∷ []) (grants_role grantee role) xs k (role_front grantee role) place end)

pub role_as_at : (grantee role : Name) (admin : Bool) (xs : List RoleEntry) (k : ℕ) (d : RoleEntry) → is_in_order role_before xs ≡ true → IsPlaceOf role_fields (grantee ∷ role ∷ []) xs k → k < length xs
    → grants_role_as grantee role admin (get_or xs k d) ≡ list_any (grants_role_as grantee role admin) xs
role_as_at grantee role admin xs k d ordered place within =
    sym (any_only_at role_fields (grantee ∷ role ∷ []) (grants_role grantee role) (λ x. x.2 || not admin) xs k d (role_front grantee role) (λ x front. ap2 front.0 front.1.0) ordered place within)
  where
    ap2 : {a b c e : List ℕ} → a ≡ b → c ≡ e → a ∷ c ∷ [] ≡ b ∷ e ∷ []
    ap2 one two i = one i ∷ two i ∷ []

pub no_role_as : (grantee role : Name) (admin : Bool) (xs : List RoleEntry) (k : ℕ) → IsPlaceOf role_fields (grantee ∷ role ∷ []) xs k → length xs ≤ k → false ≡ list_any (grants_role_as grantee role admin) xs
no_role_as grantee role admin xs k place end =
    sym (none_at role_fields (grantee ∷ role ∷ []) (grants_role_as grantee role admin) xs k (λ x is. role_front grantee role x (and_parts (grants_role grantee role x) _ is).0) place end)

pub system_at : (grantee : Name) (privilege : Privilege) (xs : List SystemEntry) (k : ℕ) (d : SystemEntry) → is_in_order system_before xs ≡ true
    → IsPlaceOf system_fields (grantee ∷ (privileges.code_of privilege ∷ []) ∷ []) xs k → k < length xs
    → grants_privilege grantee privilege (get_or xs k d) ≡ list_any (grants_privilege grantee privilege) xs
system_at grantee privilege xs k d ordered place within =
    sym (any_at system_fields (grantee ∷ (privileges.code_of privilege ∷ []) ∷ []) (grants_privilege grantee privilege) xs k d (system_front grantee privilege) (system_from grantee privilege) ordered place within)

pub no_system : (grantee : Name) (privilege : Privilege) (xs : List SystemEntry) (k : ℕ) → IsPlaceOf system_fields (grantee ∷ (privileges.code_of privilege ∷ []) ∷ []) xs k → length xs ≤ k
    → false ≡ list_any (grants_privilege grantee privilege) xs
no_system grantee privilege xs k place end = sym (none_at system_fields (grantee ∷ (privileges.code_of privilege ∷ []) ∷ []) (grants_privilege grantee privilege) xs k (system_front grantee privilege) place end)

pub system_as_at : (grantee : Name) (privilege : Privilege) (admin : Bool) (xs : List SystemEntry) (k : ℕ) (d : SystemEntry) → is_in_order system_before xs ≡ true
    → IsPlaceOf system_fields (grantee ∷ (privileges.code_of privilege ∷ []) ∷ []) xs k → k < length xs
    → grants_privilege_as grantee privilege admin (get_or xs k d) ≡ list_any (grants_privilege_as grantee privilege admin) xs
system_as_at grantee privilege admin xs k d ordered place within =
    sym (any_only_at system_fields (grantee ∷ (privileges.code_of privilege ∷ []) ∷ []) (grants_privilege grantee privilege) (λ x. x.2 || not admin) xs k d (system_front grantee privilege) (λ x front. ap2 front.0 front.1.0) ordered place within)
  where
    ap2 : {a b c e : List ℕ} → a ≡ b → c ≡ e → a ∷ c ∷ [] ≡ b ∷ e ∷ []
    ap2 one two i = one i ∷ two i ∷ []

pub no_system_as : (grantee : Name) (privilege : Privilege) (admin : Bool) (xs : List SystemEntry) (k : ℕ) → IsPlaceOf system_fields (grantee ∷ (privileges.code_of privilege ∷ []) ∷ []) xs k → length xs ≤ k
    → false ≡ list_any (grants_privilege_as grantee privilege admin) xs
no_system_as grantee privilege admin xs k place end =
    sym (none_at system_fields (grantee ∷ (privileges.code_of privilege ∷ []) ∷ []) (grants_privilege_as grantee privilege admin) xs k (λ x is. system_front grantee privilege x (and_parts (grants_privilege grantee privilege x) _ is).0) place end)

pub object_at : (grantee : Name) (table : TableName) (action : Action) (xs : List ObjectEntry) (k : ℕ) (d : ObjectEntry) → is_in_order object_before xs ≡ true
    → IsPlaceOf object_fields (grantee ∷ table.owner ∷ table.name ∷ (actions.code_of action ∷ []) ∷ []) xs k → k < length xs
    → grants_object grantee table action (get_or xs k d) ≡ list_any (grants_object grantee table action) xs
object_at grantee table action xs k d ordered place within =
    sym (any_at object_fields (grantee ∷ table.owner ∷ table.name ∷ (actions.code_of action ∷ []) ∷ []) (grants_object grantee table action) xs k d (object_front grantee table action) (object_from grantee table action) ordered place within)

pub no_object : (grantee : Name) (table : TableName) (action : Action) (xs : List ObjectEntry) (k : ℕ)
    → IsPlaceOf object_fields (grantee ∷ table.owner ∷ table.name ∷ (actions.code_of action ∷ []) ∷ []) xs k → length xs ≤ k → false ≡ list_any (grants_object grantee table action) xs
no_object grantee table action xs k place end = sym (none_at object_fields (grantee ∷ table.owner ∷ table.name ∷ (actions.code_of action ∷ []) ∷ []) (grants_object grantee table action) xs k (object_front grantee table action) place end)

pub table_at : (grantee : Name) (table : TableName) (xs : List ObjectEntry) (k : ℕ) (d : ObjectEntry) → is_in_order object_before xs ≡ true
    → IsPlaceOf object_fields (grantee ∷ table.owner ∷ table.name ∷ []) xs k → k < length xs
    → grants_some_object grantee table (get_or xs k d) ≡ list_any (grants_some_object grantee table) xs
table_at grantee table xs k d ordered place within =
    sym (any_at object_fields (grantee ∷ table.owner ∷ table.name ∷ []) (grants_some_object grantee table) xs k d (table_front grantee table) (table_from grantee table) ordered place within)

pub no_table : (grantee : Name) (table : TableName) (xs : List ObjectEntry) (k : ℕ)
    → IsPlaceOf object_fields (grantee ∷ table.owner ∷ table.name ∷ []) xs k → length xs ≤ k → false ≡ list_any (grants_some_object grantee table) xs
no_table grantee table xs k place end = sym (none_at object_fields (grantee ∷ table.owner ∷ table.name ∷ []) (grants_some_object grantee table) xs k (table_front grantee table) place end)

-- a privilege on any table is one of four
any_one : (p : Privilege) → is_any_table p ≡ (((same_privilege p P.SelectAnyTable || same_privilege p P.InsertAnyTable) || same_privilege p P.UpdateAnyTable) || same_privilege p P.DeleteAnyTable)
any_one P.AlterUser = refl
any_one P.AuditSystem = refl
any_one P.CreateAnyTable = refl
any_one P.CreateRole = refl
any_one P.CreateSession = refl
any_one P.CreateTable = refl
any_one P.CreateUser = refl
any_one P.DeleteAnyTable = refl
any_one P.DropAnyRole = refl
any_one P.DropAnyTable = refl
any_one P.DropUser = refl
any_one P.GrantAnyObjectPrivilege = refl
any_one P.GrantAnyPrivilege = refl
any_one P.GrantAnyRole = refl
any_one P.InsertAnyTable = refl
any_one P.SelectAnyTable = refl
any_one P.UpdateAnyTable = refl

spread : (a b c d e : Bool) → (a && (((b || c) || d) || e)) ≡ ((((a && b) || (a && c)) || (a && d)) || (a && e))
spread true b c d e = refl
spread false b c d e = refl

turned : (a b c d p q r s : Bool) → ((((a || b) || c) || d) || (((p || q) || r) || s)) ≡ ((((a || p) || (b || q)) || (c || r)) || (d || s))
turned true b c d p q r s = refl
turned false true c d true q r s = refl
turned false true c d false q r s = refl
turned false false true d true q r s = refl
turned false false true d false true r s = refl
turned false false true d false false r s = refl
turned false false false true true q r s = refl
turned false false false true false true r s = refl
turned false false false true false false true s = refl
turned false false false true false false false s = refl
turned false false false false true q r s = refl
turned false false false false false true r s = refl
turned false false false false false false true s = refl
turned false false false false false false false s = refl

pub four_privileges : (grantee : Name) (xs : List SystemEntry)
    → (((list_any (grants_privilege grantee P.SelectAnyTable) xs || list_any (grants_privilege grantee P.InsertAnyTable) xs) || list_any (grants_privilege grantee P.UpdateAnyTable) xs) || list_any (grants_privilege grantee P.DeleteAnyTable) xs)
    ≡ list_any (grants_any_table grantee) xs
four_privileges grantee [] = refl
four_privileges grantee (x ∷ xs) =
    sym (turned (grants_privilege grantee P.SelectAnyTable x) (grants_privilege grantee P.InsertAnyTable x) (grants_privilege grantee P.UpdateAnyTable x) (grants_privilege grantee P.DeleteAnyTable x)
    (list_any (grants_privilege grantee P.SelectAnyTable) xs) (list_any (grants_privilege grantee P.InsertAnyTable) xs) (list_any (grants_privilege grantee P.UpdateAnyTable) xs) (list_any (grants_privilege grantee P.DeleteAnyTable) xs))
    ∙ (λ i. sym (ap (λ b. bytes_eq x.0 grantee && b) (any_one x.1) ∙ spread (bytes_eq x.0 grantee) (same_privilege x.1 P.SelectAnyTable) (same_privilege x.1 P.InsertAnyTable) (same_privilege x.1 P.UpdateAnyTable) (same_privilege x.1 P.DeleteAnyTable)) i || four_privileges grantee xs i)

pub any_by_select : (grantee : Name) (xs : List SystemEntry) → list_any (grants_privilege grantee P.SelectAnyTable) xs ≡ true → true ≡ list_any (grants_any_table grantee) xs
any_by_select grantee xs is = sym (or_left _ _ (or_left _ _ (or_left _ _ is))) ∙ four_privileges grantee xs

pub any_by_insert : (grantee : Name) (xs : List SystemEntry) → list_any (grants_privilege grantee P.InsertAnyTable) xs ≡ true → true ≡ list_any (grants_any_table grantee) xs
any_by_insert grantee xs is = sym (or_left _ _ (or_left _ _ (or_right _ _ is))) ∙ four_privileges grantee xs

pub any_by_update : (grantee : Name) (xs : List SystemEntry) → list_any (grants_privilege grantee P.UpdateAnyTable) xs ≡ true → true ≡ list_any (grants_any_table grantee) xs
any_by_update grantee xs is = sym (or_left _ _ (or_right _ _ is)) ∙ four_privileges grantee xs
