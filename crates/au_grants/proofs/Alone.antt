-- The one entry of a list in order that passes a test for all its fields.
use Rattle.std.proofs.Common.{◌≡◌, ◌≤◌, ◌<◌, ℕ, zero, suc, cond, Bool, true, false, not, inl, inr, List, [], ◌∷◌, map, length, get_or, set, remove, refl, sym, ap, subst, ◌∙◌, arith}
use Rattle.std.proofs.lemmas.Bool.{cases_lt}
use Rattle.au_base.specs.declared.action.Action.{Action}
use Rattle.au_base.specs.declared.privilege.Privilege.{Privilege}
use Rattle.au_base.specs.declared.table.TableName.{TableName}
use Rattle.au_base.specs.Actions as actions
use Rattle.au_base.specs.Privileges as privileges
use Rattle.au_grants.specs.Changing.{with_admin, without}
use Rattle.au_grants.specs.descent.Halving.{IsPlaceOf}
use Rattle.au_grants.specs.Holding.{grants_object, grants_privilege, grants_role}
use Rattle.au_grants.specs.Order.{fields_before, is_in_order, object_fields, role_fields, system_fields}
use Rattle.au_grants.specs.Rights.{Name, ObjectEntry, RoleEntry, SystemEntry}
use Rattle.au_grants.proofs.Entries.{grants_object-is, grants_privilege-is, grants_role-is}
use Rattle.au_grants.proofs.Halving.{IsFront, front_not_before, order_at}

-- the entries at other places fail
abbrev OthersFail : {X : Type 0} → (X → Bool) → List X → ℕ → X → Type 0
OthersFail test xs k d = (i : ℕ) → i < length xs → (i ≡ k → ⊥) → test (get_or xs i d) ≡ false

-- all entries fail
abbrev AllFail : {X : Type 0} → (X → Bool) → List X → X → Type 0
AllFail test xs d = (i : ℕ) → i < length xs → test (get_or xs i d) ≡ false

mapped_none : {X : Type 0} (test : X → Bool) (f : X → X) (xs : List X) (d : X) → ((x : X) → test x ≡ false → f x ≡ x) → AllFail test xs d → map f xs ≡ xs
mapped_none test f [] d keeps none = refl
mapped_none test f (x ∷ xs) d keeps none =
    let rest = mapped_none test f xs d keeps (λ i less. none (suc i) (omega (arith, less))) in
    ap (λ y. y ∷ map f xs) (keeps x (none 0 (omega arith))) ∙ ap (λ ys. x ∷ ys) rest

mapped_at : {X : Type 0} (test : X → Bool) (f : X → X) (xs : List X) (k : ℕ) (d : X) → ((x : X) → test x ≡ false → f x ≡ x) → OthersFail test xs k d → k < length xs
    → set xs k (f (get_or xs k d)) ≡ map f xs
mapped_at test f [] k d keeps others within = absurd (omega arith)
mapped_at test f (x ∷ xs) zero d keeps others within = ap (λ rest. f x ∷ rest) (sym (mapped_none test f xs d keeps (λ i less. others (suc i) (omega (arith, less)) (λ same. omega (arith, same)))))
mapped_at test f (x ∷ xs) (suc k) d keeps others within =
    let rest = mapped_at test f xs k d keeps (λ i less other. others (suc i) (omega (arith, less)) (λ same. other (omega (arith, same)))) (omega (arith, within)) in
    ap (λ ys. x ∷ ys) rest ∙ ap (λ y. y ∷ map f xs) (sym (keeps x (others 0 (omega arith) (λ same. omega (arith, same)))))

kept_all : {X : Type 0} (test : X → Bool) (xs : List X) (d : X) → AllFail test xs d → without test xs ≡ xs
kept_all test [] d none = refl
kept_all test (x ∷ xs) d none =
    ap (λ b. cond (not b) (x ∷ without test xs) (without test xs)) (none 0 (omega arith)) ∙ ap (λ rest. x ∷ rest) (kept_all test xs d (λ i less. none (suc i) (omega (arith, less))))

removed_at : {X : Type 0} (test : X → Bool) (xs : List X) (k : ℕ) (d : X) → OthersFail test xs k d → k < length xs → test (get_or xs k d) ≡ true → remove xs k ≡ without test xs
removed_at test [] k d others within passes = absurd (omega arith)
removed_at test (x ∷ xs) zero d others within passes =
    sym (ap (λ b. cond (not b) (x ∷ without test xs) (without test xs)) passes ∙ kept_all test xs d (λ i less. others (suc i) (omega (arith, less)) (λ same. omega (arith, same))))
removed_at test (x ∷ xs) (suc k) d others within passes =
    ap (λ rest. x ∷ rest) (removed_at test xs k d (λ i less other. others (suc i) (omega (arith, less)) (λ same. other (omega (arith, same)))) (omega (arith, within)) passes)
    ∙ sym (ap (λ b. cond (not b) (x ∷ without test xs) (without test xs)) (others 0 (omega arith) (λ same. omega (arith, same))))

itself : (fields : List (List ℕ)) → IsFront fields fields
itself [] = tt
itself (x ∷ xs) = (refl, itself xs)

-- no entry passes but the one at the place
others_fail : {X : Type 0} (fields : X → List (List ℕ)) (these : List (List ℕ)) (test : X → Bool) (xs : List X) (k : ℕ) (d : X)
    → ((x : X) → test x ≡ true → fields x ≡ these) → is_in_order (λ a b. fields_before (fields a) (fields b)) xs ≡ true → IsPlaceOf fields these xs k → OthersFail test xs k d
others_fail fields these test xs k d whole ordered place i within other = at (test (get_or xs i d)) refl
  where
    never : fields_before these these ≡ true → ⊥
    never is = (let e : true ≡ false = sym is ∙ front_not_before these these (itself these) in cc)

    at : (b : Bool) → test (get_or xs i d) ≡ b → test (get_or xs i d) ≡ false
    at false fails = fails
    at true passes = absurd (elim (cases_lt i k) [
      | inl less ↦ never (subst (λ f. fields_before f these ≡ true) (whole _ passes) (place.1.0 i d (omega arith) less))
      | inr more ↦ elim (cases_lt k i) [
        | inl less ↦ (let before : fields_before (fields (get_or xs k d)) these ≡ true = subst (λ f. fields_before (fields (get_or xs k d)) f ≡ true) (whole _ passes) (order_at (λ a b. fields_before (fields a) (fields b)) xs k i d ordered less within) in
            let e : true ≡ false = sym before ∙ place.1.1 k d (omega arith) (omega (arith, less, within)) in
            cc)
        | inr back ↦ other (omega (arith, more, back))
      ]
    ])

all_fail : {X : Type 0} (fields : X → List (List ℕ)) (these : List (List ℕ)) (test : X → Bool) (xs : List X) (k : ℕ) (d : X)
    → ((x : X) → test x ≡ true → fields x ≡ these) → is_in_order (λ a b. fields_before (fields a) (fields b)) xs ≡ true → IsPlaceOf fields these xs k → length xs ≤ k → AllFail test xs d
all_fail fields these test xs k d whole ordered place end i within = others_fail fields these test xs k d whole ordered place i within (λ same. omega (arith, end, within, same))

here_too : {X : Type 0} (test : X → Bool) (xs : List X) (k : ℕ) (d : X) → OthersFail test xs k d → test (get_or xs k d) ≡ false → AllFail test xs d
here_too test xs k d others fails i within = elim (cases_lt i k) [
  | inl less ↦ others i within (λ same. omega (arith, less, same))
  | inr more ↦ elim (cases_lt k i) [
    | inl less ↦ others i within (λ same. omega (arith, less, same))
    | inr back ↦ (let same : k ≡ i = omega (arith, more, back) in subst (λ j. test (get_or xs j d) ≡ false) same fails)
  ]
]

pub keeps_other : {X Y : Type 0} (test : X × Y × Bool → Bool) (admin : Bool) (x : X × Y × Bool) → test x ≡ false → with_admin test admin x ≡ x
keeps_other test admin x fails = ap (λ b. cond b (x.0, x.1, admin) x) fails

pub system_whole : (grantee : Name) (privilege : Privilege) (x : SystemEntry) → grants_privilege grantee privilege x ≡ true → system_fields x ≡ grantee ∷ (privileges.code_of privilege ∷ []) ∷ []
system_whole grantee privilege x is = ap system_fields (grants_privilege-is grantee privilege x is)

pub role_whole : (grantee role text : Name) → text ≡ role → (x : RoleEntry) → grants_role grantee role x ≡ true → role_fields x ≡ grantee ∷ text ∷ []
role_whole grantee role text same x is = ap role_fields (grants_role-is grantee role x is) ∙ ap (λ (n : Name). grantee ∷ n ∷ []) (sym same)

pub object_whole : (grantee : Name) (table : TableName) (action : Action) (x : ObjectEntry) → grants_object grantee table action x ≡ true
    → object_fields x ≡ grantee ∷ table.owner ∷ table.name ∷ (actions.code_of action ∷ []) ∷ []
object_whole grantee table action x is = ap object_fields (grants_object-is grantee table action x is)

-- what f makes of the entry at the place is all that it makes
pub set_there : {X : Type 0} (fields : X → List (List ℕ)) (these : List (List ℕ)) (test : X → Bool) (f : X → X) (xs : List X) (k : ℕ) (read new : X)
    → ((x : X) → test x ≡ true → fields x ≡ these) → ((x : X) → test x ≡ false → f x ≡ x) → is_in_order (λ a b. fields_before (fields a) (fields b)) xs ≡ true → IsPlaceOf fields these xs k
    → k < length xs → new ≡ f (get_or xs k read) → set xs k new ≡ map f xs
set_there fields these test f xs k read new whole keeps ordered place within makes =
    ap (λ v. set xs k v) makes ∙ mapped_at test f xs k read keeps (others_fail fields these test xs k read whole ordered place) within

pub set_nowhere : {X : Type 0} (fields : X → List (List ℕ)) (these : List (List ℕ)) (test : X → Bool) (f : X → X) (xs : List X) (k : ℕ)
    → ((x : X) → test x ≡ true → fields x ≡ these) → ((x : X) → test x ≡ false → f x ≡ x) → is_in_order (λ a b. fields_before (fields a) (fields b)) xs ≡ true → IsPlaceOf fields these xs k
    → length xs ≤ k → xs ≡ map f xs
set_nowhere fields these test f [] k whole keeps ordered place end = refl
set_nowhere fields these test f (x ∷ xs) k whole keeps ordered place end =
    sym (mapped_none test f (x ∷ xs) x keeps (all_fail fields these test (x ∷ xs) k x whole ordered place end))

-- the entry at the place passes, and without it none does
pub gone : {X : Type 0} (fields : X → List (List ℕ)) (these : List (List ℕ)) (test : X → Bool) (xs lent now : List X) (k : ℕ) (read : X) (b : Bool)
    → ((x : X) → test x ≡ true → fields x ≡ these) → lent ≡ xs → is_in_order (λ a b. fields_before (fields a) (fields b)) xs ≡ true → IsPlaceOf fields these lent k
    → k < length lent → read ≡ get_or xs k read → b ≡ test read → b ≡ true → now ≡ remove xs k → now ≡ without test xs
gone fields these test xs lent now k read b whole same ordered place within is tested passes makes =
    makes
    ∙ removed_at test xs k read (others_fail fields these test xs k read whole ordered (subst (λ ys. IsPlaceOf fields these ys k) same place)) (subst (λ ys. k < length ys) same within)
    (subst (λ x. test x ≡ true) is (sym tested ∙ passes))

-- the entry at the place fails, and so do all
pub stays : {X : Type 0} (fields : X → List (List ℕ)) (these : List (List ℕ)) (test : X → Bool) (xs lent : List X) (k : ℕ) (read : X) (b : Bool)
    → ((x : X) → test x ≡ true → fields x ≡ these) → lent ≡ xs → is_in_order (λ a b. fields_before (fields a) (fields b)) xs ≡ true → IsPlaceOf fields these lent k
    → read ≡ get_or xs k read → b ≡ test read → b ≡ false → xs ≡ without test xs
stays fields these test xs lent k read b whole same ordered place is tested fails =
    sym (kept_all test xs read (here_too test xs k read (others_fail fields these test xs k read whole ordered (subst (λ ys. IsPlaceOf fields these ys k) same place))
    (subst (λ x. test x ≡ false) is (sym tested ∙ fails))))

-- the place is the end, and all entries fail
pub ends : {X : Type 0} (fields : X → List (List ℕ)) (these : List (List ℕ)) (test : X → Bool) (xs lent : List X) (k : ℕ)
    → ((x : X) → test x ≡ true → fields x ≡ these) → lent ≡ xs → is_in_order (λ a b. fields_before (fields a) (fields b)) xs ≡ true → IsPlaceOf fields these lent k
    → length lent ≤ k → xs ≡ without test xs
ends fields these test [] lent k whole same ordered place end = refl
ends fields these test (x ∷ xs) lent k whole same ordered place end =
    sym (kept_all test (x ∷ xs) x (all_fail fields these test (x ∷ xs) k x whole ordered (subst (λ ys. IsPlaceOf fields these ys k) same place) (subst (λ ys. length ys ≤ k) same end)))
