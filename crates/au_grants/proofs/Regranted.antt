-- Grants in order, granted in turn, are the same grants.
use Rattle.std.proofs.Common.{◌≡◌, ℕ, Bool, true, false, not, cond, ◌||◌, inl, inr, List, [], ◌∷◌, ◌++◌, map, refl, sym, ap, subst, ◌∙◌, append_assoc}
use Rattle.std.specs.List.{Contains, filter, list_all, list_any}
use Rattle.std.specs.Ordering.{is_lt}
use Rattle.std.proofs.lemmas.Bool.{and_parts}
use Rattle.std.proofs.lemmas.Cmp.{lists_total, nat_cmp_total, tied_itself}
use Rattle.std.proofs.lemmas.List.{append-nil}
use Rattle.au_grants.specs.declared.grants.Grants.{Grants}
use Rattle.au_grants.specs.Changing.{applied_all, object_grant, role_grant, system_grant, with_admin, with_grant, with_object}
use Rattle.au_grants.specs.Holding.{grants_object, grants_privilege, grants_role}
use Rattle.au_grants.specs.Order.{fields_before, is_in_order, object_before, object_fields, placed, role_before, role_fields, system_before, system_fields}
use Rattle.au_grants.specs.Rights.{ObjectEntry, RoleEntry, SystemEntry}
use Rattle.au_grants.proofs.Entries.{grants_object-is, grants_privilege-is, grants_role-is}
use Rattle.au_grants.proofs.Members.{append_right, here, none, split, there}
use Rattle.au_grants.proofs.Ordered.{all_from}

-- what every element passes keeps all, and its opposite none
keeps_all : {X : Type 0} (test : X → Bool) (xs : List X) → ((x : X) → Contains xs x → test x ≡ true) → filter test xs ≡ xs
keeps_all test [] passes = refl
keeps_all test (x ∷ xs) passes =
    ap (λ b. cond b (x ∷ filter test xs) (filter test xs)) (passes x (here x xs)) ∙ ap (λ rest. x ∷ rest) (keeps_all test xs (λ y has. passes y (there x xs y has)))

keeps_none : {X : Type 0} (test : X → Bool) (xs : List X) → ((x : X) → Contains xs x → test x ≡ true) → filter (λ x. not (test x)) xs ≡ []
keeps_none test [] passes = refl
keeps_none test (x ∷ xs) passes =
    ap (λ b. cond (not b) (x ∷ filter (λ y. not (test y)) xs) (filter (λ y. not (test y)) xs)) (passes x (here x xs)) ∙ keeps_none test xs (λ y has. passes y (there x xs y has))

-- an entry behind all others stands last
placed_last : {X : Type 0} (before : X → X → Bool) (entry : X) (xs : List X) → ((x : X) → Contains xs x → before x entry ≡ true) → placed before entry xs ≡ xs ++ entry ∷ []
placed_last before entry xs behind =
    ap (λ front. front ++ entry ∷ filter (λ other. not (before other entry)) xs) (keeps_all (λ other. before other entry) xs behind)
    ∙ ap (λ rest. xs ++ entry ∷ rest) (keeps_none (λ other. before other entry) xs behind)

-- in a list in order what stands in front comes before what follows
comes_first : {X : Type 0} (before : X → X → Bool) (xs : List X) (y : X) (ys : List X) → is_in_order before (xs ++ y ∷ ys) ≡ true → (x : X) → Contains xs x → before x y ≡ true
comes_first before [] y ys ordered x has = absurd (none x has)
comes_first before (z ∷ xs) y ys ordered x has =
    let parts = and_parts (list_all (before z) (xs ++ y ∷ ys)) (is_in_order before (xs ++ y ∷ ys)) ordered in
    elim (split z xs x has) [
      | inl same ↦ subst (λ w. before w y ≡ true) same (all_from (before z) (xs ++ y ∷ ys) parts.0 y (append_right xs (y ∷ ys) y (here y ys)))
      | inr later ↦ comes_first before xs y ys parts.1 x later
    ]

none_passes : {X : Type 0} (test : X → Bool) (xs : List X) → ((x : X) → Contains xs x → test x ≡ false) → list_any test xs ≡ false
none_passes test [] fails = refl
none_passes test (x ∷ xs) fails = or_none (test x) (list_any test xs) (fails x (here x xs)) (none_passes test xs (λ y has. fails y (there x xs y has)))
  where
    or_none : (a b : Bool) → a ≡ false → b ≡ false → (a || b) ≡ false
    or_none a b one two = λ i. one i || two i

-- no fields come before themselves
never_before_itself : (fields : List (List ℕ)) → fields_before fields fields ≡ false
never_before_itself fields = ap is_lt (tied_itself (lists_total (lists_total nat_cmp_total)) fields)

-- a grant that stands before another isn't that one
isnt_there : {X : Type 0} (fields : X → List (List ℕ)) (test : X → Bool) (entry : X) (xs : List X) → ((x : X) → test x ≡ true → fields x ≡ fields entry)
    → ((x : X) → Contains xs x → fields_before (fields x) (fields entry) ≡ true) → list_any test xs ≡ false
isnt_there fields test entry xs is behind = none_passes test xs (λ x has. at x has (test x) refl)
  where
    at : (x : _) → Contains xs x → (b : Bool) → test x ≡ b → b ≡ false
    at x has true told =
        let same : true ≡ false = sym (behind x has) ∙ ap (λ (list : List (List ℕ)). fields_before list (fields entry)) (is x told) ∙ never_before_itself (fields entry) in
        absurd (cc)
    at x has false told = refl

granted_last : {X Y : Type 0} (fields : X × Y × Bool → List (List ℕ)) (test : X × Y × Bool → Bool) (entry : X × Y × Bool) (xs : List (X × Y × Bool))
    → ((x : X × Y × Bool) → test x ≡ true → fields x ≡ fields entry) → ((x : X × Y × Bool) → Contains xs x → fields_before (fields x) (fields entry) ≡ true)
    → with_grant (λ a b. fields_before (fields a) (fields b)) test entry xs ≡ xs ++ entry ∷ []
granted_last {X} {Y} fields test entry xs is behind =
    let before : X × Y × Bool → X × Y × Bool → Bool = λ a b. fields_before (fields a) (fields b) in
    ap (λ b. cond b (map (with_admin test entry.2) xs) (placed before entry xs)) (isnt_there fields test entry xs is behind) ∙ placed_last before entry xs behind

object_last : (entry : ObjectEntry) (xs : List ObjectEntry) → ((x : ObjectEntry) → Contains xs x → object_before x entry ≡ true) → with_object entry xs ≡ xs ++ entry ∷ []
object_last entry xs behind =
    ap (λ b. cond b xs (placed object_before entry xs))
    (isnt_there object_fields (grants_object entry.0 entry.1 entry.2) entry xs (λ x told. ap object_fields (grants_object-is entry.0 entry.1 entry.2 x told)) behind)
    ∙ placed_last object_before entry xs behind

system_regranted_from : (done rest : List SystemEntry) (role : List RoleEntry) (object : List ObjectEntry) → is_in_order system_before (done ++ rest) ≡ true
    → applied_all (map system_grant rest) (record { system = done; role = role; object = object }) ≡ record { system = done ++ rest; role = role; object = object }
system_regranted_from done [] role object ordered = ap (λ (list : List SystemEntry). record { system = list; role = role; object = object }) (sym (append-nil done))
system_regranted_from done (entry ∷ rest) role object ordered =
    let grants : List SystemEntry → Grants = λ list. record { system = list; role = role; object = object } in
    let joined : (done ++ entry ∷ []) ++ rest ≡ done ++ entry ∷ rest = append_assoc done (entry ∷ []) rest in
    ap (λ (list : List SystemEntry). applied_all (map system_grant rest) (grants list))
    (granted_last system_fields (grants_privilege entry.0 entry.1) entry done
    (λ x told. ap system_fields (grants_privilege-is entry.0 entry.1 x told)) (comes_first system_before done entry rest ordered))
    ∙ system_regranted_from (done ++ entry ∷ []) rest role object (ap (is_in_order system_before) joined ∙ ordered)
    ∙ ap grants joined

role_regranted_from : (done rest : List RoleEntry) (system : List SystemEntry) (object : List ObjectEntry) → is_in_order role_before (done ++ rest) ≡ true
    → applied_all (map role_grant rest) (record { system = system; role = done; object = object }) ≡ record { system = system; role = done ++ rest; object = object }
role_regranted_from done [] system object ordered = ap (λ (list : List RoleEntry). record { system = system; role = list; object = object }) (sym (append-nil done))
role_regranted_from done (entry ∷ rest) system object ordered =
    let grants : List RoleEntry → Grants = λ list. record { system = system; role = list; object = object } in
    let joined : (done ++ entry ∷ []) ++ rest ≡ done ++ entry ∷ rest = append_assoc done (entry ∷ []) rest in
    ap (λ (list : List RoleEntry). applied_all (map role_grant rest) (grants list))
    (granted_last role_fields (grants_role entry.0 entry.1) entry done
    (λ x told. ap role_fields (grants_role-is entry.0 entry.1 x told)) (comes_first role_before done entry rest ordered))
    ∙ role_regranted_from (done ++ entry ∷ []) rest system object (ap (is_in_order role_before) joined ∙ ordered)
    ∙ ap grants joined

object_regranted_from : (done rest : List ObjectEntry) (system : List SystemEntry) (role : List RoleEntry) → is_in_order object_before (done ++ rest) ≡ true
    → applied_all (map object_grant rest) (record { system = system; role = role; object = done }) ≡ record { system = system; role = role; object = done ++ rest }
object_regranted_from done [] system role ordered = ap (λ (list : List ObjectEntry). record { system = system; role = role; object = list }) (sym (append-nil done))
object_regranted_from done (entry ∷ rest) system role ordered =
    let grants : List ObjectEntry → Grants = λ list. record { system = system; role = role; object = list } in
    let joined : (done ++ entry ∷ []) ++ rest ≡ done ++ entry ∷ rest = append_assoc done (entry ∷ []) rest in
    ap (λ (list : List ObjectEntry). applied_all (map object_grant rest) (grants list)) (object_last entry done (comes_first object_before done entry rest ordered))
    ∙ object_regranted_from (done ++ entry ∷ []) rest system role (ap (is_in_order object_before) joined ∙ ordered)
    ∙ ap grants joined

-- grants in order, granted in turn where there are none of their kind
pub system_regranted : (grants : Grants) → is_in_order system_before grants.system ≡ true → applied_all (map system_grant grants.system) (record grants { system = [] }) ≡ grants
system_regranted grants ordered = system_regranted_from [] grants.system grants.role grants.object ordered

pub role_regranted : (grants : Grants) → is_in_order role_before grants.role ≡ true → applied_all (map role_grant grants.role) (record grants { role = [] }) ≡ grants
role_regranted grants ordered = role_regranted_from [] grants.role grants.system grants.object ordered

pub object_regranted : (grants : Grants) → is_in_order object_before grants.object ≡ true → applied_all (map object_grant grants.object) (record grants { object = [] }) ≡ grants
object_regranted grants ordered = object_regranted_from [] grants.object grants.system grants.role ordered
