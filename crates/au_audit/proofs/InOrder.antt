-- Entries that stand in the order of their fields.
use Rattle.std.proofs.Common.{◌≡◌, ◌∙◌, ◌⊎◌, ℕ, Bool, true, false, not, cond, inl, inr, List, [], ◌∷◌, ◌++◌, map, ◌&&◌, refl, sym, ap, ap₂, subst}
use Rattle.std.specs.List.{Contains, filter, list_all}
use Rattle.std.specs.declared.cmp.Ordering.{Ordering}
use Rattle.std.specs.declared.cmp.Ordering.TheVariants.{Less, Equal, Greater}
use Rattle.std.specs.Ordering.{is_eq, is_lt, nat_cmp, on, ordering_reverse}
use Rattle.std.specs.Cmp.{IsTotalOrder}
use Rattle.std.specs.Cmp.Lexicographic.{bytes_decides, lists_ties, pointwise_decides, slice_cmp, texts_ties}
use Rattle.std.proofs.lemmas.Bool.{and_parts, and_from}
use Rattle.std.proofs.lemmas.Cmp.{lists_total, nat_cmp_total, on_total}
use Rattle.std.proofs.lemmas.List.Folds.{list_all-append}
use Rattle.au_base.specs.Order.{IsTransitive, fields_before, is_in_order, placed}
use Rattle.au_audit.proofs.Members.{here, kept, none, split, there}

-- a test that each element passes
pub all_to : {X : Type 0} (test : X → Bool) (xs : List X) → ((x : X) → Contains xs x → test x ≡ true) → list_all test xs ≡ true
all_to test [] passes = refl
all_to test (y ∷ xs) passes = and_from (test y) (list_all test xs) (passes y (here y xs)) (all_to test xs (λ x has. passes x (there y xs x has)))

pub all_from : {X : Type 0} (test : X → Bool) (xs : List X) → list_all test xs ≡ true → (x : X) → Contains xs x → test x ≡ true
all_from test [] all x has = absurd (none x has)
all_from test (y ∷ xs) all x has =
    let parts = and_parts (test y) (list_all test xs) all in
    elim (split y xs x has) [
      | inl same ↦ ap test (sym same) ∙ parts.0
      | inr later ↦ all_from test xs parts.1 x later
    ]

-- an element of a filtered list passes the test
passes_at : {X : Type 0} (test : X → Bool) (y : X) (rest : List X) (x : X) (b : Bool) → test y ≡ b → (Contains rest x → test x ≡ true) → Contains (cond b (y ∷ rest) rest) x → test x ≡ true
passes_at test y rest x true is more has = elim (split y rest x has) [
  | inl same ↦ ap test (sym same) ∙ is
  | inr later ↦ more later
]
passes_at test y rest x false is more has = more has

pub passes : {X : Type 0} (test : X → Bool) (xs : List X) (x : X) → Contains (filter test xs) x → test x ≡ true
passes test [] x has = absurd (none x has)
passes test (y ∷ xs) x has = passes_at test y (filter test xs) x (test y) refl (passes test xs x) has

-- the joined list stands in order where both do, and all of the first come before all of the second
joined_in_order : {X : Type 0} (before : X → X → Bool) (xs ys : List X) → is_in_order before xs ≡ true → is_in_order before ys ≡ true
    → ((x y : X) → Contains xs x → Contains ys y → before x y ≡ true) → is_in_order before (xs ++ ys) ≡ true
joined_in_order before [] ys one two across = two
joined_in_order before (x ∷ xs) ys one two across =
    let parts = and_parts (list_all (before x) xs) (is_in_order before xs) one in
    and_from _ _
    (list_all-append (before x) xs ys ∙ and_from _ _ parts.0 (all_to (before x) ys (λ y has. across x y (here x xs) has)))
    (joined_in_order before xs ys parts.1 two (λ z y has later. across z y (there x xs z has) later))

-- what a filter keeps stands in order
kept_at : {X : Type 0} (before : X → X → Bool) (test : X → Bool) (x : X) (xs : List X) (b : Bool) → list_all (before x) xs ≡ true → is_in_order before (filter test xs) ≡ true
    → is_in_order before (cond b (x ∷ filter test xs) (filter test xs)) ≡ true
kept_at before test x xs true first more = and_from _ _ (all_to (before x) (filter test xs) (λ y has. all_from (before x) xs first y (kept test xs y has))) more
kept_at before test x xs false first more = more

pub kept_in_order : {X : Type 0} (before : X → X → Bool) (test : X → Bool) (xs : List X) → is_in_order before xs ≡ true → is_in_order before (filter test xs) ≡ true
kept_in_order before test [] ordered = refl
kept_in_order before test (x ∷ xs) ordered =
    let parts = and_parts (list_all (before x) xs) (is_in_order before xs) ordered in
    kept_at before test x xs (test x) parts.0 (kept_in_order before test xs parts.1)

all_mapped : {X Y : Type 0} (test : Y → Bool) (f : X → Y) (xs : List X) → list_all test (map f xs) ≡ list_all (λ x. test (f x)) xs
all_mapped test f [] = refl
all_mapped test f (x ∷ xs) = ap (λ (rest : Bool). test (f x) && rest) (all_mapped test f xs)

-- what entries are mapped to stands in order where they do by it
pub mapped_order : {X Y : Type 0} (before : Y → Y → Bool) (f : X → Y) (xs : List X) → is_in_order before (map f xs) ≡ is_in_order (λ a b. before (f a) (f b)) xs
mapped_order before f [] = refl
mapped_order before f (x ∷ xs) = ap₂ (λ (a b : Bool). a && b) (all_mapped (before (f x)) f xs) (mapped_order before f xs)

-- the order of entries by their fields
abbrev pub cmp_by : {X : Type 0} → (X → List (List ℕ)) → X → X → Ordering
cmp_by fields = on fields (slice_cmp (slice_cmp nat_cmp))

total_by : {X : Type 0} (fields : X → List (List ℕ)) → IsTotalOrder (cmp_by fields)
total_by fields = on_total fields (lists_total (lists_total nat_cmp_total))

is_less : (o : Ordering) → is_lt o ≡ true → o ≡ Less
is_less Less is = refl
is_less Equal is = absurd (let e : false ≡ true = is in cc)
is_less Greater is = absurd (let e : false ≡ true = is in cc)

abbrev before_by : {X : Type 0} → (X → List (List ℕ)) → X → X → Bool
before_by fields a b = fields_before (fields a) (fields b)

before_joined : {X : Type 0} (fields : X → List (List ℕ)) (a b c : X) → before_by fields a b ≡ true → before_by fields b c ≡ true → before_by fields a c ≡ true
before_joined fields a b c one two = ap is_lt ((total_by fields).trans a b c (is_less _ one) (is_less _ two))

-- of two entries that the order tells apart, one comes before the other
other_way : (o back : Ordering) → is_lt o ≡ false → is_eq o ≡ false → o ≡ ordering_reverse back → is_lt back ≡ true
other_way Less back less equal turned = absurd (let e : true ≡ false = less in cc)
other_way Equal back less equal turned = absurd (let e : true ≡ false = equal in cc)
other_way Greater Less less equal turned = refl
other_way Greater Equal less equal turned = absurd (let e : false ≡ true = ap is_eq turned in cc)
other_way Greater Greater less equal turned = absurd (let e : false ≡ true = ap is_lt turned in cc)

before_back : {X : Type 0} (fields : X → List (List ℕ)) (a b : X) → before_by fields a b ≡ false → is_eq (cmp_by fields a b) ≡ false → before_by fields b a ≡ true
before_back fields a b less equal = other_way _ _ less equal ((total_by fields).antisymm a b)

not_false : (b : Bool) → not b ≡ true → b ≡ false
not_false true is = absurd (let e : false ≡ true = is in cc)
not_false false is = refl

-- a new entry before or behind each of the others leaves them in order
pub placed_new : {X : Type 0} (before : X → X → Bool) → IsTransitive before → (entry : X) (xs : List X) → ((x : X) → Contains xs x → (before x entry ≡ true) ⊎ (before entry x ≡ true))
    → is_in_order before xs ≡ true → is_in_order before (placed before entry xs) ≡ true
placed_new {X} before transitive entry xs new ordered =
    let front = filter (λ other. before other entry) xs in
    let rest = filter (λ other. not (before other entry)) xs in
    let behind : (y : X) → Contains rest y → before entry y ≡ true =
    λ y has. (let first = passes (λ other. not (before other entry)) xs y has in
    elim (new y (kept (λ other. not (before other entry)) xs y has)) [
      | inl less ↦ absurd (let e : true ≡ false = sym less ∙ not_false _ first in cc)
      | inr more ↦ more
    ]) in
    joined_in_order before front (entry ∷ rest)
    (kept_in_order before (λ other. before other entry) xs ordered)
    (and_from _ _ (all_to (before entry) rest behind) (kept_in_order before (λ other. not (before other entry)) xs ordered))
    (λ x y has later. (let first = passes (λ other. before other entry) xs x has in
    elim (split entry rest y later) [
      | inl same ↦ subst (λ z. before x z ≡ true) same first
      | inr last ↦ transitive x entry y first (behind y last)
    ]))

either : (b : Bool) (P : Type 0) → (b ≡ false → P) → (b ≡ true) ⊎ P
either true P other = inl refl
either false P other = inr (other refl)

-- a new entry that the order tells from all others leaves them in order
pub placed_in_order : {X : Type 0} (fields : X → List (List ℕ)) (entry : X) (xs : List X) → ((x : X) → Contains xs x → is_eq (cmp_by fields x entry) ≡ false)
    → is_in_order (before_by fields) xs ≡ true → is_in_order (before_by fields) (placed (before_by fields) entry xs) ≡ true
placed_in_order fields entry xs new ordered =
    placed_new (before_by fields) (before_joined fields) entry xs
    (λ x has. either (before_by fields x entry) _ (λ less. before_back fields x entry less (new x has))) ordered

-- fields that the order doesn't tell apart are the same
pub same_fields : (a b : List (List ℕ)) → is_eq (slice_cmp (slice_cmp nat_cmp) a b) ≡ true → a ≡ b
same_fields a b is = (pointwise_decides bytes_decides a b).0 (lists_ties (slice_cmp nat_cmp) texts_ties a b ∙ is)
