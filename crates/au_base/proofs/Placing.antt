-- Lists in order, the place of a value among them, and what they are with it.
use Rattle.std.proofs.Common.{◌≡◌, ◌≢◌, ◌≤◌, ◌<◌, ℕ, suc, zero, Bool, true, false, not, cond, ◌⊎◌, inl, inr, List, [], ◌∷◌, ◌++◌, length, get_or, take, drop, refl, sym, ap, subst, ◌∙◌, arith}
use Rattle.std.specs.List.{AllPairs, AllWithin, Contains, filter, list_all}
use Rattle.std.specs.List.Sorted.{IsPartitionedBy}
use Rattle.std.proofs.lemmas.Bool.{and_parts, and_from}
use Rattle.std.proofs.lemmas.List.{length-take-le}
use Rattle.std.proofs.lemmas.List.Folds.{list_all-append}
use Rattle.au_base.specs.Order.{IsIrreflexive, IsNewAmong, IsTransitive, is_in_order, placed}
use Rattle.au_base.proofs.Members.{here, kept, none, passes, split, there}

-- a test that each element passes
pub all_to : {X : Type 0} (test : X → Bool) (xs : List X) → ((x : X) → Contains xs x → test x ≡ true) → list_all test xs ≡ true
all_to test [] each = refl
all_to test (y ∷ xs) each = and_from (test y) (list_all test xs) (each y (here y xs)) (all_to test xs (λ x has. each x (there y xs x has)))

pub all_from : {X : Type 0} (test : X → Bool) (xs : List X) → list_all test xs ≡ true → (x : X) → Contains xs x → test x ≡ true
all_from test [] all x has = absurd (none x has)
all_from test (y ∷ xs) all x has =
    let parts = and_parts (test y) (list_all test xs) all in
    elim (split y xs x has) [
      | inl same ↦ ap test (sym same) ∙ parts.0
      | inr later ↦ all_from test xs parts.1 x later
    ]

all_at : {X : Type 0} (test : X → Bool) (xs : List X) → list_all test xs ≡ true → (k : ℕ) (d : X) → k < length xs → test (get_or xs k d) ≡ true
all_at test [] all k d within = absurd (omega arith)
all_at test (y ∷ xs) all zero d within = (and_parts (test y) (list_all test xs) all).0
all_at test (y ∷ xs) all (suc k) d within = all_at test xs (and_parts (test y) (list_all test xs) all).1 k d (omega arith)

-- each element of a list in order comes before each later one
pub before_later : {X : Type 0} (before : X → X → Bool) (xs : List X) → is_in_order before xs ≡ true
    → (i j : ℕ) (d : X) → i < j → j < length xs → before (get_or xs i d) (get_or xs j d) ≡ true
before_later before [] ordered i j d one within = absurd (omega arith)
before_later before (x ∷ xs) ordered i zero d one within = absurd (omega arith)
before_later before (x ∷ xs) ordered zero (suc j) d one within = all_at (before x) xs (and_parts (list_all (before x) xs) (is_in_order before xs) ordered).0 j d (omega arith)
before_later before (x ∷ xs) ordered (suc i) (suc j) d one within = before_later before xs (and_parts (list_all (before x) xs) (is_in_order before xs) ordered).1 i j d (omega arith) (omega arith)

-- no element of a list in order stands there twice
pub none_twice : {X : Type 0} (before : X → X → Bool) → IsIrreflexive before → (xs : List X) → is_in_order before xs ≡ true → AllPairs (λ a b. a ≢ b) xs
none_twice before apart xs ordered i j d one within same =
    let itself : before (get_or xs j d) (get_or xs j d) ≡ true = ap (λ x. before x (get_or xs j d)) (sym same) ∙ before_later before xs ordered i j d one within in
    let e : false ≡ true = sym (apart (get_or xs j d)) ∙ itself in
    cc

-- the elements that come before a value stand in front of the others
parted_at : {X : Type 0} (before : X → X → Bool) → IsTransitive before → (value : X) (xs : List X) → is_in_order before xs ≡ true
    → (i j : ℕ) (d : X) → (i ≡ j) ⊎ (i < j) → j < length xs → before (get_or xs j d) value ≡ true → before (get_or xs i d) value ≡ true
parted_at before joins value xs ordered i j d (inl same) within is = ap (λ k. before (get_or xs k d) value) same ∙ is
parted_at before joins value xs ordered i j d (inr less) within is = joins _ _ _ (before_later before xs ordered i j d less within) is

at_or_below : (i j : ℕ) → i ≤ j → (i ≡ j) ⊎ (i < j)
at_or_below zero zero below = inl refl
at_or_below zero (suc j) below = inr (omega arith)
at_or_below (suc i) zero below = absurd (omega arith)
at_or_below (suc i) (suc j) below = elim (at_or_below i j (omega arith)) [
  | inl same ↦ inl (ap suc same)
  | inr less ↦ inr (omega arith)
]

pub parted : {X : Type 0} (before : X → X → Bool) → IsTransitive before → (value : X) (xs : List X) → is_in_order before xs ≡ true → IsPartitionedBy (λ x. before x value) xs
parted before joins value xs ordered i j d below within is = parted_at before joins value xs ordered i j d (at_or_below i j below) within is

-- what a filter leaves where all elements fail its test, or all pass it
filter_none : {X : Type 0} (test : X → Bool) (xs : List X) → ((k : ℕ) (d : X) → k < length xs → test (get_or xs k d) ≡ false) → filter test xs ≡ []
filter_none test [] fails = refl
filter_none test (x ∷ xs) fails = ap (λ b. cond b (x ∷ filter test xs) (filter test xs)) (fails 0 x (omega arith)) ∙ filter_none test xs (λ k d within. fails (suc k) d (omega arith))

filter_all : {X : Type 0} (test : X → Bool) (xs : List X) → ((k : ℕ) (d : X) → k < length xs → test (get_or xs k d) ≡ true) → filter test xs ≡ xs
filter_all test [] pass = refl
filter_all test (x ∷ xs) pass =
    ap (λ b. cond b (x ∷ filter test xs) (filter test xs)) (pass 0 x (omega arith)) ∙ ap (λ rest. x ∷ rest) (filter_all test xs (λ k d within. pass (suc k) d (omega arith)))

-- up to the partition point stand those that pass, and from it on the others
pub front_is : {X : Type 0} (test : X → Bool) (xs : List X) (i : ℕ) → i ≤ length xs → AllWithin (λ x. test x ≡ true) xs 0 i → AllWithin (λ x. test x ≡ false) xs i (length xs) → take i xs ≡ filter test xs
front_is test [] zero bound pass fail = refl
front_is test [] (suc i) bound pass fail = absurd (omega arith)
front_is test (x ∷ xs) zero bound pass fail = sym (filter_none test (x ∷ xs) (λ k d within. fail k d (omega arith) within))
front_is test (x ∷ xs) (suc i) bound pass fail =
    ap (λ rest. x ∷ rest) (front_is test xs i (omega arith) (λ k d low high. pass (suc k) d (omega arith) (omega arith)) (λ k d low high. fail (suc k) d (omega arith) (omega arith)))
    ∙ ap (λ b. cond b (x ∷ filter test xs) (filter test xs)) (sym (pass 0 x (omega arith) (omega arith)))

pub rest_is : {X : Type 0} (test : X → Bool) (xs : List X) (i : ℕ) → i ≤ length xs → AllWithin (λ x. test x ≡ true) xs 0 i → AllWithin (λ x. test x ≡ false) xs i (length xs) → drop i xs ≡ filter (λ x. not (test x)) xs
rest_is test [] zero bound pass fail = refl
rest_is test [] (suc i) bound pass fail = absurd (omega arith)
rest_is test (x ∷ xs) zero bound pass fail = sym (filter_all (λ y. not (test y)) (x ∷ xs) (λ k d within. ap not (fail k d (omega arith) within)))
rest_is test (x ∷ xs) (suc i) bound pass fail =
    rest_is test xs i (omega arith) (λ k d low high. pass (suc k) d (omega arith) (omega arith)) (λ k d low high. fail (suc k) d (omega arith) (omega arith))
    ∙ ap (λ b. cond (not b) (x ∷ filter (λ y. not (test y)) xs) (filter (λ y. not (test y)) xs)) (sym (pass 0 x (omega arith) (omega arith)))

pub count_is : {X : Type 0} (test : X → Bool) (xs : List X) (i : ℕ) → i ≤ length xs → AllWithin (λ x. test x ≡ true) xs 0 i → AllWithin (λ x. test x ≡ false) xs i (length xs) → i ≡ length (filter test xs)
count_is test xs i bound pass fail = sym (length-take-le i xs bound) ∙ ap length (front_is test xs i bound pass fail)

-- the joined list stands in order where both do, and all of the first come before all of the second
joined_in_order : {X : Type 0} (before : X → X → Bool) (xs ys : List X) → is_in_order before xs ≡ true → is_in_order before ys ≡ true
    → ((x y : X) → Contains xs x → Contains ys y → before x y ≡ true) → is_in_order before (xs ++ ys) ≡ true
joined_in_order before [] ys one two across = two
joined_in_order before (x ∷ xs) ys one two across =
    let parts = and_parts (list_all (before x) xs) (is_in_order before xs) one in
    and_from _ _
    (list_all-append (before x) xs ys ∙ and_from _ _ parts.0 (all_to (before x) ys (λ y has. across x y (here x xs) has)))
    (joined_in_order before xs ys parts.1 two (λ z y has later. across z y (there x xs z has) later))

-- what a filter keeps stands in order
kept_at : {X : Type 0} (before : X → X → Bool) (test : X → Bool) (x : X) (xs : List X) (b : Bool) → list_all (before x) xs ≡ true → is_in_order before (filter test xs) ≡ true
    → is_in_order before (cond b (x ∷ filter test xs) (filter test xs)) ≡ true
kept_at before test x xs true first more = and_from _ _ (all_to (before x) (filter test xs) (λ y has. all_from (before x) xs first y (kept test xs y has))) more
kept_at before test x xs false first more = more

pub kept_in_order : {X : Type 0} (before : X → X → Bool) (test : X → Bool) (xs : List X) → is_in_order before xs ≡ true → is_in_order before (filter test xs) ≡ true
kept_in_order before test [] ordered = refl
kept_in_order before test (x ∷ xs) ordered =
    let parts = and_parts (list_all (before x) xs) (is_in_order before xs) ordered in
    kept_at before test x xs (test x) parts.0 (kept_in_order before test xs parts.1)

not_false : (b : Bool) → not b ≡ true → b ≡ false
not_false true is = absurd (let e : false ≡ true = is in cc)
not_false false is = refl

-- a new entry leaves entries in order
pub placed_in_order : {X : Type 0} (before : X → X → Bool) → IsTransitive before → (entry : X) (xs : List X) → is_in_order before xs ≡ true → IsNewAmong before entry xs
    → is_in_order before (placed before entry xs) ≡ true
placed_in_order before joins entry xs ordered new =
    let front = filter (λ other. before other entry) xs in
    let rest = filter (λ other. not (before other entry)) xs in
    let behind : (y : _) → Contains rest y → before entry y ≡ true =
    λ y has. elim (new y (kept (λ other. not (before other entry)) xs y has)) [
      | inl first ↦ absurd (let e : true ≡ false = sym first ∙ not_false _ (passes (λ other. not (before other entry)) xs y has) in cc)
      | inr later ↦ later
    ] in
    joined_in_order before front (entry ∷ rest)
    (kept_in_order before (λ other. before other entry) xs ordered)
    (and_from _ _ (all_to (before entry) rest behind) (kept_in_order before (λ other. not (before other entry)) xs ordered))
    (λ x y has later. (let first = passes (λ other. before other entry) xs x has in
    elim (split entry rest y later) [
      | inl same ↦ subst (λ z. before x z ≡ true) same first
      | inr last ↦ joins x entry y first (behind y last)
    ]))
