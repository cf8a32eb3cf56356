-- Where halving finds a place in a list in order, and what stands on both sides of it.
use Rattle.std.proofs.Common.{◌≡◌, ◌≤◌, ◌<◌, ℕ, suc, zero, Bool, true, false, not, cond, ◌⊎◌, inl, inr, List, [], ◌∷◌, length, get_or, take, drop, refl, sym, ap, ◌∙◌, arith}
use Rattle.std.specs.List.{AllWithin, filter, list_all}
use Rattle.std.specs.List.Sorted.{IsPartitionedBy}
use Rattle.std.proofs.lemmas.Bool.{and_parts}
use Rattle.au_base.specs.Order.{IsTransitive, is_in_order}

all_at : {X : Type 0} (test : X → Bool) (xs : List X) → list_all test xs ≡ true → (k : ℕ) (d : X) → k < length xs → test (get_or xs k d) ≡ true
all_at test [] all k d within = absurd (omega arith)
all_at test (y ∷ xs) all zero d within = (and_parts (test y) (list_all test xs) all).0
all_at test (y ∷ xs) all (suc k) d within = all_at test xs (and_parts (test y) (list_all test xs) all).1 k d (omega arith)

-- each element of a list in order comes before each later one
pub before_later : {X : Type 0} (before : X → X → Bool) (xs : List X) → is_in_order before xs ≡ true
    → (i j : ℕ) (d : X) → i < j → j < length xs → before (get_or xs i d) (get_or xs j d) ≡ true
before_later before [] ordered i j d one within = absurd (omega arith)
before_later before (x ∷ xs) ordered i zero d one within = absurd (omega arith)
before_later before (x ∷ xs) ordered zero (suc j) d one within = all_at (before x) xs (and_parts (list_all (before x) xs) (is_in_order before xs) ordered).0 j d (omega arith)
before_later before (x ∷ xs) ordered (suc i) (suc j) d one within = before_later before xs (and_parts (list_all (before x) xs) (is_in_order before xs) ordered).1 i j d (omega arith) (omega arith)

-- the elements that come before a value stand in front of the others
parted_at : {X : Type 0} (before : X → X → Bool) → IsTransitive before → (value : X) (xs : List X) → is_in_order before xs ≡ true
    → (i j : ℕ) (d : X) → (i ≡ j) ⊎ (i < j) → j < length xs → before (get_or xs j d) value ≡ true → before (get_or xs i d) value ≡ true
parted_at before joins value xs ordered i j d (inl same) within is = ap (λ k. before (get_or xs k d) value) same ∙ is
parted_at before joins value xs ordered i j d (inr less) within is = joins _ _ _ (before_later before xs ordered i j d less within) is

at_or_below : (i j : ℕ) → i ≤ j → (i ≡ j) ⊎ (i < j)
at_or_below zero zero below = inl refl
at_or_below zero (suc j) below = inr (omega arith)
at_or_below (suc i) zero below = absurd (omega arith)
at_or_below (suc i) (suc j) below = elim (at_or_below i j (omega arith)) [
  | inl same ↦ inl (ap suc same)
  | inr less ↦ inr (omega arith)
]

pub parted : {X : Type 0} (before : X → X → Bool) → IsTransitive before → (value : X) (xs : List X) → is_in_order before xs ≡ true → IsPartitionedBy (λ x. before x value) xs
parted before joins value xs ordered i j d below within is = parted_at before joins value xs ordered i j d (at_or_below i j below) within is

-- what a filter leaves where all elements fail its test, or all pass it
filter_none : {X : Type 0} (test : X → Bool) (xs : List X) → ((k : ℕ) (d : X) → k < length xs → test (get_or xs k d) ≡ false) → filter test xs ≡ []
filter_none test [] fails = refl
filter_none test (x ∷ xs) fails = ap (λ b. cond b (x ∷ filter test xs) (filter test xs)) (fails 0 x (omega arith)) ∙ filter_none test xs (λ k d within. fails (suc k) d (omega arith))

filter_all : {X : Type 0} (test : X → Bool) (xs : List X) → ((k : ℕ) (d : X) → k < length xs → test (get_or xs k d) ≡ true) → filter test xs ≡ xs
filter_all test [] pass = refl
filter_all test (x ∷ xs) pass =
    ap (λ b. cond b (x ∷ filter test xs) (filter test xs)) (pass 0 x (omega arith)) ∙ ap (λ rest. x ∷ rest) (filter_all test xs (λ k d within. pass (suc k) d (omega arith)))

-- up to the partition point stand those that pass, and from it on the others
pub front_is : {X : Type 0} (test : X → Bool) (xs : List X) (i : ℕ) → i ≤ length xs → AllWithin (λ x. test x ≡ true) xs 0 i → AllWithin (λ x. test x ≡ false) xs i (length xs) → take i xs ≡ filter test xs
front_is test [] zero bound pass fail = refl
front_is test [] (suc i) bound pass fail = absurd (omega arith)
front_is test (x ∷ xs) zero bound pass fail = sym (filter_none test (x ∷ xs) (λ k d within. fail k d (omega arith) within))
front_is test (x ∷ xs) (suc i) bound pass fail =
    ap (λ rest. x ∷ rest) (front_is test xs i (omega arith) (λ k d low high. pass (suc k) d (omega arith) (omega arith)) (λ k d low high. fail (suc k) d (omega arith) (omega arith)))
    ∙ ap (λ b. cond b (x ∷ filter test xs) (filter test xs)) (sym (pass 0 x (omega arith) (omega arith)))

pub rest_is : {X : Type 0} (test : X → Bool) (xs : List X) (i : ℕ) → i ≤ length xs → AllWithin (λ x. test x ≡ true) xs 0 i → AllWithin (λ x. test x ≡ false) xs i (length xs) → drop i xs ≡ filter (λ x. not (test x)) xs
rest_is test [] zero bound pass fail = refl
rest_is test [] (suc i) bound pass fail = absurd (omega arith)
rest_is test (x ∷ xs) zero bound pass fail = sym (filter_all (λ y. not (test y)) (x ∷ xs) (λ k d within. ap not (fail k d (omega arith) within)))
rest_is test (x ∷ xs) (suc i) bound pass fail =
    rest_is test xs i (omega arith) (λ k d low high. pass (suc k) d (omega arith) (omega arith)) (λ k d low high. fail (suc k) d (omega arith) (omega arith))
    ∙ ap (λ b. cond (not b) (x ∷ filter (λ y. not (test y)) xs) (filter (λ y. not (test y)) xs)) (sym (pass 0 x (omega arith) (omega arith)))
