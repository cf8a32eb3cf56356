-- The two parts of a list at the place that halving finds.
use Rattle.std.proofs.Common.{◌≡◌, ◌≤◌, ◌<◌, ◌∙◌, ℕ, zero, suc, Bool, true, false, not, cond, List, [], ◌∷◌, filter, length, get_or, take, drop, refl, sym, ap, arith}
use Rattle.std.specs.List.{AllWithin}

-- what a filter leaves where all elements fail its test, or all pass it
filter_none : {X : Type 0} (test : X → Bool) (xs : List X) → ((k : ℕ) (d : X) → k < length xs → test (get_or xs k d) ≡ false) → filter test xs ≡ []
filter_none test [] fails = refl
filter_none test (x ∷ xs) fails = ap (λ b. cond b (x ∷ filter test xs) (filter test xs)) (fails 0 x (omega arith)) ∙ filter_none test xs (λ k d within. fails (suc k) d (omega arith))

filter_all : {X : Type 0} (test : X → Bool) (xs : List X) → ((k : ℕ) (d : X) → k < length xs → test (get_or xs k d) ≡ true) → filter test xs ≡ xs
filter_all test [] pass = refl
filter_all test (x ∷ xs) pass =
    ap (λ b. cond b (x ∷ filter test xs) (filter test xs)) (pass 0 x (omega arith)) ∙ ap (λ rest. x ∷ rest) (filter_all test xs (λ k d within. pass (suc k) d (omega arith)))

-- up to the place stand those that pass, and from it on the others
pub front_is : {X : Type 0} (test : X → Bool) (xs : List X) (i : ℕ) → i ≤ length xs → AllWithin (λ x. test x ≡ true) xs 0 i → AllWithin (λ x. test x ≡ false) xs i (length xs) → take i xs ≡ filter test xs
front_is test [] zero bound pass fail = refl
front_is test [] (suc i) bound pass fail = absurd (omega arith)
front_is test (x ∷ xs) zero bound pass fail = sym (filter_none test (x ∷ xs) (λ k d within. fail k d (omega arith) within))
front_is test (x ∷ xs) (suc i) bound pass fail =
    ap (λ rest. x ∷ rest) (front_is test xs i (omega arith) (λ k d low high. pass (suc k) d (omega arith) (omega arith)) (λ k d low high. fail (suc k) d (omega arith) (omega arith)))
    ∙ ap (λ b. cond b (x ∷ filter test xs) (filter test xs)) (sym (pass 0 x (omega arith) (omega arith)))

pub rest_is : {X : Type 0} (test : X → Bool) (xs : List X) (i : ℕ) → i ≤ length xs → AllWithin (λ x. test x ≡ true) xs 0 i → AllWithin (λ x. test x ≡ false) xs i (length xs) → drop i xs ≡ filter (λ x. not (test x)) xs
rest_is test [] zero bound pass fail = refl
rest_is test [] (suc i) bound pass fail = absurd (omega arith)
rest_is test (x ∷ xs) zero bound pass fail = sym (filter_all (λ y. not (test y)) (x ∷ xs) (λ k d within. ap not (fail k d (omega arith) within)))
rest_is test (x ∷ xs) (suc i) bound pass fail =
    rest_is test xs i (omega arith) (λ k d low high. pass (suc k) d (omega arith) (omega arith)) (λ k d low high. fail (suc k) d (omega arith) (omega arith))
    ∙ ap (λ b. cond (not b) (x ∷ filter (λ y. not (test y)) xs) (filter (λ y. not (test y)) xs)) (sym (pass 0 x (omega arith) (omega arith)))
