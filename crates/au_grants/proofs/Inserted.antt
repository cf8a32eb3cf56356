-- What is inserted at the place that halving finds stands in order.
use Rattle.std.proofs.Common.{◌≡◌, ◌≤◌, ◌<◌, ℕ, zero, suc, cond, Bool, true, false, not, List, [], ◌∷◌, ◌++◌, length, get_or, take, drop, insert, refl, sym, ap, ◌∙◌, arith}
use Rattle.std.specs.List.{filter}
use Rattle.au_grants.specs.descent.Halving.{IsPlaceOf}
use Rattle.au_grants.specs.Order.{fields_before, placed}

-- the entries that pass stand before the place, and the others behind it
cut : {X : Type 0} (test : X → Bool) (xs : List X) (k : ℕ) → k ≤ length xs → ((i : ℕ) (d : X) → i < k → test (get_or xs i d) ≡ true) → ((i : ℕ) (d : X) → k ≤ i → i < length xs → test (get_or xs i d) ≡ false)
    → (filter test xs ≡ take k xs) × (filter (λ x. not (test x)) xs ≡ drop k xs)
cut test [] zero within front behind = (refl, refl)
cut test [] (suc k) within front behind = absurd (omega (arith, within))
cut test (x ∷ xs) zero within front behind =
    let fails : test x ≡ false = behind 0 x (omega arith) (omega arith) in
    let rest = cut test xs zero (omega arith) (λ i d less. absurd (omega (arith, less))) (λ i d from to. behind (suc i) d (omega arith) (omega (arith, to))) in
    (ap (λ b. cond b (x ∷ filter test xs) (filter test xs)) fails ∙ rest.0, ap (λ b. cond (not b) (x ∷ filter (λ y. not (test y)) xs) (filter (λ y. not (test y)) xs)) fails ∙ ap (λ ys. x ∷ ys) rest.1)
cut test (x ∷ xs) (suc k) within front behind =
    let passes : test x ≡ true = front 0 x (omega arith) in
    let rest = cut test xs k (omega (arith, within)) (λ i d less. front (suc i) d (omega (arith, less))) (λ i d from to. behind (suc i) d (omega (arith, from)) (omega (arith, to))) in
    (ap (λ b. cond b (x ∷ filter test xs) (filter test xs)) passes ∙ ap (λ ys. x ∷ ys) rest.0, ap (λ b. cond (not b) (x ∷ filter (λ y. not (test y)) xs) (filter (λ y. not (test y)) xs)) passes ∙ rest.1)

pub cut_at : {X : Type 0} (fields : X → List (List ℕ)) (entry : X) (xs : List X) (k : ℕ) → IsPlaceOf fields (fields entry) xs k
    → (filter (λ x. fields_before (fields x) (fields entry)) xs ≡ take k xs) × (filter (λ x. not (fields_before (fields x) (fields entry))) xs ≡ drop k xs)
cut_at fields entry xs k place = cut (λ x. fields_before (fields x) (fields entry)) xs k place.0 (λ i d less. place.1.0 i d (omega arith) less) (λ i d from to. place.1.1 i d from to)

pub inserted : {X : Type 0} (fields : X → List (List ℕ)) (entry : X) (xs : List X) (k : ℕ) → IsPlaceOf fields (fields entry) xs k → insert xs k entry ≡ placed (λ a b. fields_before (fields a) (fields b)) entry xs
inserted fields entry xs k place =
    let parts = cut_at fields entry xs k place in
    λ j. sym parts.0 j ++ entry ∷ sym parts.1 j
