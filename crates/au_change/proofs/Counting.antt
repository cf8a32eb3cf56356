-- Counting different values through a view of them.
use Rattle.std.proofs.Common.{◌≡◌, ℕ, suc, ◌∙◌, ◌==◌, ◌||◌, Bool, true, false, not, cond, List, [], ◌∷◌, length, map, ap, ap₂, sym, refl, arith}
use Rattle.std.specs.List.{AllByRecursion, IsDistinct, list_any}
use Rattle.std.specs.Set.{distinct_count, unique_keys}
use Rattle.std.specs.Cmp.{IsEquivalence, IsTotalOrder}
use Rattle.std.specs.declared.cmp.Ordering.{Ordering}
use Rattle.std.proofs.lemmas.Bool.Decides.{nat_tests}
use Rattle.std.proofs.lemmas.Map.Made.{IsDistinct-from_count, distinct_count-from_IsDistinct}
use Rattle.au_change.specs.Inside.{repeats}

or_none : (a b : Bool) → (a || b) ≡ false → (a ≡ false) × (b ≡ false)
or_none true b is = absurd (let e : true ≡ false = is in cc)
or_none false b is = (refl, is)

or_both : (a b : Bool) → a ≡ false → b ≡ false → (a || b) ≡ false
or_both a b one other = ap (λ (c : Bool). c || b) one ∙ other

pub same_any : {A B : Type 0} (f : A → B) (p : A → Bool) (q : B → Bool) → ((x : A) → p x ≡ q (f x)) → (xs : List A) → list_any p xs ≡ list_any q (map f xs)
same_any f p q same [] = refl
same_any f p q same (x ∷ xs) = rw (same x, same_any f p q same xs) refl

same_unique : {A B : Type 0} (f : A → B) (d : A → A → Bool) (e : B → B → Bool) → ((x y : A) → d x y ≡ e (f x) (f y)) → (xs : List A) → map f (unique_keys d xs) ≡ unique_keys e (map f xs)
same_unique f d e same [] = refl
same_unique {A} {B} f d e same (x ∷ xs) =
    let member : list_any (d x) xs ≡ list_any (e (f x)) (map f xs) = same_any f (d x) (e (f x)) (same x) xs in
    let step : (b : Bool) → map f (cond b (unique_keys d xs) (x ∷ unique_keys d xs)) ≡ cond b (unique_keys e (map f xs)) (f x ∷ unique_keys e (map f xs)) =
    elim [
      | true ↦ same_unique f d e same xs
      | false ↦ ap (λ (ys : List B). f x ∷ ys) (same_unique f d e same xs)
    ] in
    rw (← member) (step (list_any (d x) xs))

pub length-map : {A B : Type 0} (f : A → B) (xs : List A) → length (map f xs) ≡ length xs
length-map f [] = refl
length-map f (x ∷ xs) = ap suc (length-map f xs)

-- as many values are different as are their views, where two are the same exactly if their views are
pub same_count : {A B : Type 0} (f : A → B) (d : A → A → Bool) (e : B → B → Bool) → ((x y : A) → d x y ≡ e (f x) (f y)) → (xs : List A) → distinct_count d xs ≡ distinct_count e (map f xs)
same_count f d e same xs = sym (length-map f (unique_keys d xs)) ∙ ap length (same_unique f d e same xs)

-- values in the order of their views
pub by_views : {A B : Type 0} (f : A → B) (R : B → B → Ordering) → IsTotalOrder R → IsTotalOrder (λ x y. R (f x) (f y))
by_views f R o = record { antisymm = λ x y. o.antisymm (f x) (f y); trans = λ x y z. o.trans (f x) (f y) (f z); congr = λ x y z. o.congr (f x) (f y) (f z) }

-- ---- values that stand twice

all_others : {K : Type 0} (eq : K → K → Bool) (x : K) (xs : List K) → list_any (eq x) xs ≡ false → AllByRecursion (λ y. eq x y ≡ false) xs
all_others eq x [] none = tt
all_others eq x (y ∷ xs) none = let parts = or_none (eq x y) (list_any (eq x) xs) none in (parts.0, all_others eq x xs parts.1)

no_others : {K : Type 0} (eq : K → K → Bool) (x : K) (xs : List K) → AllByRecursion (λ y. eq x y ≡ false) xs → list_any (eq x) xs ≡ false
no_others eq x [] all = refl
no_others eq x (y ∷ xs) all = or_both (eq x y) (list_any (eq x) xs) all.0 (no_others eq x xs all.1)

distinct_from : {K : Type 0} (eq : K → K → Bool) (xs : List K) → repeats eq xs ≡ false → IsDistinct eq xs
unfolding IsDistinct
distinct_from eq [] none = tt
distinct_from eq (x ∷ xs) none = let parts = or_none (list_any (eq x) xs) (repeats eq xs) none in (all_others eq x xs parts.0, distinct_from eq xs parts.1)

from_distinct : {K : Type 0} (eq : K → K → Bool) (xs : List K) → IsDistinct eq xs → repeats eq xs ≡ false
unfolding IsDistinct
from_distinct eq [] all = refl
from_distinct eq (x ∷ xs) all = or_both (list_any (eq x) xs) (repeats eq xs) (no_others eq x xs all.0) (from_distinct eq xs all.1)

same_test : (n : ℕ) → (n == n) ≡ true
same_test n = grind (arith, nat_tests)

test_same : (m n : ℕ) → (m == n) ≡ true → m ≡ n
test_same m n is = grind (arith, nat_tests)

told : {K : Type 0} {eq : K → K → Bool} (laws : IsEquivalence eq) (xs : List K) (b c : Bool) → repeats eq xs ≡ b → (distinct_count eq xs == length xs) ≡ c → c ≡ not b
told {eq = eq} laws xs true true twice count = sym twice ∙ from_distinct eq xs (IsDistinct-from_count laws xs (test_same _ _ count))
told laws xs true false twice count = refl
told laws xs false true twice count = refl
told {eq = eq} laws xs false false twice count =
    sym count ∙ (rw (distinct_count-from_IsDistinct laws xs (distinct_from eq xs twice)) (same_test (length xs)))

-- as many values are different as there are exactly where none stands twice
pub counted : {K : Type 0} {eq : K → K → Bool} (laws : IsEquivalence eq) (xs : List K) → (distinct_count eq xs == length xs) ≡ not (repeats eq xs)
counted {eq = eq} laws xs = told laws xs (repeats eq xs) (distinct_count eq xs == length xs) refl refl

-- values stand twice where their views do
pub repeats_map : {A B : Type 0} (f : A → B) (d : A → A → Bool) (e : B → B → Bool) → ((x y : A) → d x y ≡ e (f x) (f y)) → (xs : List A) → repeats d xs ≡ repeats e (map f xs)
repeats_map f d e same [] = refl
repeats_map f d e same (x ∷ xs) = ap₂ (λ (a b : Bool). a || b) (same_any f (d x) (e (f x)) (same x) xs) (repeats_map f d e same xs)
