-- Counting different values through a view of them.
use Rattle.std.proofs.Common.{◌≡◌, suc, ◌∙◌, Bool, true, false, cond, List, [], ◌∷◌, length, map, ap, sym, refl}
use Rattle.std.specs.List.{list_any}
use Rattle.std.specs.Set.{distinct_count, unique_keys}
use Rattle.std.specs.Cmp.{IsTotalOrder}
use Rattle.std.specs.declared.cmp.Ordering.{Ordering}

same_any : {A B : Type 0} (f : A → B) (p : A → Bool) (q : B → Bool) → ((x : A) → p x ≡ q (f x)) → (xs : List A) → list_any p xs ≡ list_any q (map f xs)
same_any f p q same [] = refl
same_any f p q same (x ∷ xs) = rw (same x, same_any f p q same xs) refl

same_unique : {A B : Type 0} (f : A → B) (d : A → A → Bool) (e : B → B → Bool) → ((x y : A) → d x y ≡ e (f x) (f y)) → (xs : List A) → map f (unique_keys d xs) ≡ unique_keys e (map f xs)
same_unique f d e same [] = refl
same_unique {A} {B} f d e same (x ∷ xs) =
    let member : list_any (d x) xs ≡ list_any (e (f x)) (map f xs) = same_any f (d x) (e (f x)) (same x) xs in
    let step : (b : Bool) → map f (cond b (unique_keys d xs) (x ∷ unique_keys d xs)) ≡ cond b (unique_keys e (map f xs)) (f x ∷ unique_keys e (map f xs)) =
    elim [
      | true ↦ same_unique f d e same xs
      | false ↦ ap (λ (ys : List B). f x ∷ ys) (same_unique f d e same xs)
    ] in
    rw (← member) (step (list_any (d x) xs))

pub length-map : {A B : Type 0} (f : A → B) (xs : List A) → length (map f xs) ≡ length xs
length-map f [] = refl
length-map f (x ∷ xs) = ap suc (length-map f xs)

-- as many values are different as are their views, where two are the same exactly if their views are
pub same_count : {A B : Type 0} (f : A → B) (d : A → A → Bool) (e : B → B → Bool) → ((x y : A) → d x y ≡ e (f x) (f y)) → (xs : List A) → distinct_count d xs ≡ distinct_count e (map f xs)
same_count f d e same xs = sym (length-map f (unique_keys d xs)) ∙ ap length (same_unique f d e same xs)

-- values in the order of their views
pub by_views : {A B : Type 0} (f : A → B) (R : B → B → Ordering) → IsTotalOrder R → IsTotalOrder (λ x y. R (f x) (f y))
by_views f R o = record { antisymm = λ x y. o.antisymm (f x) (f y); trans = λ x y z. o.trans (f x) (f y) (f z); congr = λ x y z. o.congr (f x) (f y) (f z) }
