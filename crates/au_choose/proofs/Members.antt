-- What is an element of a list, and what holds of all of them.
use Rattle.std.proofs.Common.{◌≡◌, suc, zero, Bool, true, false, cond, ◌⊎◌, inl, inr, List, [], ◌∷◌, filter, refl, subst, arith}
use Rattle.std.specs.List.{AllByRecursion, Contains}

-- the first element
pub here : {X : Type 0} (x : X) (xs : List X) → Contains (x ∷ xs) x
here x xs = (0, omega arith, refl)

-- an element of the rest
pub there : {X : Type 0} (y : X) (xs : List X) (x : X) → Contains xs x → Contains (y ∷ xs) x
there y xs x (k, within, is) = (suc k, omega arith, is)

-- an element is the first or of the rest
pub split : {X : Type 0} (y : X) (xs : List X) (x : X) → Contains (y ∷ xs) x → (y ≡ x) ⊎ Contains xs x
split y xs x (zero, within, is) = inl is
split y xs x (suc k, within, is) = inr (k, omega arith, is)

-- nothing is an element of the empty list
pub none : {X : Type 0} (x : X) → Contains {X = X} [] x → ⊥
none x (k, within, is) = omega arith

-- an element of a filtered list is one of the list
kept_at : {X : Type 0} (b : Bool) (y : X) (rest ys : List X) (x : X) → (Contains rest x → Contains ys x) → Contains (cond b (y ∷ rest) rest) x → Contains (y ∷ ys) x
kept_at true y rest ys x more has = elim (split y rest x has) [
  | inl same ↦ subst (λ z. Contains (y ∷ ys) z) same (here y ys)
  | inr later ↦ there y ys x (more later)
]
kept_at false y rest ys x more has = there y ys x (more has)

pub kept : {X : Type 0} (test : X → Bool) (xs : List X) (x : X) → Contains (filter test xs) x → Contains xs x
kept test [] x has = has
kept test (y ∷ ys) x has = kept_at (test y) y (filter test ys) ys x (kept test ys x) has

-- what holds of each element holds of all, and of each of them
pub all_of : {X : Type 0} (P : X → Type 0) (xs : List X) → ((x : X) → Contains xs x → P x) → AllByRecursion P xs
all_of P [] each = tt
all_of P (y ∷ xs) each = (each y (here y xs), all_of P xs (λ x has. each x (there y xs x has)))

pub each_of : {X : Type 0} (P : X → Type 0) (xs : List X) → AllByRecursion P xs → (x : X) → Contains xs x → P x
each_of P [] all x has = absurd (none x has)
each_of P (y ∷ xs) all x has = elim (split y xs x has) [
  | inl same ↦ subst P same all.0
  | inr later ↦ each_of P xs all.1 x later
]
