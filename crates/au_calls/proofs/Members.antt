-- What is an element of a list, and what a test finds there.
use Rattle.std.proofs.Common.{◌≡◌, suc, zero, Bool, true, false, cond, ◌⊎◌, inl, inr, List, [], ◌∷◌, Some, None, find, refl, subst, arith}
use Rattle.std.specs.List.{AllByRecursion, Contains, list_any}
use Rattle.std.proofs.lemmas.Bool.{or_cases}

-- the first element
here : {X : Type 0} (x : X) (xs : List X) → Contains (x ∷ xs) x
here x xs = (0, omega arith, refl)

-- an element of the rest
there : {X : Type 0} (y : X) (xs : List X) (x : X) → Contains xs x → Contains (y ∷ xs) x
there y xs x (k, within, is) = (suc k, omega arith, is)

-- an element is the first or of the rest
pub split : {X : Type 0} (y : X) (xs : List X) (x : X) → Contains (y ∷ xs) x → (y ≡ x) ⊎ Contains xs x
split y xs x (zero, within, is) = inl is
split y xs x (suc k, within, is) = inr (k, omega arith, is)

pub none : {X : Type 0} (x : X) → Contains {X = X} [] x → ⊥
none x (k, within, is) = omega arith

-- a test that some element passes finds one
pub any_from : {X : Type 0} (test : X → Bool) (xs : List X) → list_any test xs ≡ true → (x : X) × Contains xs x × (test x ≡ true)
any_from test [] is = absurd (let e : false ≡ true = is in cc)
any_from test (y ∷ xs) is = elim (or_cases (test y) (list_any test xs) is) [
  | inl passes ↦ (y, here y xs, passes)
  | inr later ↦ (let found = any_from test xs later in (found.0, there y xs found.0 found.1, found.2))
]

-- what holds of all holds of each
pub all_at : {X : Type 0} (P : X → Type 0) (xs : List X) → AllByRecursion P xs → (x : X) → Contains xs x → P x
all_at P [] all x has = absurd (none x has)
all_at P (y ∷ xs) all x has = elim (split y xs x has) [
  | inl same ↦ subst P same all.0
  | inr later ↦ all_at P xs all.1 x later
]

-- what is found is an element
found_at : {X : Type 0} (test : X → Bool) (y : X) (ys : List X) (x : X) (b : Bool) → (find test ys ≡ Some x → Contains ys x) → cond b (Some y) (find test ys) ≡ Some x → Contains (y ∷ ys) x
found_at test y ys x true later is = subst (λ (z : _). Contains (y ∷ ys) z) (let e : Some y ≡ Some x = is in cc) (here y ys)
found_at test y ys x false later is = there y ys x (later is)

pub found : {X : Type 0} (test : X → Bool) (xs : List X) (x : X) → find test xs ≡ Some x → Contains xs x
found test [] x is = absurd (let e : None ≡ Some x = is in cc)
found test (y ∷ ys) x is = found_at test y ys x (test y) (found test ys x) is
