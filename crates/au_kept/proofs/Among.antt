-- What is an element of a list.
use Rattle.std.proofs.Common.{◌≡◌, suc, zero, Bool, true, false, ◌⊎◌, inl, inr, List, [], ◌∷◌, map, refl, sym, ap, subst, ◌∙◌, arith}
use Rattle.std.specs.List.{AllByRecursion, Contains, list_all, list_any}
use Rattle.std.proofs.lemmas.Bool.{and_parts, or_cases, or_left, or_right}

-- the first element
pub here : {X : Type 0} (x : X) (xs : List X) → Contains (x ∷ xs) x
here x xs = (0, omega arith, refl)

-- an element of the rest
pub there : {X : Type 0} (y : X) (xs : List X) (x : X) → Contains xs x → Contains (y ∷ xs) x
there y xs x (k, within, is) = (suc k, omega arith, is)

-- an element is the first or of the rest
pub split : {X : Type 0} (y : X) (xs : List X) (x : X) → Contains (y ∷ xs) x → (y ≡ x) ⊎ Contains xs x
split y xs x (zero, within, is) = inl is
split y xs x (suc k, within, is) = inr (k, omega arith, is)

-- nothing is an element of the empty list
pub none : {X : Type 0} (x : X) → Contains {X = X} [] x → ⊥
none x (k, within, is) = omega arith

-- what a test says of all of a list's images it says of each
pub each_of : {X Y : Type 0} (f : X → Y) (test : Y → Bool) (xs : List X) (x : X) → list_all test (map f xs) ≡ true → Contains xs x → test (f x) ≡ true
each_of f test [] x all has = absurd (none x has)
each_of f test (y ∷ xs) x all has =
    let parts = and_parts (test (f y)) (list_all test (map f xs)) all in
    elim (split y xs x has) [
      | inl same ↦ ap (λ z. test (f z)) (sym same) ∙ parts.0
      | inr later ↦ each_of f test xs x parts.1 later
    ]

-- a test that some element passes finds one, and the other way round
pub any_from : {X : Type 0} (test : X → Bool) (xs : List X) → list_any test xs ≡ true → (x : X) × Contains xs x × (test x ≡ true)
any_from test [] is = absurd (let e : false ≡ true = is in cc)
any_from test (y ∷ xs) is = elim (or_cases (test y) (list_any test xs) is) [
  | inl passes ↦ (y, here y xs, passes)
  | inr later ↦ (let found = any_from test xs later in (found.0, there y xs found.0 found.1, found.2))
]

pub any_to : {X : Type 0} (test : X → Bool) (xs : List X) (x : X) → Contains xs x → test x ≡ true → list_any test xs ≡ true
any_to test [] x has passes = absurd (none x has)
any_to test (y ∷ xs) x has passes = elim (split y xs x has) [
  | inl same ↦ or_left (test y) (list_any test xs) (ap test same ∙ passes)
  | inr later ↦ or_right (test y) (list_any test xs) (any_to test xs x later passes)
]

-- what holds of all holds of each
pub all_at : {X : Type 0} (P : X → Type 0) (xs : List X) → AllByRecursion P xs → (x : X) → Contains xs x → P x
all_at P [] all x has = absurd (none x has)
all_at P (y ∷ xs) all x has = elim (split y xs x has) [
  | inl same ↦ subst P same all.0
  | inr later ↦ all_at P xs all.1 x later
]
