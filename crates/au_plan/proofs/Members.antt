-- What is an element of a list, and what holds of all of them.
use Rattle.std.proofs.Common.{◌≡◌, ◌∙◌, suc, zero, Bool, true, false, cond, ◌⊎◌, inl, inr, List, [], ◌∷◌, map, refl, sym, ap, subst, arith}
use Rattle.std.specs.List.{AllByRecursion, Contains, filter, list_any}
use Rattle.std.proofs.lemmas.Bool.{or_cases}

-- the first element
pub here : {X : Type 0} (x : X) (xs : List X) → Contains (x ∷ xs) x
here x xs = (0, omega arith, refl)

-- an element of the rest
pub there : {X : Type 0} (y : X) (xs : List X) (x : X) → Contains xs x → Contains (y ∷ xs) x
there y xs x (k, within, is) = (suc k, omega arith, is)

-- an element is the first or of the rest
pub split : {X : Type 0} (y : X) (xs : List X) (x : X) → Contains (y ∷ xs) x → (y ≡ x) ⊎ Contains xs x
split y xs x (zero, within, is) = inl is
split y xs x (suc k, within, is) = inr (k, omega arith, is)

-- nothing is an element of the empty list
pub none : {X : Type 0} (x : X) → Contains {X = X} [] x → ⊥
none x (k, within, is) = omega arith

-- a test that finds something finds an element that passes it
pub any_from : {X : Type 0} (test : X → Bool) (xs : List X) → list_any test xs ≡ true → (x : X) × Contains xs x × (test x ≡ true)
any_from test [] is = absurd (let e : false ≡ true = is in cc)
any_from test (y ∷ xs) is = elim (or_cases (test y) (list_any test xs) is) [
  | inl passes ↦ (y, here y xs, passes)
  | inr later ↦ (let found = any_from test xs later in (found.0, there y xs found.0 found.1, found.2))
]

-- an element of a filtered list is one of the list
kept_at : {X : Type 0} (b : Bool) (y : X) (rest ys : List X) (x : X) → (Contains rest x → Contains ys x) → Contains (cond b (y ∷ rest) rest) x → Contains (y ∷ ys) x
kept_at true y rest ys x more has = elim (split y rest x has) [
  | inl same ↦ subst (λ z. Contains (y ∷ ys) z) same (here y ys)
  | inr later ↦ there y ys x (more later)
]
kept_at false y rest ys x more has = there y ys x (more has)

pub kept : {X : Type 0} (test : X → Bool) (xs : List X) (x : X) → Contains (filter test xs) x → Contains xs x
kept test [] x has = has
kept test (y ∷ ys) x has = kept_at (test y) y (filter test ys) ys x (kept test ys x) has

-- and passes the test
passes_at : {X : Type 0} (test : X → Bool) (y : X) (rest : List X) (x : X) (b : Bool) → test y ≡ b → (Contains rest x → test x ≡ true) → Contains (cond b (y ∷ rest) rest) x → test x ≡ true
passes_at test y rest x true is more has = elim (split y rest x has) [
  | inl same ↦ ap test (sym same) ∙ is
  | inr later ↦ more later
]
passes_at test y rest x false is more has = more has

pub passed : {X : Type 0} (test : X → Bool) (xs : List X) (x : X) → Contains (filter test xs) x → test x ≡ true
passed test [] x has = absurd (none x has)
passed test (y ∷ xs) x has = passes_at test y (filter test xs) x (test y) refl (passed test xs x) has

-- an element of a mapped list comes from one of the list
pub mapped : {X Y : Type 0} (f : X → Y) (xs : List X) (y : Y) → Contains (map f xs) y → (x : X) × Contains xs x × (f x ≡ y)
mapped f [] y has = absurd (none y has)
mapped f (x ∷ xs) y has = elim (split (f x) (map f xs) y has) [
  | inl same ↦ (x, here x xs, same)
  | inr later ↦ (let found = mapped f xs y later in (found.0, there x xs found.0 found.1, found.2))
]

-- what holds of each element holds of all
pub all_of : {X : Type 0} (P : X → Type 0) (xs : List X) → ((x : X) → Contains xs x → P x) → AllByRecursion P xs
all_of P [] each = tt
all_of P (y ∷ xs) each = (each y (here y xs), all_of P xs (λ x has. each x (there y xs x has)))

-- and each element of the list gives one of the mapped list
pub mapped_to : {X Y : Type 0} (f : X → Y) (xs : List X) (x : X) → Contains xs x → Contains (map f xs) (f x)
mapped_to f [] x has = absurd (none x has)
mapped_to f (y ∷ xs) x has = elim (split y xs x has) [
  | inl same ↦ subst (λ z. Contains (f y ∷ map f xs) (f z)) same (here (f y) (map f xs))
  | inr later ↦ there (f y) (map f xs) (f x) (mapped_to f xs x later)
]
