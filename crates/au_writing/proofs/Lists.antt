-- What stands in lists.
use Rattle.std.proofs.Common.{◌≡◌, ◌∙◌, ◌⊎◌, inl, inr, zero, suc, Bool, true, false, cond, List, [], ◌∷◌, ◌++◌, map, refl, sym, ap, subst, arith}
use Rattle.std.specs.Prelude.{◌||◌, None, Some}
use Rattle.std.specs.List.{AllByRecursion, Contains, filter, find, list_all, list_any}
use Rattle.std.proofs.lemmas.Bool.{and_parts, or_cases}

-- the first element
pub here : {X : Type 0} (x : X) (xs : List X) → Contains (x ∷ xs) x
here x xs = (0, omega arith, refl)

-- an element of the rest
pub there : {X : Type 0} (y : X) (xs : List X) (x : X) → Contains xs x → Contains (y ∷ xs) x
there y xs x (k, within, is) = (suc k, omega arith, is)

-- an element is the first or of the rest
pub split : {X : Type 0} (y : X) (xs : List X) (x : X) → Contains (y ∷ xs) x → (y ≡ x) ⊎ Contains xs x
split y xs x (zero, within, is) = inl is
split y xs x (suc k, within, is) = inr (k, omega arith, is)

-- nothing is an element of the empty list
pub none : {X : Type 0} (x : X) → Contains {X = X} [] x → ⊥
none x (k, within, is) = omega arith

-- what holds of all holds of each, and the other way round
pub all_at : {X : Type 0} (P : X → Type 0) (xs : List X) → AllByRecursion P xs → (x : X) → Contains xs x → P x
all_at P [] all x has = absurd (none x has)
all_at P (y ∷ xs) all x has = elim (split y xs x has) [
  | inl same ↦ subst P same all.0
  | inr later ↦ all_at P xs all.1 x later
]

pub all_from : {X : Type 0} (P : X → Type 0) (xs : List X) → ((x : X) → Contains xs x → P x) → AllByRecursion P xs
all_from P [] each = tt
all_from {X} P (x ∷ xs) each = (each x (here x xs), all_from P xs (λ (y : X) has. each y (there x xs y has)))

-- what holds of all of two lists holds of all of each
pub all_front : {X : Type 0} (P : X → Type 0) (xs ys : List X) → AllByRecursion P (xs ++ ys) → AllByRecursion P xs
all_front P [] ys all = tt
all_front P (x ∷ xs) ys all = (all.0, all_front P xs ys all.1)

pub all_behind : {X : Type 0} (P : X → Type 0) (xs ys : List X) → AllByRecursion P (xs ++ ys) → AllByRecursion P ys
all_behind P [] ys all = all
all_behind P (x ∷ xs) ys all = all_behind P xs ys all.1

-- what holds of all that is made holds of what is made of each
pub all_unmapped : {X Y : Type 0} (P : Y → Type 0) (f : X → Y) (xs : List X) → AllByRecursion P (map f xs) → AllByRecursion (λ x. P (f x)) xs
all_unmapped P f [] all = tt
all_unmapped P f (x ∷ xs) all = (all.0, all_unmapped P f xs all.1)

pub all_mapped : {X Y : Type 0} (P : Y → Type 0) (f : X → Y) (xs : List X) → AllByRecursion (λ x. P (f x)) xs → AllByRecursion P (map f xs)
all_mapped P f [] all = tt
all_mapped P f (x ∷ xs) all = (all.0, all_mapped P f xs all.1)

-- what stands among what is made is made of an element
pub unmapped : {X Y : Type 0} (f : X → Y) (xs : List X) (y : Y) → Contains (map f xs) y → (x : X) × Contains xs x × (f x ≡ y)
unmapped f [] y has = absurd (none y has)
unmapped f (x ∷ xs) y has = elim (split (f x) (map f xs) y has) [
  | inl same ↦ (x, here x xs, same)
  | inr later ↦ (let made = unmapped f xs y later in (made.0, there x xs made.0 made.1, made.2))
]

-- what a filter keeps stood there, and passes
kept_at : {X : Type 0} (test : X → Bool) (y : X) (ys zs : List X) (x : X) (b : Bool) → test y ≡ b → (Contains ys x → Contains zs x × (test x ≡ true)) → Contains (cond b (y ∷ ys) ys) x → Contains (y ∷ zs) x × (test x ≡ true)
kept_at {X} test y ys zs x true is more has = elim (split y ys x has) [
  | inl same ↦ (subst (λ (z : X). Contains (y ∷ zs) z) same (here y zs), ap test (sym same) ∙ is)
  | inr later ↦ (let found = more later in (there y zs x found.0, found.1))
]
kept_at test y ys zs x false is more has = let found = more has in (there y zs x found.0, found.1)

pub filtered_from : {X : Type 0} (test : X → Bool) (xs : List X) (x : X) → Contains (filter test xs) x → Contains xs x × (test x ≡ true)
filtered_from test [] x has = absurd (none x has)
filtered_from test (y ∷ xs) x has = kept_at test y (filter test xs) xs x (test y) refl (filtered_from test xs x) has

all_kept_at : {X : Type 0} (P : X → Type 0) (x : X) (ys : List X) (b : Bool) → P x → AllByRecursion P ys → AllByRecursion P (cond b (x ∷ ys) ys)
all_kept_at P x ys true first more = (first, more)
all_kept_at P x ys false first more = more

-- what holds of all holds of those that a filter keeps
pub all_kept : {X : Type 0} (P : X → Type 0) (test : X → Bool) (xs : List X) → AllByRecursion P xs → AllByRecursion P (filter test xs)
all_kept P test [] all = tt
all_kept P test (x ∷ xs) all = all_kept_at P x (filter test xs) (test x) all.0 (all_kept P test xs all.1)

-- a test that some element passes finds the first such
pub any_from : {X : Type 0} (test : X → Bool) (xs : List X) → list_any test xs ≡ true → (x : X) × Contains xs x × (test x ≡ true)
any_from test [] is = absurd (let e : false ≡ true = is in cc)
any_from test (y ∷ xs) is = elim (or_cases (test y) (list_any test xs) is) [
  | inl passes ↦ (y, here y xs, passes)
  | inr later ↦ (let found = any_from test xs later in (found.0, there y xs found.0 found.1, found.2))
]

-- the first element that passes a test
pub record IsFirst {X : Type 0} (test : X → Bool) (xs : List X) (x : X) : Type 0 where
  pub has : Contains xs x
  pub passes : test x ≡ true
  pub found : find test xs ≡ Some x

first_at : {X : Type 0} (test : X → Bool) (y : X) (ys : List X) (b : Bool) → test y ≡ b → (list_any test ys ≡ true → (x : X) × IsFirst test ys x) → (b || list_any test ys) ≡ true → (x : X) × IsFirst test (y ∷ ys) x
first_at {X} test y ys true is more any = (y, record { has = here y ys; passes = is; found = ap (λ (b : Bool). cond b (Some y) (find test ys)) is })
first_at {X} test y ys false is more any =
    let (x, first) = more any in
    (x, record { has = there y ys x first.has; passes = first.passes; found = ap (λ (b : Bool). cond b (Some y) (find test ys)) is ∙ first.found })

pub first_of : {X : Type 0} (test : X → Bool) (xs : List X) → list_any test xs ≡ true → (x : X) × IsFirst test xs x
first_of test [] is = absurd (let e : false ≡ true = is in cc)
first_of test (y ∷ ys) is = first_at test y ys (test y) refl (first_of test ys) is

-- what a test says of all of a list's images it says of each
pub each_of : {X Y : Type 0} (f : X → Y) (test : Y → Bool) (xs : List X) (x : X) → list_all test (map f xs) ≡ true → Contains xs x → test (f x) ≡ true
each_of f test [] x all has = absurd (none x has)
each_of f test (y ∷ xs) x all has =
    let parts = and_parts (test (f y)) (list_all test (map f xs)) all in
    elim (split y xs x has) [
      | inl same ↦ ap (λ z. test (f z)) (sym same) ∙ parts.0
      | inr later ↦ each_of f test xs x parts.1 later
    ]

-- an element that is found is one that passes the test
found_at : {X : Type 0} (test : X → Bool) (y : X) (ys : List X) (x : X) (b : Bool) → test y ≡ b → (find test ys ≡ Some x → Contains ys x × (test x ≡ true)) → cond b (Some y) (find test ys) ≡ Some x → Contains (y ∷ ys) x × (test x ≡ true)
found_at {X} test y ys x true is more found = let same : y ≡ x = cc in (subst (λ (z : X). Contains (y ∷ ys) z) same (here y ys), ap test (sym same) ∙ is)
found_at test y ys x false is more found = let (has, passes) = more found in (there y ys x has, passes)

pub found_from : {X : Type 0} (test : X → Bool) (xs : List X) (x : X) → find test xs ≡ Some x → Contains xs x × (test x ≡ true)
found_from test [] x found = absurd (let e : None ≡ Some x = found in cc)
found_from test (y ∷ ys) x found = found_at test y ys x (test y) refl (found_from test ys x) found
