-- What is an element of a list, and what a test finds there.
use Rattle.std.proofs.Common.{◌≡◌, suc, zero, Bool, true, false, cond, ◌⊎◌, inl, inr, List, [], ◌∷◌, ◌++◌, map, refl, ap, subst, ◌∙◌, arith}
use Rattle.std.specs.List.{AllByRecursion, Contains, filter, list_any}
use Rattle.std.specs.declared.cmp.Ordering.{Ordering}
use Rattle.std.specs.Ordering.{is_gt, is_lt}
use Rattle.std.proofs.lemmas.Bool.{or_cases, or_left, or_right}
use Rattle.au_entries.specs.Changing.{put_in_order}

-- the first element
pub here : {X : Type 0} (x : X) (xs : List X) → Contains (x ∷ xs) x
here x xs = (0, omega arith, refl)

-- an element of the rest
pub there : {X : Type 0} (y : X) (xs : List X) (x : X) → Contains xs x → Contains (y ∷ xs) x
there y xs x (k, within, is) = (suc k, omega arith, is)

-- an element is the first or of the rest
pub split : {X : Type 0} (y : X) (xs : List X) (x : X) → Contains (y ∷ xs) x → (y ≡ x) ⊎ Contains xs x
split y xs x (zero, within, is) = inl is
split y xs x (suc k, within, is) = inr (k, omega arith, is)

-- nothing is an element of the empty list
pub none : {X : Type 0} (x : X) → Contains {X = X} [] x → ⊥
none x (k, within, is) = omega arith

-- a test that some element passes finds one
pub any_from : {X : Type 0} (test : X → Bool) (xs : List X) → list_any test xs ≡ true → (x : X) × Contains xs x × (test x ≡ true)
any_from test [] is = absurd (let e : false ≡ true = is in cc)
any_from test (y ∷ xs) is = elim (or_cases (test y) (list_any test xs) is) [
  | inl passes ↦ (y, here y xs, passes)
  | inr later ↦ (let found = any_from test xs later in (found.0, there y xs found.0 found.1, found.2))
]

pub any_to : {X : Type 0} (test : X → Bool) (xs : List X) (x : X) → Contains xs x → test x ≡ true → list_any test xs ≡ true
any_to test [] x has passes = absurd (none x has)
any_to test (y ∷ xs) x has passes = elim (split y xs x has) [
  | inl same ↦ or_left (test y) (list_any test xs) (ap test same ∙ passes)
  | inr later ↦ or_right (test y) (list_any test xs) (any_to test xs x later passes)
]

-- what holds of all holds of each, and the other way round
pub all_at : {X : Type 0} (P : X → Type 0) (xs : List X) → AllByRecursion P xs → (x : X) → Contains xs x → P x
all_at P [] all x has = absurd (none x has)
all_at P (y ∷ xs) all x has = elim (split y xs x has) [
  | inl same ↦ subst P same all.0
  | inr later ↦ all_at P xs all.1 x later
]

pub all_of : {X : Type 0} (P : X → Type 0) (xs : List X) → ((x : X) → Contains xs x → P x) → AllByRecursion P xs
all_of P [] each = tt
all_of P (y ∷ xs) each = (each y (here y xs), all_of P xs (λ x has. each x (there y xs x has)))

-- an element of a filtered list is one of the list
kept_at : {X : Type 0} (b : Bool) (y : X) (rest ys : List X) (x : X) → (Contains rest x → Contains ys x) → Contains (cond b (y ∷ rest) rest) x → Contains (y ∷ ys) x
kept_at true y rest ys x more has = elim (split y rest x has) [
  | inl same ↦ subst (λ z. Contains (y ∷ ys) z) same (here y ys)
  | inr later ↦ there y ys x (more later)
]
kept_at false y rest ys x more has = there y ys x (more has)

pub kept : {X : Type 0} (test : X → Bool) (xs : List X) (x : X) → Contains (filter test xs) x → Contains xs x
kept test [] x has = has
kept test (y ∷ ys) x has = kept_at (test y) y (filter test ys) ys x (kept test ys x) has

-- an element of the joined list is one of either
append_cases : {X : Type 0} (xs ys : List X) (x : X) → Contains (xs ++ ys) x → Contains xs x ⊎ Contains ys x
append_cases [] ys x has = inr has
append_cases (y ∷ xs) ys x has = elim (split y (xs ++ ys) x has) [
  | inl same ↦ inl (subst (λ z. Contains (y ∷ xs) z) same (here y xs))
  | inr later ↦ elim (append_cases xs ys x later) [
    | inl left ↦ inl (there y xs x left)
    | inr right ↦ inr right
  ]
]

-- an element of a list with an entry that was put in order is that entry or one of the list
pub put_cases : {X : Type 0} (order : X → Ordering) (entry : X) (xs : List X) (x : X) → Contains (put_in_order order entry xs) x → (entry ≡ x) ⊎ Contains xs x
put_cases order entry xs x has =
    elim (append_cases (filter (λ other. is_lt (order other)) xs) (entry ∷ filter (λ other. is_gt (order other)) xs) x has) [
      | inl front ↦ inr (kept (λ other. is_lt (order other)) xs x front)
      | inr behind ↦ elim (split entry (filter (λ other. is_gt (order other)) xs) x behind) [
        | inl same ↦ inl same
        | inr later ↦ inr (kept (λ other. is_gt (order other)) xs x later)
      ]
    ]

-- an element of a mapped list comes from one of the list
pub mapped : {X Y : Type 0} (f : X → Y) (xs : List X) (y : Y) → Contains (map f xs) y → (x : X) × Contains xs x × (f x ≡ y)
mapped f [] y has = absurd (none y has)
mapped f (x ∷ xs) y has = elim (split (f x) (map f xs) y has) [
  | inl same ↦ (x, here x xs, same)
  | inr later ↦ (let found = mapped f xs y later in (found.0, there x xs found.0 found.1, found.2))
]
