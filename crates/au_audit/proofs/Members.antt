-- What is an element of a list.
use Rattle.std.proofs.Common.{◌≡◌, suc, zero, Bool, true, false, not, cond, ◌⊎◌, inl, inr, List, [], ◌∷◌, ◌++◌, map, refl, subst, arith}
use Rattle.std.specs.List.{Contains, filter}
use Rattle.au_base.specs.Order.{placed}

-- the first element
pub here : {X : Type 0} (x : X) (xs : List X) → Contains (x ∷ xs) x
here x xs = (0, omega arith, refl)

-- an element of the rest
pub there : {X : Type 0} (y : X) (xs : List X) (x : X) → Contains xs x → Contains (y ∷ xs) x
there y xs x (k, within, is) = (suc k, omega arith, is)

-- an element is the first or of the rest
pub split : {X : Type 0} (y : X) (xs : List X) (x : X) → Contains (y ∷ xs) x → (y ≡ x) ⊎ Contains xs x
split y xs x (zero, within, is) = inl is
split y xs x (suc k, within, is) = inr (k, omega arith, is)

-- nothing is an element of the empty list
pub none : {X : Type 0} (x : X) → Contains {X = X} [] x → ⊥
none x (k, within, is) = omega arith

-- an element of the joined list is one of either
pub append_cases : {X : Type 0} (xs ys : List X) (x : X) → Contains (xs ++ ys) x → Contains xs x ⊎ Contains ys x
append_cases [] ys x has = inr has
append_cases (y ∷ xs) ys x has = elim (split y (xs ++ ys) x has) [
  | inl same ↦ inl (subst (λ z. Contains (y ∷ xs) z) same (here y xs))
  | inr later ↦ elim (append_cases xs ys x later) [
    | inl left ↦ inl (there y xs x left)
    | inr right ↦ inr right
  ]
]

pub append_left : {X : Type 0} (xs ys : List X) (x : X) → Contains xs x → Contains (xs ++ ys) x
append_left [] ys x has = absurd (none x has)
append_left (y ∷ xs) ys x has = elim (split y xs x has) [
  | inl same ↦ subst (λ z. Contains (y ∷ (xs ++ ys)) z) same (here y (xs ++ ys))
  | inr later ↦ there y (xs ++ ys) x (append_left xs ys x later)
]

pub append_right : {X : Type 0} (xs ys : List X) (x : X) → Contains ys x → Contains (xs ++ ys) x
append_right [] ys x has = has
append_right (y ∷ xs) ys x has = there y (xs ++ ys) x (append_right xs ys x has)

-- an element of a filtered list is one of the list
kept_at : {X : Type 0} (b : Bool) (y : X) (rest ys : List X) (x : X) → (Contains rest x → Contains ys x) → Contains (cond b (y ∷ rest) rest) x → Contains (y ∷ ys) x
kept_at true y rest ys x more has = elim (split y rest x has) [
  | inl same ↦ subst (λ z. Contains (y ∷ ys) z) same (here y ys)
  | inr later ↦ there y ys x (more later)
]
kept_at false y rest ys x more has = there y ys x (more has)

pub kept : {X : Type 0} (test : X → Bool) (xs : List X) (x : X) → Contains (filter test xs) x → Contains xs x
kept test [] x has = has
kept test (y ∷ ys) x has = kept_at (test y) y (filter test ys) ys x (kept test ys x) has

-- an element of a mapped list comes from one of the list
pub mapped : {X Y : Type 0} (f : X → Y) (xs : List X) (y : Y) → Contains (map f xs) y → (x : X) × Contains xs x × (f x ≡ y)
mapped f [] y has = absurd (none y has)
mapped f (x ∷ xs) y has = elim (split (f x) (map f xs) y has) [
  | inl same ↦ (x, here x xs, same)
  | inr later ↦ (let found = mapped f xs y later in (found.0, there x xs found.0 found.1, found.2))
]

-- an element of the list with a new entry is that entry or one of the list
pub placed_cases : {X : Type 0} (before : X → X → Bool) (entry : X) (xs : List X) (x : X) → Contains (placed before entry xs) x → (entry ≡ x) ⊎ Contains xs x
placed_cases before entry xs x has =
    elim (append_cases (filter (λ other. before other entry) xs) (entry ∷ filter (λ other. not (before other entry)) xs) x has) [
      | inl front ↦ inr (kept (λ other. before other entry) xs x front)
      | inr behind ↦ elim (split entry (filter (λ other. not (before other entry)) xs) x behind) [
        | inl same ↦ inl same
        | inr later ↦ inr (kept (λ other. not (before other entry)) xs x later)
      ]
    ]

-- what f makes of an element is one of the mapped list
pub mapped_to : {X Y : Type 0} (f : X → Y) (xs : List X) (x : X) → Contains xs x → Contains (map f xs) (f x)
mapped_to f [] x has = absurd (none x has)
mapped_to f (y ∷ xs) x has = elim (split y xs x has) [
  | inl same ↦ subst (λ z. Contains (f y ∷ map f xs) (f z)) same (here (f y) (map f xs))
  | inr later ↦ there (f y) (map f xs) (f x) (mapped_to f xs x later)
]
