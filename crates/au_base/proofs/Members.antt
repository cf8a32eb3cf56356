-- What is an element of a list, and what a filter keeps.
use Rattle.std.proofs.Common.{◌≡◌, suc, zero, Bool, true, false, not, cond, ◌⊎◌, inl, inr, List, [], ◌∷◌, ◌++◌, refl, sym, ap, subst, ◌∙◌, arith}
use Rattle.std.specs.List.{Contains, filter}
use Rattle.au_base.specs.Order.{placed}

-- the first element
pub here : {X : Type 0} (x : X) (xs : List X) → Contains (x ∷ xs) x
here x xs = (0, omega arith, refl)

-- an element of the rest
pub there : {X : Type 0} (y : X) (xs : List X) (x : X) → Contains xs x → Contains (y ∷ xs) x
there y xs x (k, within, is) = (suc k, omega arith, is)

-- an element is the first or of the rest
pub split : {X : Type 0} (y : X) (xs : List X) (x : X) → Contains (y ∷ xs) x → (y ≡ x) ⊎ Contains xs x
split y xs x (zero, within, is) = inl is
split y xs x (suc k, within, is) = inr (k, omega arith, is)

-- nothing is an element of the empty list
pub none : {X : Type 0} (x : X) → Contains {X = X} [] x → ⊥
none x (k, within, is) = omega arith

-- an element of the joined list is one of either
pub append_cases : {X : Type 0} (xs ys : List X) (x : X) → Contains (xs ++ ys) x → Contains xs x ⊎ Contains ys x
append_cases [] ys x has = inr has
append_cases (y ∷ xs) ys x has = elim (split y (xs ++ ys) x has) [
  | inl same ↦ inl (subst (λ z. Contains (y ∷ xs) z) same (here y xs))
  | inr later ↦ elim (append_cases xs ys x later) [
    | inl left ↦ inl (there y xs x left)
    | inr right ↦ inr right
  ]
]

pub append_left : {X : Type 0} (xs ys : List X) (x : X) → Contains xs x → Contains (xs ++ ys) x
append_left [] ys x has = absurd (none x has)
append_left (y ∷ xs) ys x has = elim (split y xs x has) [
  | inl same ↦ subst (λ z. Contains (y ∷ (xs ++ ys)) z) same (here y (xs ++ ys))
  | inr later ↦ there y (xs ++ ys) x (append_left xs ys x later)
]

pub append_right : {X : Type 0} (xs ys : List X) (x : X) → Contains ys x → Contains (xs ++ ys) x
append_right [] ys x has = has
append_right (y ∷ xs) ys x has = there y (xs ++ ys) x (append_right xs ys x has)

-- an element of a filtered list is one of the list
kept_at : {X : Type 0} (b : Bool) (y : X) (rest ys : List X) (x : X) → (Contains rest x → Contains ys x) → Contains (cond b (y ∷ rest) rest) x → Contains (y ∷ ys) x
kept_at true y rest ys x more has = elim (split y rest x has) [
  | inl same ↦ subst (λ z. Contains (y ∷ ys) z) same (here y ys)
  | inr later ↦ there y ys x (more later)
]
kept_at false y rest ys x more has = there y ys x (more has)

pub kept : {X : Type 0} (test : X → Bool) (xs : List X) (x : X) → Contains (filter test xs) x → Contains xs x
kept test [] x has = has
kept test (y ∷ ys) x has = kept_at (test y) y (filter test ys) ys x (kept test ys x) has

-- and it passes the test
passes_at : {X : Type 0} (test : X → Bool) (y : X) (rest : List X) (x : X) (b : Bool) → test y ≡ b → (Contains rest x → test x ≡ true) → Contains (cond b (y ∷ rest) rest) x → test x ≡ true
passes_at test y rest x true is more has = elim (split y rest x has) [
  | inl same ↦ ap test (sym same) ∙ is
  | inr later ↦ more later
]
passes_at test y rest x false is more has = more has

pub passes : {X : Type 0} (test : X → Bool) (xs : List X) (x : X) → Contains (filter test xs) x → test x ≡ true
passes test [] x has = absurd (none x has)
passes test (y ∷ xs) x has = passes_at test y (filter test xs) x (test y) refl (passes test xs x) has

-- an element that passes the test is kept
keeps_later : {X : Type 0} (b : Bool) (y : X) (rest : List X) (x : X) → Contains rest x → Contains (cond b (y ∷ rest) rest) x
keeps_later true y rest x has = there y rest x has
keeps_later false y rest x has = has

keeps_first : {X : Type 0} (b : Bool) (y : X) (rest : List X) → b ≡ true → Contains (cond b (y ∷ rest) rest) y
keeps_first true y rest is = here y rest
keeps_first false y rest is = absurd (let e : false ≡ true = is in cc)

pub keeps : {X : Type 0} (test : X → Bool) (xs : List X) (x : X) → Contains xs x → test x ≡ true → Contains (filter test xs) x
keeps test [] x has is = absurd (none x has)
keeps test (y ∷ xs) x has is = elim (split y xs x has) [
  | inl same ↦ subst (λ z. Contains (filter test (y ∷ xs)) z) same (keeps_first (test y) y (filter test xs) (ap test same ∙ is))
  | inr later ↦ keeps_later (test y) y (filter test xs) x (keeps test xs x later is)
]

-- an element of the list with a new one is that one or one of the list
pub placed_cases : {X : Type 0} (before : X → X → Bool) (entry : X) (xs : List X) (x : X) → Contains (placed before entry xs) x → (entry ≡ x) ⊎ Contains xs x
placed_cases before entry xs x has =
    elim (append_cases (filter (λ other. before other entry) xs) (entry ∷ filter (λ other. not (before other entry)) xs) x has) [
      | inl front ↦ inr (kept (λ other. before other entry) xs x front)
      | inr behind ↦ elim (split entry (filter (λ other. not (before other entry)) xs) x behind) [
        | inl same ↦ inl same
        | inr later ↦ inr (kept (λ other. not (before other entry)) xs x later)
      ]
    ]

placed_old : {X : Type 0} (before : X → X → Bool) (entry : X) (xs : List X) (x : X) (b : Bool) → before x entry ≡ b → Contains xs x → Contains (placed before entry xs) x
placed_old before entry xs x true is has =
    append_left (filter (λ other. before other entry) xs) (entry ∷ filter (λ other. not (before other entry)) xs) x (keeps (λ other. before other entry) xs x has is)
placed_old before entry xs x false is has =
    append_right (filter (λ other. before other entry) xs) (entry ∷ filter (λ other. not (before other entry)) xs) x
    (there entry (filter (λ other. not (before other entry)) xs) x (keeps (λ other. not (before other entry)) xs x has (ap not is)))

pub placed_from : {X : Type 0} (before : X → X → Bool) (entry : X) (xs : List X) (x : X) → (entry ≡ x) ⊎ Contains xs x → Contains (placed before entry xs) x
placed_from before entry xs x (inl same) =
    subst (λ z. Contains (placed before entry xs) z) same (append_right (filter (λ other. before other entry) xs) (entry ∷ filter (λ other. not (before other entry)) xs) entry (here entry (filter (λ other. not (before other entry)) xs)))
placed_from before entry xs x (inr has) = placed_old before entry xs x (before x entry) refl has
