-- What is an element of a list, and what holds of all of them.
use Rattle.std.proofs.Common.{◌≡◌, ◌∙◌, suc, zero, Bool, true, false, ◌||◌, ◌⊎◌, inl, inr, ℕ, ◌<◌, ◌+◌, ◌++◌, List, [], ◌∷◌, length, take, get_or, refl, ap, subst, arith}
use Rattle.std.specs.List.{AllByRecursion, Contains, list_any}
use Rattle.std.proofs.lemmas.List.{take_more}

-- the first element
pub here : {X : Type 0} (x : X) (xs : List X) → Contains (x ∷ xs) x
here x xs = (0, omega arith, refl)

-- an element of the rest
pub there : {X : Type 0} (y : X) (xs : List X) (x : X) → Contains xs x → Contains (y ∷ xs) x
there y xs x (k, within, is) = (suc k, omega arith, is)

-- an element is the first or of the rest
pub split : {X : Type 0} (y : X) (xs : List X) (x : X) → Contains (y ∷ xs) x → (y ≡ x) ⊎ Contains xs x
split y xs x (zero, within, is) = inl is
split y xs x (suc k, within, is) = inr (k, omega arith, is)

-- nothing is an element of the empty list
pub none : {X : Type 0} (x : X) → Contains {X = X} [] x → ⊥
none x (k, within, is) = omega arith

pub or_first : (a b : Bool) → a ≡ true → (a || b) ≡ true
or_first a b is = ap (λ (c : Bool). c || b) is

pub or_later : (a b : Bool) → b ≡ true → (a || b) ≡ true
or_later true b is = refl
or_later false b is = is

pub all_at : {X : Type 0} (P : X → Type 0) (xs : List X) (x : X) → AllByRecursion P xs → Contains xs x → P x
all_at P [] x all has = absurd (none x has)
all_at P (y ∷ xs) x all has = elim (split y xs x has) [ inl same ↦ subst P same all.0 | inr later ↦ all_at P xs x all.1 later ]

pub any_of : {X : Type 0} (test : X → Bool) (xs : List X) (x : X) → Contains xs x → test x ≡ true → list_any test xs ≡ true
any_of test [] x has passes = absurd (none x has)
any_of test (y ∷ xs) x has passes = elim (split y xs x has) [
  | inl same ↦ or_first (test y) (list_any test xs) (ap test same ∙ passes)
  | inr later ↦ or_later (test y) (list_any test xs) (any_of test xs x later passes)
]

-- an element of a list with one more behind
pub split_push : {X : Type 0} (xs : List X) (y x : X) → Contains (xs ++ y ∷ []) x → Contains xs x ⊎ (y ≡ x)
split_push [] y x has = elim (split y [] x has) [ inl same ↦ inr same | inr later ↦ absurd (none x later) ]
split_push (z ∷ xs) y x has = elim (split z (xs ++ y ∷ []) x has) [
  | inl same ↦ inl (subst (λ a. Contains (z ∷ xs) a) same (here z xs))
  | inr later ↦ (elim (split_push xs y x later) [ inl front ↦ inl (there z xs x front) | inr last ↦ inr last ])
]

pub each_next : {X : Type 0} (P : X → Type 0) (xs : List X) (i : ℕ) (d : X) → i < length xs → ((x : X) → Contains (take i xs) x → P x) → P (get_or xs i d)
    → (x : X) → Contains (take (i + 1) xs) x → P x
each_next P xs i d within so_far next x has = elim (split_push (take i xs) (get_or xs i d) x (subst (λ ys. Contains ys x) (take_more xs i d within) has)) [
  | inl front ↦ so_far x front
  | inr same ↦ subst P same next
]
