-- Elements of lists, and changes one after another.
use Rattle.std.proofs.Common.{◌≡◌, ℕ, suc, zero, Bool, true, false, cond, List, [], ◌∷◌, ◌++◌, ◌⊎◌, inl, inr, map, refl, sym, subst, arith}
use Rattle.std.specs.List.{AllByRecursion, Contains, filter, flat_map}
use Rattle.au_entries.specs.declared.change.Change.{Change}
use Rattle.au_entries.specs.declared.kept.Kept.{Kept}
use Rattle.au_entries.specs.Changing.{changed, changed_all}
use Rattle.au_entries.specs.Replaying.{AllGoOn, Conditions}
use Rattle.sql_ast.specs.declared.expression.Expr.{Expr}

-- ---- elements

pub here : {X : Type 0} (x : X) (xs : List X) → Contains (x ∷ xs) x
here x xs = (0, omega arith, refl)

pub there : {X : Type 0} (y : X) (xs : List X) (x : X) → Contains xs x → Contains (y ∷ xs) x
there y xs x (k, within, is) = (suc k, omega (arith, within), is)

-- an element is the first or of the rest
split : {X : Type 0} (y : X) (xs : List X) (x : X) → Contains (y ∷ xs) x → (y ≡ x) ⊎ Contains xs x
split y xs x (zero, within, is) = inl is
split y xs x (suc k, within, is) = inr (k, omega (arith, within), is)

none : {X : Type 0} (x : X) → Contains {X = X} [] x → ⊥
none x (k, within, is) = omega (arith, within)

front : {X : Type 0} (x : X) (xs ys : List X) → Contains xs x → Contains (xs ++ ys) x
front x [] ys has = absurd (none x has)
front x (y ∷ xs) ys has = elim (split y xs x has) [
  | inl same ↦ subst (Contains (y ∷ (xs ++ ys))) same (here y (xs ++ ys))
  | inr later ↦ there y (xs ++ ys) x (front x xs ys later)
]

behind : {X : Type 0} (x : X) (xs ys : List X) → Contains ys x → Contains (xs ++ ys) x
behind x [] ys has = has
behind x (y ∷ xs) ys has = there y (xs ++ ys) x (behind x xs ys has)

-- an element that passes a test is among those that do
kept_at : {X : Type 0} (y x : X) (ys : List X) (passes : Bool) → Contains ys x → Contains (cond passes (y ∷ ys) ys) x
kept_at y x ys true has = there y ys x has
kept_at y x ys false has = has

own_at : {X : Type 0} (y : X) (ys : List X) (passes : Bool) → passes ≡ true → Contains (cond passes (y ∷ ys) ys) y
own_at y ys true is = here y ys
own_at y ys false is = absurd (let e : false ≡ true = is in cc)

pub filtered : {X : Type 0} (test : X → Bool) (xs : List X) (x : X) → Contains xs x → test x ≡ true → Contains (filter test xs) x
filtered test [] x has passes = absurd (none x has)
filtered test (y ∷ xs) x has passes = elim (split y xs x has) [
  | inl same ↦ subst (Contains (filter test (y ∷ xs))) same (own_at y (filter test xs) (test y) (subst (λ z. test z ≡ true) (sym same) passes))
  | inr later ↦ kept_at y x (filter test xs) (test y) (filtered test xs x later passes)
]

pub mapped : {X Y : Type 0} (f : X → Y) (xs : List X) (x : X) → Contains xs x → Contains (map f xs) (f x)
mapped f [] x has = absurd (none x has)
mapped f (y ∷ xs) x has = elim (split y xs x has) [
  | inl same ↦ subst (λ z. Contains (map f (y ∷ xs)) (f z)) same (here (f y) (map f xs))
  | inr later ↦ there (f y) (map f xs) (f x) (mapped f xs x later)
]

-- an element of what is made of an element is among all that is made
pub made : {X Y : Type 0} (f : X → List Y) (xs : List X) (x : X) (y : Y) → Contains xs x → Contains (f x) y → Contains (flat_map f xs) y
made f [] x y has of = absurd (none x has)
made f (z ∷ xs) x y has of = elim (split z xs x has) [
  | inl same ↦ front y (f z) (flat_map f xs) (subst (λ w. Contains (f w) y) (sym same) of)
  | inr later ↦ behind y (f z) (flat_map f xs) (made f xs x y later of)
]

-- ---- all of a list

pub all_joined : {X : Type 0} (P : X → Type 0) (xs ys : List X) → AllByRecursion P xs → AllByRecursion P ys → AllByRecursion P (xs ++ ys)
all_joined P [] ys one two = two
all_joined P (x ∷ xs) ys one two = (one.0, all_joined P xs ys one.1 two)

pub all_mapped : {X Y : Type 0} (P : Y → Type 0) (f : X → Y) (xs : List X) → AllByRecursion (λ x. P (f x)) xs → AllByRecursion P (map f xs)
all_mapped P f [] all = tt
all_mapped P f (x ∷ xs) all = (all.0, all_mapped P f xs all.1)

-- ---- changes one after another

pub changed_joined : (tree : List ℕ → Expr) (a b : List Change) (kept : Kept) → changed_all tree (a ++ b) kept ≡ changed_all tree b (changed_all tree a kept)
changed_joined tree [] b kept = refl
changed_joined tree (change ∷ a) b kept = changed_joined tree a b (changed tree change kept)

pub go_joined : (given : Conditions) (a b : List Change) (kept : Kept) → AllGoOn given false kept a → AllGoOn given false (changed_all given.tree a kept) b → AllGoOn given false kept (a ++ b)
go_joined given [] b kept one two = two
go_joined given (c ∷ a) b kept one two = (one.0, go_joined given a b (changed given.tree c kept) one.1 two)
