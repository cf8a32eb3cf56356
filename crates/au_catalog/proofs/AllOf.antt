-- Facts of all entries of a list.
use Rattle.std.proofs.Common.{◌≡◌, Bool, true, false, cond, List, [], ◌∷◌, ◌++◌, refl}
use Rattle.std.specs.List.{AllByRecursion, filter}

pub all_joined : {X : Type 0} (P : X → Type 0) (xs ys : List X) → AllByRecursion P xs → AllByRecursion P ys → AllByRecursion P (xs ++ ys)
all_joined P [] ys one two = two
all_joined P (x ∷ xs) ys one two = (one.0, all_joined P xs ys one.1 two)

all_kept_at : {X : Type 0} (P : X → Type 0) (x : X) (ys : List X) (b : Bool) → P x → AllByRecursion P ys → AllByRecursion P (cond b (x ∷ ys) ys)
all_kept_at P x ys true here more = (here, more)
all_kept_at P x ys false here more = more

-- what holds of all holds of those that a filter keeps
pub all_kept : {X : Type 0} (P : X → Type 0) (test : X → Bool) (xs : List X) → AllByRecursion P xs → AllByRecursion P (filter test xs)
all_kept P test [] all = tt
all_kept P test (x ∷ xs) all = all_kept_at P x (filter test xs) (test x) all.0 (all_kept P test xs all.1)

pub all_weaker : {X : Type 0} (P Q : X → Type 0) → ((x : X) → P x → Q x) → (xs : List X) → AllByRecursion P xs → AllByRecursion Q xs
all_weaker P Q weaker [] all = tt
all_weaker P Q weaker (x ∷ xs) all = (weaker x all.0, all_weaker P Q weaker xs all.1)

passes_at : {X : Type 0} (test : X → Bool) (x : X) (ys : List X) (b : Bool) → test x ≡ b → AllByRecursion (λ y. test y ≡ true) ys → AllByRecursion (λ y. test y ≡ true) (cond b (x ∷ ys) ys)
passes_at test x ys true is more = (is, more)
passes_at test x ys false is more = more

-- what a filter keeps passes its test
pub passes : {X : Type 0} (test : X → Bool) (xs : List X) → AllByRecursion (λ x. test x ≡ true) (filter test xs)
passes test [] = tt
passes test (x ∷ xs) = passes_at test x (filter test xs) (test x) refl (passes test xs)
