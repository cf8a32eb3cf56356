-- Facts of all entries of a list.
use Rattle.std.proofs.Common.{◌≡◌, Bool, true, false, cond, List, [], ◌∷◌, ◌++◌, map, refl}
use Rattle.std.specs.List.{AllByRecursion, filter}
use Rattle.std.specs.declared.cmp.Ordering.{Ordering}
use Rattle.au_entries.specs.Changing.{put_in_order}

pub all_joined : {X : Type 0} (P : X → Type 0) (xs ys : List X) → AllByRecursion P xs → AllByRecursion P ys → AllByRecursion P (xs ++ ys)
all_joined P [] ys one two = two
all_joined P (x ∷ xs) ys one two = (one.0, all_joined P xs ys one.1 two)

all_kept_at : {X : Type 0} (P : X → Type 0) (x : X) (ys : List X) (b : Bool) → P x → AllByRecursion P ys → AllByRecursion P (cond b (x ∷ ys) ys)
all_kept_at P x ys true here more = (here, more)
all_kept_at P x ys false here more = more

-- what holds of all holds of those that a filter keeps
pub all_kept : {X : Type 0} (P : X → Type 0) (test : X → Bool) (xs : List X) → AllByRecursion P xs → AllByRecursion P (filter test xs)
all_kept P test [] all = tt
all_kept P test (x ∷ xs) all = all_kept_at P x (filter test xs) (test x) all.0 (all_kept P test xs all.1)

pub all_weaker : {X : Type 0} (P Q : X → Type 0) → ((x : X) → P x → Q x) → (xs : List X) → AllByRecursion P xs → AllByRecursion Q xs
all_weaker P Q weaker [] all = tt
all_weaker P Q weaker (x ∷ xs) all = (weaker x all.0, all_weaker P Q weaker xs all.1)

-- what holds of an entry and of all others holds of all with it
pub all_put : {X : Type 0} (P : X → Type 0) (order : X → Ordering) (entry : X) (xs : List X) → P entry → AllByRecursion P xs → AllByRecursion P (put_in_order order entry xs)
all_put P order entry xs here all = all_joined P _ _ (all_kept P _ xs all) (here, all_kept P _ xs all)

passes_at : {X : Type 0} (test : X → Bool) (x : X) (ys : List X) (b : Bool) → test x ≡ b → AllByRecursion (λ y. test y ≡ true) ys → AllByRecursion (λ y. test y ≡ true) (cond b (x ∷ ys) ys)
passes_at test x ys true is more = (is, more)
passes_at test x ys false is more = more

-- what a filter keeps passes its test
pub passes : {X : Type 0} (test : X → Bool) (xs : List X) → AllByRecursion (λ x. test x ≡ true) (filter test xs)
passes test [] = tt
passes test (x ∷ xs) = passes_at test x (filter test xs) (test x) refl (passes test xs)

-- what holds of what is made of each holds of all that is made
pub mapped : {X Y : Type 0} (P : Y → Type 0) (f : X → Y) (xs : List X) → AllByRecursion (λ x. P (f x)) xs → AllByRecursion P (map f xs)
mapped P f [] all = tt
mapped P f (x ∷ xs) all = (all.0, mapped P f xs all.1)

pub both : {X : Type 0} (P Q : X → Type 0) (xs : List X) → AllByRecursion P xs → AllByRecursion Q xs → AllByRecursion (λ x. P x × Q x) xs
both P Q [] one two = tt
both P Q (x ∷ xs) one two = ((one.0, two.0), both P Q xs one.1 two.1)
