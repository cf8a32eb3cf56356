-- Facts of all elements of lists.
use Rattle.std.proofs.Common.{Bool, true, false, cond, List, [], ◌∷◌, ◌++◌, map}
use Rattle.std.specs.List.{AllByRecursion, filter}
use Rattle.std.specs.declared.cmp.Ordering.{Ordering}
use Rattle.au_base.specs.Order.{placed}
use Rattle.au_entries.specs.Changing.{put_in_order}

-- what holds of all of two lists holds of all of both, one behind the other, and the other way round
pub all_joined : {X : Type 0} (P : X → Type 0) (xs ys : List X) → AllByRecursion P xs → AllByRecursion P ys → AllByRecursion P (xs ++ ys)
all_joined P [] ys one two = two
all_joined P (x ∷ xs) ys one two = (one.0, all_joined P xs ys one.1 two)

pub all_front : {X : Type 0} (P : X → Type 0) (xs ys : List X) → AllByRecursion P (xs ++ ys) → AllByRecursion P xs
all_front P [] ys all = tt
all_front P (x ∷ xs) ys all = (all.0, all_front P xs ys all.1)

pub all_behind : {X : Type 0} (P : X → Type 0) (xs ys : List X) → AllByRecursion P (xs ++ ys) → AllByRecursion P ys
all_behind P [] ys all = all
all_behind P (x ∷ xs) ys all = all_behind P xs ys all.1

all_kept_at : {X : Type 0} (P : X → Type 0) (x : X) (ys : List X) (b : Bool) → P x → AllByRecursion P ys → AllByRecursion P (cond b (x ∷ ys) ys)
all_kept_at P x ys true here more = (here, more)
all_kept_at P x ys false here more = more

-- what holds of all holds of those that a filter keeps
pub all_kept : {X : Type 0} (P : X → Type 0) (test : X → Bool) (xs : List X) → AllByRecursion P xs → AllByRecursion P (filter test xs)
all_kept P test [] all = tt
all_kept P test (x ∷ xs) all = all_kept_at P x (filter test xs) (test x) all.0 (all_kept P test xs all.1)

-- what holds of an entry and of all others holds of all with it
pub all_put : {X : Type 0} (P : X → Type 0) (order : X → Ordering) (entry : X) (xs : List X) → P entry → AllByRecursion P xs → AllByRecursion P (put_in_order order entry xs)
all_put P order entry xs here all = all_joined P _ _ (all_kept P _ xs all) (here, all_kept P _ xs all)

pub all_placed : {X : Type 0} (P : X → Type 0) (before : X → X → Bool) (entry : X) (xs : List X) → P entry → AllByRecursion P xs → AllByRecursion P (placed before entry xs)
all_placed P before entry xs here all = all_joined P _ _ (all_kept P _ xs all) (here, all_kept P _ xs all)

-- what holds of what is made of each, from what holds of each
pub all_made : {X Y : Type 0} (P : X → Type 0) (Q : Y → Type 0) (f : X → Y) → ((x : X) → P x → Q (f x)) → (xs : List X) → AllByRecursion P xs → AllByRecursion Q (map f xs)
all_made P Q f makes [] all = tt
all_made P Q f makes (x ∷ xs) all = (makes x all.0, all_made P Q f makes xs all.1)

-- what holds of all that is made holds of what is made of each, and the other way round
pub all_mapped : {X Y : Type 0} (P : Y → Type 0) (f : X → Y) (xs : List X) → AllByRecursion (λ x. P (f x)) xs → AllByRecursion P (map f xs)
all_mapped P f [] all = tt
all_mapped P f (x ∷ xs) all = (all.0, all_mapped P f xs all.1)

pub all_unmapped : {X Y : Type 0} (P : Y → Type 0) (f : X → Y) (xs : List X) → AllByRecursion P (map f xs) → AllByRecursion (λ x. P (f x)) xs
all_unmapped P f [] all = tt
all_unmapped P f (x ∷ xs) all = (all.0, all_unmapped P f xs all.1)
