-- Lists: their lengths, and what holds of all their entries.
use Rattle.std.proofs.Common.{◌≡◌, ◌≤◌, suc, Bool, true, false, cond, List, [], ◌∷◌, ◌++◌, length, map, filter, refl, ap, arith}
use Rattle.std.specs.Prelude.{⊤}
use Rattle.std.specs.List.{AllByRecursion}

fewer_at : {X : Type 0} (test : X → Bool) (x : X) (xs : List X) (b : Bool) → length (filter test xs) ≤ length xs → length (cond b (x ∷ filter test xs) (filter test xs)) ≤ length (x ∷ xs)
fewer_at test x xs true few = omega (arith, few)
fewer_at test x xs false few = omega (arith, few)

pub filter_fewer : {X : Type 0} (test : X → Bool) (xs : List X) → length (filter test xs) ≤ length xs
filter_fewer test [] = omega arith
filter_fewer test (x ∷ xs) = fewer_at test x xs (test x) (filter_fewer test xs)

pub mapped_long : {A B : Type 0} (f : A → B) (xs : List A) → length (map f xs) ≡ length xs
mapped_long f [] = refl
mapped_long f (x ∷ xs) = ap (λ n. suc n) (mapped_long f xs)

filtered_at : {X : Type 0} (P : X → Type 0) (x : X) (xs : List X) (b : Bool) → P x → AllByRecursion P xs → AllByRecursion P (cond b (x ∷ xs) xs)
filtered_at P x xs true first rest = (first, rest)
filtered_at P x xs false first rest = rest

pub all_filtered : {X : Type 0} (P : X → Type 0) (test : X → Bool) (xs : List X) → AllByRecursion P xs → AllByRecursion P (filter test xs)
all_filtered P test [] all = tt
all_filtered P test (x ∷ xs) all = filtered_at P x (filter test xs) (test x) all.0 (all_filtered P test xs all.1)

pub all_behind : {X : Type 0} (P : X → Type 0) (xs ys : List X) → AllByRecursion P (xs ++ ys) → AllByRecursion P ys
all_behind P [] ys all = all
all_behind P (x ∷ xs) ys all = all_behind P xs ys all.1

pub all_before : {X : Type 0} (P : X → Type 0) (xs ys : List X) → AllByRecursion P (xs ++ ys) → AllByRecursion P xs
all_before P [] ys all = tt
all_before P (x ∷ xs) ys all = (all.0, all_before P xs ys all.1)

pub all_joined : {X : Type 0} (P : X → Type 0) (xs ys : List X) → AllByRecursion P xs → AllByRecursion P ys → AllByRecursion P (xs ++ ys)
all_joined P [] ys left right = right
all_joined P (x ∷ xs) ys left right = (left.0, all_joined P xs ys left.1 right)

pub all_mapped : {A B : Type 0} (P : B → Type 0) (f : A → B) → ((x : A) → P (f x)) → (xs : List A) → AllByRecursion P (map f xs)
all_mapped P f holds [] = tt
all_mapped P f holds (x ∷ xs) = (holds x, all_mapped P f holds xs)

pub all_any : {X : Type 0} (xs : List X) → AllByRecursion (λ (x : X). ⊤) xs
all_any [] = tt
all_any (x ∷ xs) = (tt, all_any xs)

pub all_under : {A B : Type 0} (P : B → Type 0) (f : A → B) (xs : List A) → AllByRecursion (λ (x : A). P (f x)) xs → AllByRecursion P (map f xs)
all_under P f [] all = tt
all_under P f (x ∷ xs) all = (all.0, all_under P f xs all.1)
