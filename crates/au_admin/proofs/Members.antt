-- Tests of all elements of a list.
use Rattle.std.proofs.Common.{◌≡◌, Bool, true, false, not, cond, List, [], ◌∷◌, filter, refl}
use Rattle.std.specs.List.{list_all, list_any}
use Rattle.std.proofs.lemmas.Bool.{and_from, and_parts, not-false, or_parts}

kept_at : {X : Type 0} (test : X → Bool) (x : X) (ys : List X) (b : Bool) → test x ≡ true → list_all test ys ≡ true → list_all test (cond b (x ∷ ys) ys) ≡ true
kept_at test x ys true is all = and_from (test x) (list_all test ys) is all
kept_at test x ys false is all = all

-- those that are kept pass where all do
pub all_kept : {X : Type 0} (test keep : X → Bool) (xs : List X) → list_all test xs ≡ true → list_all test (filter keep xs) ≡ true
all_kept test keep [] all = refl
all_kept test keep (x ∷ xs) all =
    let parts = and_parts (test x) (list_all test xs) all in
    kept_at test x (filter keep xs) (keep x) parts.0 (all_kept test keep xs parts.1)

-- all pass where none fails
pub all_where_none_fails : {X : Type 0} (test : X → Bool) (xs : List X) → list_any (λ x. not (test x)) xs ≡ false → list_all test xs ≡ true
all_where_none_fails test [] none = refl
all_where_none_fails test (x ∷ xs) none =
    let parts = or_parts (not (test x)) (list_any (λ y. not (test y)) xs) none in
    and_from (test x) (list_all test xs) (not-false (test x) parts.0) (all_where_none_fails test xs parts.1)
