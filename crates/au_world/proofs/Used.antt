-- What a filter keeps of a list, its first element apart.
use Rattle.std.proofs.Common.{◌≡◌, Bool, true, false, cond, List, [], ◌∷◌, ◌++◌, filter, refl}

first_apart : {X : Type 0} (b : Bool) (x : X) (rest : List X) → cond b (x ∷ rest) rest ≡ cond b (x ∷ []) [] ++ rest
first_apart true x rest = refl
first_apart false x rest = refl

pub filter_cons : {X : Type 0} (test : X → Bool) (x : X) (xs : List X) → filter test (x ∷ xs) ≡ filter test (x ∷ []) ++ filter test xs
filter_cons test x xs = first_apart (test x) x (filter test xs)
