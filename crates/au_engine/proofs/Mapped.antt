-- A list of which one element more is mapped in its place.
use Rattle.std.proofs.Common.{◌≡◌, ℕ, suc, zero, ◌+◌, ◌<◌, List, [], ◌∷◌, ◌++◌, map, take, drop, set, get_or, length, refl, ap, ◌∙◌, add-one, arith}

one_more : {X : Type 0} (f : X → X) (xs : List X) (i : ℕ) (read : X) → i < length xs
    → set (map f (take i xs) ++ drop i xs) i (f (get_or (map f (take i xs) ++ drop i xs) i read)) ≡ map f (take (suc i) xs) ++ drop (suc i) xs
one_more f [] i read within = absurd (omega arith)
one_more f (x ∷ xs) zero read within = refl
one_more f (x ∷ xs) (suc i) read within = ap (λ rest. f x ∷ rest) (one_more f xs i read (omega arith))

pub mapped_more : {X : Type 0} (f : X → X) (xs now : List X) (i : ℕ) (read new : X) → i < length xs → now ≡ map f (take i xs) ++ drop i xs → new ≡ f (get_or now i read)
    → set now i new ≡ map f (take (i + 1) xs) ++ drop (i + 1) xs
mapped_more f xs now i read new within is made =
    ap (λ v. set now i v) made ∙ (ap (λ list. set list i (f (get_or list i read))) is ∙ rw add-one (one_more f xs i read within))
