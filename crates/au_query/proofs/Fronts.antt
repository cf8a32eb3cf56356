-- Fronts of combinations, which grow and shrink at their end.
use Rattle.std.proofs.Common.{◌≡◌, ◌∙◌, ap, ◌-◌, List, [], ◌∷◌, ◌++◌, length, take, arith}
use Rattle.std.proofs.lemmas.List.{length_push, take-append-le, take_all}

pub popped : {X : Type 0} (xs : List X) (x : X) → take (length (xs ++ x ∷ []) - 1) (xs ++ x ∷ []) ≡ xs
popped xs x =
    let n : length (xs ++ x ∷ []) - 1 ≡ length xs = omega (arith, length_push xs x) in
    ap (λ k. take k (xs ++ x ∷ [])) n ∙ take-append-le (length xs) xs (x ∷ []) (omega arith) ∙ take_all (length xs) xs (omega arith)
