-- Copies that are the same element by element are the same list.
use Rattle.std.proofs.Common.{◌≡◌, ◌∷◌, [], List, refl, ap₂}
use Rattle.std.specs.List.{AllZip}

pub list-same : {X : Type 0} (xs copy : List X) → AllZip (λ x y. y ≡ x) xs copy → copy ≡ xs
list-same [] [] all = refl
list-same [] (y ∷ copy) all = absurd all
list-same (x ∷ xs) [] all = absurd all
list-same (x ∷ xs) (y ∷ copy) all = ap₂ (λ head tail. head ∷ tail) all.0 (list-same xs copy all.1)
