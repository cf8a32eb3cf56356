-- A list of copies is the list.
use Rattle.std.proofs.Common.{◌≡◌, List, [], ◌∷◌, refl}
use Rattle.std.specs.List.{AllZip}
use Rattle.au_base.specs.declared.cell.Cell.{Cell}

pub copied : (cells copies : List Cell) → AllZip (λ (cell copy : Cell). copy ≡ cell) cells copies → copies ≡ cells
copied [] [] all = refl
copied [] (copy ∷ copies) all = absurd all
copied (cell ∷ cells) [] all = absurd all
copied (cell ∷ cells) (copy ∷ copies) all = λ i. all.0 i ∷ copied cells copies all.1 i
