-- A list of copies is the list.
use Rattle.std.proofs.Common.{◌≡◌, List, [], ◌∷◌, refl}
use Rattle.std.specs.List.{AllZip}
use Rattle.au_base.specs.declared.table.Column.{Column}

pub copied : (columns copies : List Column) → AllZip (λ (column copy : Column). copy ≡ column) columns copies → copies ≡ columns
copied [] [] all = refl
copied [] (copy ∷ copies) all = absurd all
copied (column ∷ columns) [] all = absurd all
copied (column ∷ columns) (copy ∷ copies) all = λ i. all.0 i ∷ copied columns copies all.1 i
