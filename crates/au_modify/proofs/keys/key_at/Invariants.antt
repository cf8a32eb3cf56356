use Rattle.std.proofs.Common.{◌≡◌, ◌++◌, ℕ, drop, List}
use Rattle.std.specs.Prelude.{Some}
use Rattle.std.specs.List.{AllZip, slice_get}
use Rattle.au_base.specs.declared.cell.Cell.{Cell}
use Rattle.au_modify.proofs.keys.key_at.Given as goal

abbrev pub invariant-loop-place : goal.invariant-loop-place
invariant-loop-place l =
    (rest : List Cell)
    → AllZip (λ (place : ℕ) (c : Cell). slice_get l.cells place ≡ Some c) (drop l.place-index l.places) rest
    → AllZip (λ (place : ℕ) (c : Cell). slice_get l.cells place ≡ Some c) l.places (l.key.items ++ rest)
