use Rattle.std.proofs.Common.{◌≡◌, drop}
use Rattle.std.specs.List.{zip}
use Rattle.au_base.specs.declared.cell.Cell.TheVariants.{Null}
use Rattle.au_modify.specs.Targets.{given_or}
use Rattle.au_insert.proofs.row.cell_for.Given as goal

abbrev pub invariant-loop-place : goal.invariant-loop-place
invariant-loop-place l = given_or Null (zip (drop l.place l.names) (drop l.place l.given)) l.column ≡ given_or Null (zip l.names l.given) l.column
