use Rattle.std.proofs.Common.{◌≡◌, drop}
use Rattle.au_insert.specs.Inside.{fits}
use Rattle.au_insert.proofs.row.row_code.Given as goal

abbrev pub invariant-loop-place : goal.invariant-loop-place
invariant-loop-place l = fits (drop l.place l.columns) (drop l.place l.cells) ≡ fits l.columns l.cells
