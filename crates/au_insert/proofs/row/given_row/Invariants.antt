use Rattle.std.proofs.Common.{◌≡◌, ◌++◌, drop}
use Rattle.au_insert.specs.Inside.{given_row}
use Rattle.au_insert.proofs.row.given_row.Given as goal

abbrev pub invariant-loop-column : goal.invariant-loop-column
invariant-loop-column l = l.cells ++ given_row (drop l.column-index l.columns) l.names l.given ≡ given_row l.columns l.names l.given
