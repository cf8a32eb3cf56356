use Rattle.std.proofs.Common.{◌≡◌, map, take}
use Rattle.au_define.specs.Columns.{made_column}
use Rattle.au_define.proofs.columns.made_columns.Given as goal

abbrev pub invariant-loop-column : goal.invariant-loop-column
invariant-loop-column l = l.made ≡ map (made_column l.key) (take l.column-index l.columns)
