use Rattle.std.proofs.Common.{◌≡◌, take}
use Rattle.au_modify.specs.Columns.{names_of}
use Rattle.au_change.proofs.deleting.names_of.Given as goal

abbrev pub invariant-loop-column : goal.invariant-loop-column
invariant-loop-column l = l.names ≡ names_of (take l.column-index l.columns)
