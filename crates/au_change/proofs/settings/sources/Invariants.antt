use Rattle.std.proofs.Common.{◌≡◌, map, take}
use Rattle.au_change.specs.Inside.{source_of}
use Rattle.au_change.proofs.settings.sources.Given as goal

abbrev pub invariant-loop-column : goal.invariant-loop-column
invariant-loop-column l = l.sources.items ≡ map (source_of l.assignments) (take l.column-index l.columns)
