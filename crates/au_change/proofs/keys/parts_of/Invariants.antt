use Rattle.std.proofs.Common.{◌≡◌, map, take}
use Rattle.au_change.specs.Inside as spec
use Rattle.au_change.proofs.keys.parts_of.Given as goal

abbrev pub invariant-loop-cell : goal.invariant-loop-cell
invariant-loop-cell l = l.parts.items ≡ map spec.part_of (take l.cell-index l.key)
