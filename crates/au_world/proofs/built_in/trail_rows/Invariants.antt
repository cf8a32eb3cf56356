use Rattle.std.proofs.Common.{◌≡◌, ◌++◌, drop, map}
use Rattle.std.specs.List.{AllByRecursion}
use Rattle.au_audit.specs.TrailRows.{as_row}
use Rattle.au_base.specs.Cells.{IsSoundCell}
use Rattle.au_world.specs.Sound.{IsSoundRecord}
use Rattle.au_world.proofs.built_in.trail_rows.Given as goal

abbrev pub invariant-loop-entry : goal.invariant-loop-entry
invariant-loop-entry l =
    (l.rows ++ map as_row (drop l.entry-index l.records) ≡ map as_row l.records)
    × AllByRecursion (AllByRecursion IsSoundCell) l.rows
    × AllByRecursion IsSoundRecord (drop l.entry-index l.records)
