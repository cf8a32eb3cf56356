use Rattle.std.proofs.Common.{drop}
use Rattle.std.specs.List.{AllByRecursion}
use Rattle.au_world.specs.Sound.{IsSoundRecord}
use Rattle.au_world.proofs.soundness.are_sound_records.Given as goal

abbrev pub invariant-loop-entry : goal.invariant-loop-entry
invariant-loop-entry l = AllByRecursion IsSoundRecord (drop l.entry-index l.records) → AllByRecursion IsSoundRecord l.records
