use Rattle.std.proofs.Common.{[], take}
use Rattle.rec_codec.specs.Images.{Wrote}
use Rattle.trials_frames.proofs.images.push_records.Given as goal

abbrev pub invariant-loop-entry : goal.invariant-loop-entry
invariant-loop-entry l = Wrote l.fn.writer l.writer [] (take l.entry-index l.records)
