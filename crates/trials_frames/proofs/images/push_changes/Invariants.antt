use Rattle.std.proofs.Common.{[], take}
use Rattle.rec_codec.specs.Images.{Wrote}
use Rattle.trials_frames.proofs.images.push_changes.Given as goal

abbrev pub invariant-loop-change : goal.invariant-loop-change
invariant-loop-change l = Wrote l.fn.writer l.writer (take l.change-index l.changes) []
