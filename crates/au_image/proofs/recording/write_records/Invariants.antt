use Rattle.std.proofs.Common.{[], take}
use Rattle.rec_codec.specs.Images.{Wrote}
use Rattle.au_image.proofs.recording.write_records.Given as goal

abbrev pub invariant-loop-entry : goal.invariant-loop-entry
invariant-loop-entry l = Wrote l.fn.writer l.writer [] (take l.entry-index l.records)
