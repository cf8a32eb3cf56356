use Rattle.std.proofs.Common.{[], take}
use Rattle.std.specs.List.{filter}
use Rattle.au_entries.specs.Frames.{is_from}
use Rattle.rec_codec.specs.Images.{Wrote}
use Rattle.au_image.proofs.recording.write_from.Given as goal

abbrev pub invariant-loop-entry : goal.invariant-loop-entry
invariant-loop-entry l = Wrote l.fn.writer l.writer [] (filter (is_from l.moment) (take l.entry-index l.trail))
