use Rattle.std.proofs.Common.{[], map, take}
use Rattle.rec_codec.specs.Images.{Wrote}
use Rattle.au_image.proofs.imaging.write_group.Given as goal

abbrev pub invariant-loop-entry : goal.invariant-loop-entry
invariant-loop-entry g l = Wrote l.fn.writer l.writer (map g.T.Entry.as_change (take l.entry-index l.entries)) []
