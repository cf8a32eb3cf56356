use Rattle.std.proofs.Common.{[], map, take}
use Rattle.rec_codec.specs.Images.{Wrote}
use Rattle.au_image.specs.descent.Rows.{lent_change}
use Rattle.au_image.proofs.rows.write_view.Given as goal

abbrev pub invariant-loop-row : goal.invariant-loop-row
invariant-loop-row l = Wrote l.fn.writer l.writer (map (lent_change l.table) (take l.row-index l.rows)) []
