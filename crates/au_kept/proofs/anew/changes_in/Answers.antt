use Rattle.au_image.specs.Image.{image_of}
use Rattle.au_kept.proofs.Rebuilt.{changes_back, read_back}
use Rattle.au_kept.proofs.anew.changes_in.Goals as goal

pub returns : goal.returns
returns c = λ kept can is.
    changes_back kept c.in_ok-frame.frame c.image_changes_in.result
    (read_back c.one_reading.ensures c.body_of.result.now kept (c.body_of.ensures (image_of kept) is) can c.in_ok-frame.frame c.in_ok-frame.ensures) c.image_changes_in.ensures
