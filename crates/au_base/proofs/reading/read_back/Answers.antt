use Rattle.au_base.proofs.MomentBack.{back}
use Rattle.au_base.proofs.reading.read_back.Goals as goal

pub returns : goal.returns
returns c = back _ _ c.read_moment.result c.moment_text.ensures.told (rw c.as_slice.ensures at c.read_moment.ensures.cases)
