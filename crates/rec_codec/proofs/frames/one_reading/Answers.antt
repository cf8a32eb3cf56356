use Rattle.rec_codec.proofs.Whole.{frame_one}
use Rattle.rec_codec.proofs.frames.one_reading.Goals as goal

pub returns : goal.returns
returns c = frame_one c.parts_are_exact.ensures
