use Rattle.rec_codec.proofs.Whole.{frame_front}
use Rattle.rec_codec.proofs.frames.one_front.Goals as goal

pub returns : goal.returns
returns c = frame_front c.parts_are_exact.ensures
