use Rattle.au_kept.proofs.ShortFrames.{frame_short}
use Rattle.au_kept.proofs.keeping.Keeping.replay.Goals as goal

pub replay_in_place-requires-clause-short : goal.replay_in_place-requires-clause-short
replay_in_place-requires-clause-short c = frame_short c.args.frame c.requires.spelled
