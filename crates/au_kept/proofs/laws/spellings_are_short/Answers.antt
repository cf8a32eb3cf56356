use Rattle.au_kept.proofs.Shortness.{short}
use Rattle.au_kept.proofs.laws.spellings_are_short.Goals as goal

pub returns : goal.returns
returns c change can = short change can
