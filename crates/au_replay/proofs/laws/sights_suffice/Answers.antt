use Rattle.au_replay.proofs.SightLaws as laws
use Rattle.au_replay.proofs.laws.sights_suffice.Goals as goal

pub returns : goal.returns
returns c = record { goes = laws.goes; ordered = laws.ordered; sorted = laws.sorted }
