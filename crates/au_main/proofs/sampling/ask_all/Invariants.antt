use Rattle.std.proofs.Common.{◌+◌, ◌-◌, ◌/◌}
use Rattle.au_main.specs.Means.{means_of}
use Rattle.au_main.proofs.Sampled.{SoFar}
use Rattle.au_main.proofs.sampling.ask_all.Given as goal

abbrev pub invariant-loop-ask : goal.invariant-loop-ask
invariant-loop-ask g l = SoFar (means_of g.D.Disk.told g.D.Disk.meaning g.D.Disk.faults g.C.Clock.ticking) l.seed l.rows l.fn.store l.store l.place l.high

abbrev pub decreases-loop-ask : goal.decreases-loop-ask
decreases-loop-ask g l = (l.rows + l.rows / 100 + 8) - l.place
