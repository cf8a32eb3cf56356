use Rattle.std.specs.Prelude.{All}
use mathlib.Core.List.{IsPrefix}
use Rattle.au_turn.specs.Pass.{IsPassOf, IsIdle, seen}
use Rattle.trials_turn.proofs.tests.workers.gather.Given as goal

abbrev pub invariant-loop-worker : goal.invariant-loop-worker
invariant-loop-worker l = IsPassOf l.turn l.pass × IsIdle l.pass × IsPrefix (seen l.initial.pass) (seen l.pass) × All (λ w. IsPassOf l.turn w.pass × IsIdle w.pass) l.workers.items

abbrev pub decreases-loop-worker : goal.decreases-loop-worker
decreases-loop-worker l = goal.left-loop-worker l
