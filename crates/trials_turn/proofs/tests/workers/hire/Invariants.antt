use Rattle.std.specs.Prelude.{◌≡◌, All}
use Rattle.au_turn.specs.Pass.{IsPassOf, IsIdle, seen}
use Rattle.trials_turn.proofs.tests.workers.hire.Given as goal

abbrev pub invariant-loop-by : goal.invariant-loop-by
invariant-loop-by l = IsPassOf l.turn l.pass × IsIdle l.pass × (seen l.pass ≡ seen l.initial.pass) × All (λ w. IsPassOf l.turn w.pass × IsIdle w.pass) l.workers.items
