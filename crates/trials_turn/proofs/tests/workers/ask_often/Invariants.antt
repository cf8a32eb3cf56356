use Rattle.au_turn.specs.Pass.{IsPassOf, IsIdle, WentOn}
use Rattle.trials_turn.proofs.tests.workers.ask_often.Given as goal

abbrev pub invariant-loop-number : goal.invariant-loop-number
invariant-loop-number g l = IsPassOf l.turn l.pass × IsIdle l.pass × WentOn l.initial.pass l.pass
