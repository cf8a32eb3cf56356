use Rattle.au_turn.specs.Pass.{IsPassOf, IsIdle}
use Rattle.trials_turn.proofs.tests.one_pass_does_each_call.Given as goal

abbrev pub invariant-loop-by : goal.invariant-loop-by
invariant-loop-by g l = IsPassOf l.turn l.pass × IsIdle l.pass
