use Rattle.std.proofs.Common.{rules}
use Rattle.trials_turn.proofs.PassSteps.{went_none, went_on}
use Rattle.trials_turn.proofs.tests.workers.ask_often.Goals as goal

pub loop-number-init : goal.loop-number-init
loop-number-init g c = (search rules, search rules, went_none _)

pub loop-number-preserved : goal.loop-number-preserved
loop-number-preserved g c = (search rules, search rules, went_on _ _ _ c.loop-number.invariant.2 c.ask.ensures.went)
