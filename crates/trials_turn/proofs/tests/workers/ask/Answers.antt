use Rattle.au_turn.specs.Pass.{seen}
use Rattle.trials_turn.proofs.PassSteps.{went_once}
use Rattle.trials_turn.proofs.tests.workers.ask.Goals as goal

pub give_back-requires-clause-value : goal.give_back-requires-clause-value
give_back-requires-clause-value g c = c.add-deed.ensures (seen c.take-counter.new.pass) c.take-counter.ensures.value

pub returns-clause-went : goal.returns-clause-went
returns-clause-went g c =
    let told = c.give_back.ensures.entries in
    went_once c.args.pass.now c.take-counter.new.pass c.give_back.new.pass told.0 c.take-counter.ensures.seen c.take-counter.ensures.mine told.2
