use Rattle.au_turn.specs.Pass.{seen}
use Rattle.trials_turn.proofs.tests.waiter.hold.Goals as goal

pub give_back-requires-clause-value : goal.give_back-requires-clause-value
give_back-requires-clause-value g c = c.add-deed.ensures (seen c.take-counter.new.pass) c.take-counter.ensures.value
