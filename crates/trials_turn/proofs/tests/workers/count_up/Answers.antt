use Rattle.std.proofs.Common.{[], ◌∷◌, refl, arith}
use Rattle.trials_turn.proofs.tests.workers.count_up.Goals as goal

pub returns-in-Err : goal.returns-in-Err
returns-in-Err g c = (record { added = c.args.counter.total; faults = c.args.counter.faults } ∷ [], ([], refl), rw c.in-Err.ensures.err (omega arith, omega arith))
