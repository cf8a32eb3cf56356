use Rattle.std.specs.Prelude.{IsTrue}
use Rattle.au_base.specs.Order.{is_in_order, name_before}
use Rattle.trials_base.proofs.order.shuffled.Given as goal

abbrev pub invariant-loop-turn : goal.invariant-loop-turn
invariant-loop-turn l = IsTrue (is_in_order name_before l.names)
