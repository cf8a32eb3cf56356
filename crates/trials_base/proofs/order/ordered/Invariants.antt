use Rattle.std.specs.Prelude.{IsTrue}
use Rattle.au_base.specs.Order.{is_in_order, name_before}
use Rattle.trials_base.proofs.order.ordered.Given as goal

abbrev pub invariant-loop-text : goal.invariant-loop-text
invariant-loop-text l = IsTrue (is_in_order name_before l.names)
