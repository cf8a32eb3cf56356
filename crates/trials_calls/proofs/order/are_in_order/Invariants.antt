use Rattle.std.proofs.Common.{◌≡◌, true, drop}
use Rattle.std.specs.Option.{option_copied}
use Rattle.au_base.specs.Order.{is_in_order, name_before}
use Rattle.trials_calls.proofs.Rising.{rise_behind}
use Rattle.trials_calls.proofs.order.are_in_order.Given as goal

-- where the rest rises behind the last one, all stand in order
abbrev pub invariant-loop-name : goal.invariant-loop-name
invariant-loop-name l = rise_behind (option_copied l.last) (drop l.name-index l.names) ≡ true → is_in_order name_before l.names ≡ true
