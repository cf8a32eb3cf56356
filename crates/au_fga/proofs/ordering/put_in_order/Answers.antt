use Rattle.std.proofs.Common.{rules}
use Rattle.std.proofs.lemmas.Fn.{always_returns_same}
use Rattle.au_audit.specs.Firing.{record_before}
use Rattle.au_fga.proofs.Sorted.{order_is_weak, sorted_is}
use Rattle.au_fga.proofs.ordering.put_in_order.Goals as goal

pub returns : goal.returns
returns c =
    sorted_is c.args.names.now.items c.sort_unstable_by.new.self.items c.requires.order c.sort_unstable_by.ensures.permutation
    (c.sort_unstable_by.ensures.sorted record_before order_is_weak (always_returns_same _ _ _ (λ a r f k. search rules)))
