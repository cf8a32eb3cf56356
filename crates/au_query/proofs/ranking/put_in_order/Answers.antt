use Rattle.std.proofs.Common.{rules}
use Rattle.std.proofs.lemmas.Fn.{always_returns_same}
use Rattle.au_query.specs.Ordering.{comes_before}
use Rattle.au_query.proofs.Totals.{before_is_weak}
use Rattle.au_query.proofs.ranking.put_in_order.Goals as goal

pub returns : goal.returns
returns c =
    let before = comes_before c.args.keys.now in
    record {
      same = c.in_ok-sort_by.ensures.permutation;
      rises = c.in_ok-sort_by.ensures.sorted before (before_is_weak c.args.keys.now) (always_returns_same _ _ _ (λ a r f k. search rules));
      stable = c.in_ok-sort_by.ensures.stable before (before_is_weak c.args.keys.now) (always_returns_same _ _ _ (λ a r f k. search rules));
    }
