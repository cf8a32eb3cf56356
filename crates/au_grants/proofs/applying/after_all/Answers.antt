use Rattle.std.proofs.Common.{sym, subst}
use Rattle.au_grants.specs.Order.{AreInOrder}
use Rattle.au_grants.specs.Rights.{Grants}
use Rattle.au_grants.proofs.Applied.{one_more}
use Rattle.au_grants.proofs.Ordered.{applied_in_order}
use Rattle.au_grants.proofs.applying.after_all.Goals as goal

pub after_change-requires : goal.after_change-requires
after_change-requires c = c.loop-change.invariant.1

pub loop-change-preserved : goal.loop-change-preserved
loop-change-preserved c = (
  one_more _ _ _ _ _ _ c.loop-change-test.true c.change-item.is c.loop-change.invariant.0 c.in_ok-after.ensures,
  subst (λ (grants : Grants). AreInOrder grants) (sym c.in_ok-after.ensures) (applied_in_order _ c.change-item.result c.loop-change.invariant.1),
)
