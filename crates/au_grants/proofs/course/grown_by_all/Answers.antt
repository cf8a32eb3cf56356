use Rattle.au_grants.proofs.Applied.{one_more}
use Rattle.au_grants.proofs.course.grown_by_all.Goals as goal

pub grown_by-requires : goal.grown_by-requires
grown_by-requires c = c.loop-change.invariant.1

pub loop-change-preserved : goal.loop-change-preserved
loop-change-preserved c = (one_more _ _ _ _ _ _ c.loop-change-test.true c.change-item.is c.loop-change.invariant.0 c.in_ok-after.ensures.after, c.in_ok-after.ensures.ready)
