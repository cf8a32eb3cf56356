use Rattle.std.proofs.Common.{arith}
use Rattle.au_grants.proofs.Reached.{all_done, not_done, search_starts, searched, searching_on}
use Rattle.au_grants.proofs.searching.reach.Goals as goal

pub visit-count-requires-clause-search : goal.visit-count-requires-clause-search
visit-count-requires-clause-search c = search_starts _ _ _ _ (c.fill.ensures.after (λ y is. is)) c.requires.marks c.requires.queue

pub returns-then-done-count-clause-reach : goal.returns-then-done-count-clause-reach
returns-then-done-count-clause-reach c = searched _ _ _ _ _ _ _ c.loop-done.invariant (let is = c.if-done-count.true in omega (arith, is))

pub visit_granted-count-requires-clause-first : goal.visit_granted-count-requires-clause-first
visit_granted-count-requires-clause-first c = c.loop-done.invariant.search.queued _ (not_done _ _ _ _ _ _ _ c.loop-done.invariant c.if-done-count.false)

pub loop-done-preserved : goal.loop-done-preserved
loop-done-preserved c = searching_on _ _ _ _ _ _ _ _ _ _ c.loop-done.invariant c.if-done-count.false c.visit_granted-count.ensures.went_on c.visit_granted-count.ensures.seen

pub returns-clause-reach : goal.returns-clause-reach
returns-clause-reach c = searched _ _ _ _ _ _ _ c.loop-done.invariant (all_done _ _ _ _ _ _ _ c.loop-done.invariant (let end = c.loop-done-test.false in omega (arith, end)))
