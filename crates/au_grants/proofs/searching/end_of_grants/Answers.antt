use Rattle.std.proofs.Common.{arith}
use Rattle.au_grants.proofs.Reached.{ends_at, told_apart}
use Rattle.au_grants.proofs.searching.end_of_grants.Goals as goal

pub returns-then-ne : goal.returns-then-ne
returns-then-ne c =
    ends_at _ _ _ c.requires.order (let from = c.loop-at.auto.at in omega (arith, from)) c.loop-at-test.true c.loop-at.invariant (told_apart _ _ _ _ _ c.ne.ensures c.if-ne.true c.grantee_of.ensures c.grantee_of-grantee.ensures)
