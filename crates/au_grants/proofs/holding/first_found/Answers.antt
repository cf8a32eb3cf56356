use Rattle.std.proofs.Common.{arith}
use Rattle.au_grants.proofs.Holders.{queued_all, queued_so_far}
use Rattle.au_grants.proofs.holding.first_found.Goals as goal

pub loop-k-preserved : goal.loop-k-preserved
loop-k-preserved c = queued_so_far _ c.args.queue.now c.args.rights.now _ _ _ _ c.loop-k.invariant c.first_behind-first.ensures

pub returns : goal.returns
returns c =
    queued_all _ _ c.args.queue.now c.args.rights.now _ _ _ _ c.requires.reach (let end = c.loop-k-test.false in omega (arith, end)) (let near = c.loop-k.auto.k-end in omega (arith, near)) c.loop-k.invariant
