use Rattle.std.proofs.Common.{◌<◌, length, refl, below_more, arith}
use Rattle.au_replay.proofs.Shapes.{other_at, same_at}
use Rattle.au_replay.proofs.shape.is_named_before.Goals as goal

pub returns-then-eq : goal.returns-then-eq
returns-then-eq c =
    let inside : c.loop-i.i < length c.args.columns.now = omega (arith, c.loop-i-test.true, c.requires.within) in
    (λ is. (c.loop-i.i, c.loop-i-test.true, same_at c.args.columns.now _ _ c.index-columns-i.result c.index-columns-at.result _ inside c.requires.within c.eq.ensures c.if-eq.true), λ has. refl)

pub loop-i-preserved : goal.loop-i-preserved
loop-i-preserved c =
    let inside : c.loop-i.i < length c.args.columns.now = omega (arith, c.loop-i-test.true, c.requires.within) in
    below_more _ _ c.loop-i.invariant (other_at c.args.columns.now _ _ c.index-columns-i.result c.index-columns-at.result _ inside c.requires.within c.eq.ensures c.if-eq.false)
