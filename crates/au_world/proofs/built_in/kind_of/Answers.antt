use Rattle.au_base.specs.BuiltIn.{dual, trail}
use Rattle.au_world.proofs.TableKinds.{created_kind, dual_kind, not_both, trail_kind}
use Rattle.au_world.proofs.built_in.kind_of.Goals as goal

pub returns-then-is_dual : goal.returns-then-is_dual
returns-then-is_dual c =
    let table = c.args.table.now in
    dual_kind table ((c.same_is_equal.ensures.table table dual).1 (c.is_dual.ensures.0 c.if-is_dual.true))

pub returns-then-is_trail : goal.returns-then-is_trail
returns-then-is_trail c =
    let table = c.args.table.now in
    trail_kind table
    (λ same. not_both _ c.if-is_dual.false (c.is_dual.ensures.1 ((c.same_is_equal.ensures.table table dual).0 same)))
    ((c.same_is_equal.ensures.table table trail).1 (c.is_trail.ensures.0 c.if-is_trail.true))

pub returns : goal.returns
returns c =
    let table = c.args.table.now in
    created_kind table
    (λ same. not_both _ c.if-is_dual.false (c.is_dual.ensures.1 ((c.same_is_equal.ensures.table table dual).0 same)))
    (λ same. not_both _ c.if-is_trail.false (c.is_trail.ensures.1 ((c.same_is_equal.ensures.table table trail).0 same)))
