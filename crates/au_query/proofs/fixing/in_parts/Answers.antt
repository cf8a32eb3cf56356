use Rattle.std.proofs.Common.{◌∷◌, [], map}
use Rattle.au_expr.specs.Resolving.{placed}
use Rattle.au_query.proofs.Equalities.{fixed_by_more, part_at_hand}
use Rattle.au_query.proofs.fixing.in_parts.Goals as goal

pub returns-in-Some : goal.returns-in-Some
returns-in-Some c =
    let sought = c.args.sought.now in
    let place = placed sought.ranges.now in
    let fixed = rw c.in-Some.is at c.in_ok-cell.ensures in
    fixed_by_more c.args.session.now (place c.part-item.result ∷ []) (map place c.args.parts.now) sought.range sought.column c.in-Some.cell
    (λ test all. (part_at_hand place c.args.parts.now c.loop-part.part-index c.part-item.result c.loop-part-test.true c.part-item.is test (c.loop-part.invariant test all)).0) fixed

pub loop-part-preserved : goal.loop-part-preserved
loop-part-preserved c = λ test all.
    (part_at_hand (placed c.args.sought.now.ranges.now) c.args.parts.now c.loop-part.part-index c.part-item.result c.loop-part-test.true c.part-item.is test (c.loop-part.invariant test all)).1
