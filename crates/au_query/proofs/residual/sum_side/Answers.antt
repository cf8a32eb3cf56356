use Rattle.std.proofs.Common.{◌++◌, ◌∷◌, []}
use Rattle.au_query.specs.descent.Residuals.{side_value}
use Rattle.au_query.proofs.Residuals.{summand_added}
use Rattle.au_query.proofs.residual.sum_side.Goals as goal

pub loop-minus-preserved : goal.loop-minus-preserved
loop-minus-preserved c = λ session cells.
    summand_added (c.args.row.now ++ cells ∷ []) session (side_value c.loop-minus.side cells) _ c.args.parts.now c.loop-minus.minus-index c.loop-minus-item.result _
    c.loop-minus-test.true c.loop-minus-item.is (c.in-Some.ensures session cells) (c.loop-minus.invariant session cells)
