use Rattle.std.proofs.Common.{◌∙◌, ◌∷◌, [], ap, sym}
use Rattle.std.specs.List.{list_all}
use Rattle.std.proofs.lemmas.List.{take_all}
use Rattle.au_expr.specs.declared.placed.Placed.{Placed}
use Rattle.au_expr.specs.Placing.{value_at}
use Rattle.au_expr.specs.Values.{is_met}
use Rattle.au_query.specs.descent.Residuals.{residual_value}
use Rattle.au_query.specs.declared.residual.Residual.{Residual}
use Rattle.au_query.proofs.Residuals.{left_more}
use Rattle.au_query.proofs.counting.residuals_of.Goals as goal

pub loop-tree-preserved : goal.loop-tree-preserved
loop-tree-preserved c = λ session cells.
    left_more (λ (tree : Placed). is_met (value_at (cells ∷ []) session tree)) (λ (residual : Residual). is_met (residual_value residual cells))
    c.args.trees.now c.loop-tree.tree-index c.tree-item.result c.loop-tree.residuals.items _ _
    c.loop-tree-test.true c.tree-item.is c.in_ok-push-in-Some.ensures.items (ap is_met (c.in-Some.ensures session cells)) (c.loop-tree.invariant session cells)

pub returns : goal.returns
returns c = λ session cells.
    ap (list_all (λ (tree : Placed). is_met (value_at (cells ∷ []) session tree))) (sym (take_all c.loop-tree.tree-index c.args.trees.now c.loop-tree-test.false)) ∙ c.loop-tree.invariant session cells
