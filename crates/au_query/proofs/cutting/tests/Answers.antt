use Rattle.std.proofs.Common.{◌∙◌, ◌∷◌, [], ap, subst}
use Rattle.std.specs.List.{list_all}
use Rattle.std.proofs.lemmas.List.{take_all}
use Rattle.au_expr.specs.declared.placed.Placed.{Placed}
use Rattle.au_expr.specs.Placing.{value_at}
use Rattle.au_expr.specs.Values.{is_met}
use Rattle.au_query.specs.descent.Inside.{AreMetTogether, trees_in_tests}
use Rattle.au_query.proofs.Cuts.{one_parted}
use Rattle.au_query.proofs.cutting.tests.Goals as goal

pub loop-condition-preserved : goal.loop-condition-preserved
loop-condition-preserved c =
    let together = subst (λ (tree : Placed). AreMetTogether c.parts_of.result.now (tree ∷ [])) c.tree.ensures c.parts_of.ensures in (
      one_parted (trees_in_tests c.loop-condition.tests.items) c.parts_of.result.now (trees_in_tests c.push_each.new.tests.items) c.args.conditions.now
          c.loop-condition.condition-index c.condition-item.result c.loop-condition-test.true c.condition-item.is c.in_ok-push_each.ensures.trees together
          c.loop-condition.invariant.0,
      c.in_ok-push_each.ensures.reach,
    )

pub returns-clause-trees : goal.returns-clause-trees
returns-clause-trees c = λ session rows.
    c.loop-condition.invariant.0 session rows
    ∙ ap (list_all (λ (tree : Placed). is_met (value_at rows session tree))) (take_all c.loop-condition.condition-index c.args.conditions.now c.loop-condition-test.false)
