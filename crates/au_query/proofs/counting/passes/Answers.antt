use Rattle.std.proofs.Common.{◌∙◌, ◌++◌, ◌∷◌, [], ap, List}
use Rattle.std.specs.List.{list_all}
use Rattle.au_base.specs.declared.cell.Cell.{Cell}
use Rattle.au_expr.specs.declared.placed.Placed.{Placed}
use Rattle.au_expr.specs.Placing.{value_at}
use Rattle.au_expr.specs.Values.{is_met}
use Rattle.au_query.proofs.counting.passes.Goals as goal

pub returns-clause-met : goal.returns-clause-met
returns-clause-met c =
    c.are_met-met.ensures
    ∙ ap (λ (rows : List (List Cell)). list_all (λ (tree : Placed). is_met (value_at rows c.args.session.now tree)) c.args.conditions.now)
    (c.push.ensures ∙ ap (λ (rows : List (List Cell)). rows ++ c.args.cells.now ∷ []) c.requires)
