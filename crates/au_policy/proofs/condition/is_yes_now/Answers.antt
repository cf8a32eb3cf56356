use Rattle.std.proofs.Common.{◌∙◌, [], ap}
use Rattle.au_audit.specs.Conditions.{is_yes}
use Rattle.au_expr.specs.declared.placed.Placed.{Placed}
use Rattle.au_expr.specs.Placing.{value_at}
use Rattle.au_expr.specs.Values.{Value, truth_in}
use Rattle.au_policy.proofs.condition.is_yes_now.Goals as goal

pub returns : goal.returns
returns c =
    let found = rw c.in-Ok.is at c.in_ok-resolved.ensures in
    c.is_met.ensures
    ∙ (ap (λ (tree : Placed). is_yes (truth_in (value_at [] c.args.session.now tree))) found.0.places
    ∙ ap (λ (given : Value). is_yes (truth_in given)) (c.names_or_places.ensures [] [] c.args.session.now c.args.tree.now tt))
