use Rattle.std.proofs.Common.{◌∙◌, ap, List}
use Rattle.au_expr.specs.Resolving.{condition_code}
use Rattle.au_expr.specs.Rows.{Range}
use Rattle.au_query.specs.Refusals.{code_if_there}
use Rattle.au_query.proofs.planning.add_on.Goals as goal

pub returns-clause-code : goal.returns-clause-code
returns-clause-code c = c.in_ok-refused.ensures.code ∙ ap (λ (front : List Range). code_if_there (condition_code front) c.args.join.now.on) c.front-up_to_it.ensures
