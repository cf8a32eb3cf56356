use Rattle.std.proofs.Common.{◌∙◌, [], ap, sym, unwrap_or}
use Rattle.std.specs.Prelude.{Option}
use Rattle.au_expr.specs.declared.placed.Placed.{Placed}
use Rattle.au_pindex.proofs.Tested.{met_now}
use Rattle.au_pindex.proofs.testing.is_yes_now.Goals as goal

pub returns : goal.returns
returns c =
    met_now c.args.session.now c.args.when.now.tree c.in-Some.resolved c.is_met.result c.is_met.ensures
    (ap (λ (found : Option Placed). unwrap_or found c.in-Some.resolved) (sym c.in-Some.is ∙ c.requires.condition))
    (c.names_or_places.ensures [] [] c.args.session.now c.args.when.now.tree tt)
