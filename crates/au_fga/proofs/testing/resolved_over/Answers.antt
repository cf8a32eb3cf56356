use Rattle.std.proofs.Common.{◌∙◌, ℕ, List, [], ◌∷◌, ap₂}
use Rattle.std.specs.List.{each_same}
use Rattle.au_base.specs.declared.table.Column.{Column}
use Rattle.au_expr.specs.Resolving.{placed}
use Rattle.au_fga.proofs.Tested.{met_alike}
use Rattle.au_fga.proofs.testing.resolved_over.Goals as goal

pub returns : goal.returns
returns c =
    let found = rw c.in-Ok.is at c.in_ok-resolved.ensures in
    met_alike c.names_or_places.ensures c.args.table.now c.args.tree.now c.in-Ok.resolved
    (found.0.places ∙ ap₂ (λ (name : List ℕ) (columns : List Column). placed ((name, columns) ∷ []) c.args.tree.now) c.in_ok-clone.ensures.cases (each_same _ _ c.in_ok-clone-2.ensures.cases))
