use Rattle.std.proofs.Common.{◌∙◌, ◌∷◌, [], ap, sym}
use Rattle.std.specs.List.{list_all}
use Rattle.au_expr.specs.declared.placed.Placed.{Placed}
use Rattle.au_expr.specs.Placing.{value_at}
use Rattle.au_expr.specs.Values.{is_met}
use Rattle.au_query.proofs.Cuts.{some_other}
use Rattle.au_query.proofs.counting.comparisons_in.Goals as goal

pub returns : goal.returns
returns c =
    some_other _ _
    (λ found those session cells.
    let met = λ (tree : Placed). is_met (value_at (cells ∷ []) session tree) in
    ap (λ (tree : Placed). list_all met (tree ∷ [])) (sym c.tree.ensures) ∙ sym (c.parts_of.ensures session (cells ∷ [])) ∙ those session cells)
    c.in_ok-found.found c.in_ok-found.ensures
