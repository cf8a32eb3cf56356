use Rattle.std.proofs.Common.{◌∙◌, ◌∷◌, ◌++◌, [], List, ap, sym}
use Rattle.std.specs.Prelude.{Option}
use Rattle.au_base.specs.declared.cell.Cell.{Cell}
use Rattle.au_expr.specs.declared.placed.Placed.{Placed}
use Rattle.au_expr.specs.Placing.{value_at}
use Rattle.au_choose.specs.Inside.{met_by, over_cells}
use Rattle.au_choose.proofs.passing.over.Goals as goal

pub returns-in-Some : goal.returns-in-Some
returns-in-Some c =
    let session = c.args.session.now in
    let cells = c.args.cells.now in
    c.over_row.ensures
    ∙ ap (λ (rows : List (List Cell)). met_by (value_at rows session c.in-Some.condition)) (c.push.ensures ∙ ap (λ (rows : List (List Cell)). rows ++ cells ∷ []) c.new-row.ensures)
    ∙ sym (ap (λ (condition : Option Placed). over_cells session condition cells) c.in-Some.is)
