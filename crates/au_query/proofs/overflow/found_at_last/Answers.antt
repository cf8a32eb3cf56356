use Rattle.std.proofs.Common.{◌∙◌, ◌++◌, ◌∷◌, [], List, ap, sym}
use Rattle.std.specs.List.{list_any}
use Rattle.au_base.specs.declared.cell.Cell.{Cell}
use Rattle.au_query.specs.descent.Inside.{cells_in, found_in, names_in, overflows_in}
use Rattle.au_query.specs.descent.Residuals.{overflows_behind}
use Rattle.au_query.proofs.Cuts.{some_other}
use Rattle.au_query.proofs.Residuals.{none_left}
use Rattle.au_query.proofs.overflow.found_at_last.Goals as goal

pub returns-in-None : goal.returns-in-None
returns-in-None c =
    some_other _ _
    (λ found those session.
    let rows = cells_in c.args.rows.now in
    those session ∙ ap (overflows_behind session c.args.row.now rows) c.tree.ensures
    ∙ ap (λ views. list_any (λ (cells : List Cell). found_in (overflows_in session c.args.expr.now) (names_in c.args.expr.now) (c.args.row.now ++ cells ∷ []) views) rows)
    (sym (none_left c.args.rest.now c.in-None.ensures.cases)))
    c.told_by_residuals.result c.told_by_residuals.ensures
