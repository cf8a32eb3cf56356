use Rattle.std.proofs.Common.{◌≡◌, ◌∙◌, rules, sym, ap, w64, to_z, of_z}
use Rattle.std.specs.List.{slice_get}
use Rattle.au_base.specs.declared.cell.Cell.TheVariants as cell
use Rattle.au_expr.specs.Placing.{cell_or_null}
use Rattle.au_fga.specs.declared.comparing.Bound.{Bound}
use Rattle.au_fga.specs.descent.Comparing.{bound_cell, cell_compares}
use Rattle.au_fga.specs.descent.Rows.{some_lent}
use Rattle.au_fga.proofs.comparing.one_compares.Goals as goal

pub returns-in-Number : goal.returns-in-Number
returns-in-Number c =
    c.one_number_compares.ensures
    ∙ (let e : to_z w64 (of_z w64 c.in-Number.number) ≡ c.in-Number.number = search rules in
    ap (λ n. some_lent (λ row. cell_compares c.args.comparison.relation (cell_or_null (slice_get row c.args.comparison.place)) (cell.Num n)) c.args.rows.now) e)
    ∙ ap (λ (b : Bound). some_lent (λ row. cell_compares c.args.comparison.relation (cell_or_null (slice_get row c.args.comparison.place)) (bound_cell b)) c.args.rows.now) (sym c.in-Number.is)
