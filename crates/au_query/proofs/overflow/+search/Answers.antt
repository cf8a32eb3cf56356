use Rattle.std.proofs.Common.{◌∙◌, ap, sym, take, true, false}
use Rattle.au_query.specs.descent.Inside.{cell_views, cells_in, cells_of_source, names_in, overflows_in, found_in}
use Rattle.au_query.proofs.Residuals.{found_among}
use Rattle.au_query.proofs.overflow.+search.Goals as goal
use Rattle.au_query.proofs.overflow.+search.Goals.{then-names_range, else-names_range}

pub returns-in-Some-found_at_last-clause-found : goal.returns-in-Some-found_at_last-clause-found
returns-in-Some-found_at_last-clause-found t c =
    let test = overflows_in c.args.session.now c.args.expr.now in
    let named = names_in c.args.expr.now in
    let told = c.in-Some-found_at_last.ensures c.args.session.now in
    let view = cells_of_source c.in-Some.source.now in
    let rest = cell_views c.in-Some.rest.now in
    elim c.if-names_range.branch [
      | then-names_range w ↦
          found_among test named c.args.row.now view _ rest c.len.result _ true c.len.ensures (sym c.names_range.ensures ∙ w.if-names_range.true)
          (ap (λ rows. cells_in rows.now) w.rows-is ∙ ap cells_in w.as_slice-rows.ensures.value) told
          ∙ ap (found_in test named c.args.row.now) (sym (ap cell_views c.in-Some.ensures.cases.0))
      | else-names_range w ↦
          found_among test named c.args.row.now view _ rest c.len.result _ false c.len.ensures (sym c.names_range.ensures ∙ w.if-names_range.false)
          (ap (λ rows. cells_in rows.now) w.rows-is ∙ w.first_of-rows.ensures ∙ ap (λ rows. take 1 (cells_in rows)) w.as_slice.ensures.value) told
          ∙ ap (found_in test named c.args.row.now) (sym (ap cell_views c.in-Some.ensures.cases.0))
    ]
