use Rattle.std.proofs.Common.{◌∙◌, ap, sym}
use Rattle.std.specs.List.{list_any}
use Rattle.au_query.specs.descent.Inside.{cells_in}
use Rattle.au_query.specs.descent.Residuals.{overflows_behind}
use Rattle.au_query.proofs.Cuts.{some_other}
use Rattle.au_query.proofs.Residuals.{parts_overflow}
use Rattle.au_query.proofs.overflow.told_by_residuals.Goals as goal

pub returns-in-And : goal.returns-in-And
returns-in-And c =
    some_other _ _
    (λ found those session.
    let rows = cells_in c.args.rows.now in
    those session ∙ ap (list_any (overflows_behind session c.args.row.now rows)) c.as_slice.ensures
    ∙ parts_overflow session c.args.row.now rows c.in-And.parts ∙ ap (overflows_behind session c.args.row.now rows) (sym c.in-And.is))
    c.told_of_parts.result c.told_of_parts.ensures
