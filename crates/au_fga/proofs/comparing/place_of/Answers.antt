use Rattle.std.proofs.Common.{◌∙◌, ap}
use Rattle.std.specs.List.{position}
use Rattle.std.specs.Str.{bytes_eq}
use Rattle.au_base.specs.declared.table.Column.{Column}
use Rattle.au_fga.proofs.Compared.{column_found}
use Rattle.au_fga.proofs.comparing.place_of.Goals as goal

pub returns-in-Column : goal.returns-in-Column
returns-in-Column c =
    column_found c.args.table.now c.args.side.now c.in-Column.field-0 c.in-Column.name c.first_of.result c.in-Column.is
    (c.first_of.ensures ∙ ap (position (λ (column : Column). bytes_eq column.name c.in-Column.name)) c.as_slice.ensures)
