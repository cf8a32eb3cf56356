use Rattle.au_query.proofs.Columns.{column_value}
use Rattle.au_query.proofs.output.Output.cell.Goals as goal

pub returns-in-Column : goal.returns-in-Column
returns-in-Column c = rw (c.in-Column.is, column_value c.args.row.now c.args.session.now c.in-Column.place) c.column_cell.ensures
