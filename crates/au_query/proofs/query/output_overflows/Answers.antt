use Rattle.std.proofs.Common.{sym}
use Rattle.au_query.specs.Combos.{product, views}
use Rattle.au_query.proofs.Columns.{column_never}
use Rattle.au_query.proofs.query.output_overflows.Goals as goal

pub returns-in-Column : goal.returns-in-Column
returns-in-Column c = rw c.in-Column.is (sym (column_never c.args.session.now c.in-Column._place (product (views c.args.sources.now))))
