use Rattle.std.proofs.Common.{◌∙◌, ap}
use Rattle.au_expr.specs.declared.ranges.Asked.TheVariants.{Column}
use Rattle.au_expr.specs.Ranges.{names_column}
use Rattle.au_expr.proofs.Columns.{names_are}
use Rattle.au_expr.proofs.resolved.Resolved.names_column.Goals as goal

pub returns : goal.returns
returns c = c.names.ensures ∙ names_are (Column c.args.range c.args.column) c.self.inside.tree ∙ ap (names_column c.args.range c.args.column) c.self.view_is
