use Rattle.std.proofs.Common.{◌∙◌}
use Rattle.au_expr.specs.declared.ranges.Asked.TheVariants.{Range}
use Rattle.au_expr.proofs.Columns.{names_are}
use Rattle.au_expr.proofs.ranges.names_range.Goals as goal

pub returns : goal.returns
returns c = c.names.ensures ∙ names_are (Range c.args.range) c.args.tree.now
