use Rattle.std.proofs.Common.{◌∙◌, sym}
use Rattle.au_expr.specs.declared.ranges.Asked.TheVariants.{Range}
use Rattle.au_expr.proofs.Columns.{names_are}
use Rattle.au_expr.proofs.Sufficing.{suffices}
use Rattle.au_expr.proofs.laws.named_ranges_suffice.Goals as goal

pub returns : goal.returns
returns c tree session one other agree = suffices session one other tree (λ range named. agree range (sym (names_are (Range range) tree) ∙ named))
