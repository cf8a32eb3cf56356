use Rattle.std.proofs.Common.{◌∙◌, ap, sym}
use Rattle.au_expr.specs.Resolving.{condition_code}
use Rattle.au_choose.specs.Choosing.{where_kind}
use Rattle.au_choose.proofs.codes.where_kind_code.Goals as goal

pub returns-in-Some : goal.returns-in-Some
returns-in-Some c =
    c.condition_code.ensures
    ∙ ap (λ ranges. condition_code ranges c.in-Some.condition) c.from_ref.ensures.value
    ∙ sym (ap (where_kind c.args.range.now) c.in-Some.is)
