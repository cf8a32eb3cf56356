use Rattle.std.proofs.Common.{◌∙◌, ap}
use Rattle.au_base.specs.Truths.{truth_of}
use Rattle.au_expr.proofs.LikeTest.{likes_tells, same_test}
use Rattle.au_expr.proofs.found.is_like.Goals as goal

pub returns : goal.returns
returns c = c.from.ensures ∙ ap truth_of (same_test _ _ c.like.ensures (likes_tells _ _))
