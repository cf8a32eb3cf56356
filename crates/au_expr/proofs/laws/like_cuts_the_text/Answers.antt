use Rattle.au_expr.proofs.LikeTest.{likes_tells}
use Rattle.au_expr.proofs.laws.like_cuts_the_text.Goals as goal

pub returns : goal.returns
returns c pattern text = likes_tells pattern text
