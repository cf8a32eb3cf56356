use Rattle.std.proofs.Common.{rules}
use Rattle.au_http.specs.Refusals.{is_post}
use Rattle.au_http.proofs.refusals.is_post.Goals as goal

pub returns : goal.returns
unfolding is_post
returns c = search rules
