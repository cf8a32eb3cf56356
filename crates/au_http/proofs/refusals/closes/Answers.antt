use Rattle.std.proofs.Common.{rules}
use Rattle.au_http.specs.Refusals.{closes}
use Rattle.au_http.proofs.refusals.closes.Goals as goal

pub returns : goal.returns
unfolding closes
returns c = search rules
