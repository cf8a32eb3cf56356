use Rattle.std.proofs.Common.{rules}
use Rattle.au_http.specs.Refusals.{has_host}
use Rattle.au_http.proofs.refusals.has_host.Goals as goal

pub returns-then-spans-eq0 : goal.returns-then-spans-eq0
unfolding has_host
returns-then-spans-eq0 c = search rules

pub returns-else-spans-eq0 : goal.returns-else-spans-eq0
unfolding has_host
returns-else-spans-eq0 c = search rules
