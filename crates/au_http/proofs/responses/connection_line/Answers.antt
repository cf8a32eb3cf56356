use Rattle.std.proofs.Common.{rules}
use Rattle.au_http.specs.Responses.{connection_line}
use Rattle.au_http.proofs.responses.connection_line.Goals as goal

pub returns-then-close : goal.returns-then-close
unfolding connection_line
returns-then-close c = search rules

pub returns-else-close : goal.returns-else-close
unfolding connection_line
returns-else-close c = search rules
