use Rattle.std.proofs.Common.{rules, append_assoc}
use Rattle.au_http.specs.Responses.{status_line}
use Rattle.au_http.proofs.responses.write_status.Goals as goal

pub returns : goal.returns
unfolding status_line
returns c = search (rules, append_assoc)
