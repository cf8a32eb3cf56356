use Rattle.std.proofs.Common.{rules}
use Rattle.au_http.specs.Responses.{response_text}
use Rattle.au_http.proofs.responses.written.Goals as goal

pub returns : goal.returns
unfolding response_text
returns c = search rules
