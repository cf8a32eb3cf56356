use Rattle.std.proofs.Common.{rules}
use Rattle.au_http.specs.Responses.{content_lines}
use Rattle.au_http.proofs.responses.write_content.Goals as goal

pub returns : goal.returns
unfolding content_lines
returns c = search rules
