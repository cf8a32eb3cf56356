use Rattle.std.proofs.Common.{refl}
use Rattle.std.specs.Fmt.{digits}
use Rattle.serde_json.proofs.OnLiterals.{serde_json_on_literals}
use Rattle.au_http.specs.Responses.{allow_line, connection_line, content_lines, status_line, error_text, phrase_of, refusal_text, response_text}
use Rattle.au_http.proofs.responses.bad_response.Goals as goal

pub returns-in-400 : goal.returns-in-400
unfolding digits serde_json_on_literals allow_line connection_line content_lines status_line error_text phrase_of refusal_text response_text
returns-in-400 c = rw c.in-400.is refl

pub returns-in-404 : goal.returns-in-404
unfolding digits serde_json_on_literals allow_line connection_line content_lines status_line error_text phrase_of refusal_text response_text
returns-in-404 c = rw c.in-404.is refl

pub returns-in-405 : goal.returns-in-405
unfolding digits serde_json_on_literals allow_line connection_line content_lines status_line error_text phrase_of refusal_text response_text
returns-in-405 c = rw c.in-405.is refl

pub returns-in-413 : goal.returns-in-413
unfolding digits serde_json_on_literals allow_line connection_line content_lines status_line error_text phrase_of refusal_text response_text
returns-in-413 c = rw c.in-413.is refl
