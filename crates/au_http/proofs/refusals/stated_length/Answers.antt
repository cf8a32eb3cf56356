use Rattle.std.proofs.Common.{rules}
use Rattle.au_http.specs.Refusals.{stated_length}
use Rattle.au_http.proofs.refusals.stated_length.Goals as goal

pub returns : goal.returns
unfolding stated_length
returns c = search rules

pub returns-then-encodings-ne0 : goal.returns-then-encodings-ne0
unfolding stated_length
returns-then-encodings-ne0 c = search rules
