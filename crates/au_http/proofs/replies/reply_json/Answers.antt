use Rattle.std.proofs.Common.{◌∙◌, ap}
use Rattle.serde_json.specs.Written.{compact_text, has_float}
use Rattle.au_http.specs.Replies.{reply_text}
use Rattle.au_http.proofs.Floats.{in_reply}
use Rattle.au_http.proofs.replies.reply_json.Goals as goal

pub returns : goal.returns
unfolding reply_text
returns c =
    let no_float = ap has_float c.in_ok-value.ensures ∙ in_reply c.args.reply.now in
    c.from_string.ensures ∙ c.in_ok-to_string.ensures.text no_float ∙ ap compact_text c.in_ok-value.ensures
