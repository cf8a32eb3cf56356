use Rattle.std.proofs.Common.{rules, append_assoc}
use Rattle.au_http.proofs.ResponseLines.{no_allow}
use Rattle.au_http.proofs.responses.write_head.Goals as goal

pub returns : goal.returns
returns c =
    let allow = no_allow c.args.status c.requires in
    search (rules, append_assoc, allow)
