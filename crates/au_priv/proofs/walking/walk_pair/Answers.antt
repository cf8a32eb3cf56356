use Rattle.au_priv.proofs.Walks.{walked_one}
use Rattle.au_priv.proofs.walking.walk_pair.Goals as goal

pub returns : goal.returns
returns c =
    let end = c.in_ok-walked_on-in-None in
    walked_one c.args.start c.pair_refusal.new.progress end.field-0 c.args.pair.now c.in_ok-code.ensures.same (rw c.in-None.is at c.in_ok-code.ensures.refusal) end.ensures.changes end.ensures.after
