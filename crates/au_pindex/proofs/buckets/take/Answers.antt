use Rattle.au_pindex.proofs.Numbers.{added}
use Rattle.au_pindex.proofs.buckets.take.Goals as goal

pub returns : goal.returns
returns c = λ other. added c.args.place other _ _ (c.in_ok-insert.ensures.updates.0 other)
