use Rattle.au_change.proofs.Numbers.{added}
use Rattle.au_change.proofs.clashes.add.Goals as goal

pub returns : goal.returns
returns c = λ other. added c.args.row.0 other.0 _ _ (c.in_ok-insert.ensures.updates.0 other.0)
