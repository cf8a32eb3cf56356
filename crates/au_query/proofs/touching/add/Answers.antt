use Rattle.au_query.proofs.Numbers.{added}
use Rattle.au_query.proofs.touching.add.Goals as goal

pub returns : goal.returns
returns c = λ other. added c.args.number.0 other.0 _ _ (c.in_ok-insert.ensures.updates.0 other.0)
