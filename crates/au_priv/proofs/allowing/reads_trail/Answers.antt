use Rattle.au_priv.proofs.FirstHeld.{found_of_two}
use Rattle.au_priv.proofs.allowing.reads_trail.Goals as goal

pub returns : goal.returns
returns c = found_of_two c.args.grants.now c.args.user.now _ _ c.first_right.result _ c.is_some.ensures c.first_right.ensures.some c.first_right.ensures.none
