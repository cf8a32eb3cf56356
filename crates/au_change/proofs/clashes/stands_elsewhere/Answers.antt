use Rattle.au_change.proofs.Clashing.{standing_told}
use Rattle.au_change.proofs.clashes.stands_elsewhere.Goals as goal

pub returns-in-Some : goal.returns-in-Some
returns-in-Some c = standing_told c.args.keyed.now c.args.row c.in-Some.other c.args.key.now c.contains.result c.requires (rw c.requires.key at c.in-Some.ensures.some) c.contains.ensures
