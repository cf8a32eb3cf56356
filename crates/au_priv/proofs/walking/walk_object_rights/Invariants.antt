use Rattle.std.proofs.Common.{take, Ok, map}
use Rattle.std.specs.List.{flat_map}
use Rattle.au_priv.specs.Pairs.{object_pair}
use Rattle.au_priv.specs.descent.Progressing.{Walked}
use Rattle.au_priv.proofs.walking.walk_object_rights.Given as goal

abbrev pub invariant-loop-right : goal.invariant-loop-right
invariant-loop-right l = Walked l.fn.start (flat_map (λ right. map (object_pair l.way l.table right) l.grantees) (take l.right-index l.rights)) (Ok l.progress)
