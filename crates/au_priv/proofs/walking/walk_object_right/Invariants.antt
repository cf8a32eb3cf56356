use Rattle.std.proofs.Common.{take, Ok}
use Rattle.std.specs.List.{flat_map}
use Rattle.au_priv.specs.Pairs.{object_pair}
use Rattle.au_priv.specs.descent.Progressing.{Walked}
use Rattle.au_priv.proofs.Walks.{single}
use Rattle.au_priv.proofs.walking.walk_object_right.Given as goal

abbrev pub invariant-loop-grantee : goal.invariant-loop-grantee
invariant-loop-grantee l = Walked l.fn.start (flat_map (single (object_pair l.way l.table l.right)) (take l.grantee-index l.grantees)) (Ok l.progress)
