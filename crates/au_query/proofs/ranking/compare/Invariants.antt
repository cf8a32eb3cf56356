use Rattle.std.proofs.Common.{◌≡◌, drop}
use Rattle.au_query.specs.Combos.{cells_of}
use Rattle.au_query.specs.Ordering.{combo_cmp, order_cmp}
use Rattle.au_query.proofs.ranking.compare.Given as goal

abbrev pub invariant-loop-place : goal.invariant-loop-place
invariant-loop-place l = order_cmp (drop l.place-index l.keys) (cells_of l.a) (cells_of l.b) ≡ combo_cmp l.keys l.a l.b
