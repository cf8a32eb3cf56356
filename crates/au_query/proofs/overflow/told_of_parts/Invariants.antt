use Rattle.std.proofs.Common.{◌≡◌, take, false}
use Rattle.std.specs.List.{list_any}
use Rattle.std.specs.Prelude.{⊤}
use Rattle.au_expr.specs.Sessions.{Session}
use Rattle.au_query.specs.descent.Inside.{cells_in}
use Rattle.au_query.specs.descent.Residuals.{overflows_behind}
use Rattle.au_query.proofs.overflow.told_of_parts.Given as goal

abbrev pub invariant-loop-tree : goal.invariant-loop-tree
invariant-loop-tree l = ⊤

abbrev pub invariant-loop-part : goal.invariant-loop-part
invariant-loop-part l = (session : Session) → list_any (overflows_behind session l.row (cells_in l.rows)) (take l.part-index l.parts) ≡ false
