use Rattle.std.proofs.Common.{◌≡◌, drop}
use Rattle.au_expr.specs.Descent.{meant, meant_in_ranges}
use Rattle.au_expr.specs.Names.{places}
use Rattle.au_expr.proofs.lookup.columns_meant.Given as goal

abbrev pub invariant-loop-number : goal.invariant-loop-number
invariant-loop-number l = meant_in_ranges l.written l.name l.found l.number (drop l.number l.ranges) ≡ meant (places l.ranges l.written l.name)
