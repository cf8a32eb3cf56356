use Rattle.std.proofs.Common.{◌≡◌, Bool, true, drop, map}
use Rattle.std.specs.List.{list_all}
use Rattle.au_expr.specs.declared.placed.Placed.{Placed}
use Rattle.au_expr.specs.Resolving.{placed}
use Rattle.au_query.proofs.fixing.in_parts.Given as goal

abbrev pub invariant-loop-part : goal.invariant-loop-part
invariant-loop-part l =
    (test : Placed → Bool) → list_all test (map (placed l.sought.ranges.now) l.parts) ≡ true
    → list_all test (map (placed l.sought.ranges.now) (drop l.part-index l.parts)) ≡ true
