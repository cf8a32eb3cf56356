use Rattle.std.proofs.Common.{◌≡◌, ◌+◌, Bool, true, drop}
use Rattle.std.specs.List.{enumerate_from, flat_map, list_all}
use Rattle.au_expr.specs.declared.placed.Placed.{Placed}
use Rattle.au_query.specs.Queries.{on_of, ons_of}
use Rattle.au_query.proofs.fixing.in_joins.Given as goal

abbrev pub invariant-loop-number : goal.invariant-loop-number
invariant-loop-number l =
    (test : Placed → Bool) → list_all test (ons_of l.sought.ranges.now l.joins) ≡ true
    → list_all test (flat_map (on_of l.sought.ranges.now) (enumerate_from (l.number + 2) (drop l.number l.joins))) ≡ true
