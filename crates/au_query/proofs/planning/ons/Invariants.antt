use Rattle.std.proofs.Common.{◌≡◌, ◌+◌, ◌++◌, drop, map}
use Rattle.std.specs.List.{enumerate_from, flat_map}
use Rattle.au_expr.specs.Names.{first}
use Rattle.au_expr.specs.Resolving.{condition_code}
use Rattle.au_query.specs.Queries.{on_of, ons_of}
use Rattle.au_query.specs.Refusals.{on_code, on_codes}
use Rattle.au_query.proofs.planning.ons.Given as goal

abbrev pub invariant-loop-number : goal.invariant-loop-number
invariant-loop-number l =
    (first (map (on_code condition_code l.ranges) (enumerate_from (l.number + 2) (drop l.number l.joins))) ≡ first (on_codes condition_code l.ranges l.joins))
    × (l.conditions.items ++ flat_map (on_of l.ranges) (enumerate_from (l.number + 2) (drop l.number l.joins)) ≡ ons_of l.ranges l.joins)
