use Rattle.std.proofs.Common.{◌≡◌, ◌+◌, drop, map}
use Rattle.std.specs.List.{enumerate_from}
use Rattle.au_expr.specs.Names.{first, name_code}
use Rattle.au_query.specs.Refusals.{on_code, on_codes}
use Rattle.au_query.proofs.refusing.joins_code.Given as goal

abbrev pub invariant-loop-number : goal.invariant-loop-number
invariant-loop-number l =
    first (map (on_code name_code l.ranges) (enumerate_from (l.number + 2) (drop l.number l.joins))) ≡ first (on_codes name_code l.ranges l.joins)
