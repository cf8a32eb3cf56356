use Rattle.std.proofs.Common.{◌≡◌, ◌++◌, drop, map, filter}
use Rattle.std.specs.List.{enumerate_from}
use Rattle.au_query.specs.Answers.{is_first, named_by, named_in}
use Rattle.au_query.specs.descent.Plans.{trees_in_plan}
use Rattle.au_query.proofs.naming.named.Given as goal

abbrev pub invariant-loop-range : goal.invariant-loop-range
invariant-loop-range l =
    l.named ++ map (named_in (trees_in_plan l.plan) l.ranges l.sources) (filter (is_first l.sources) (enumerate_from l.range (drop l.range l.sources)))
    ≡ named_by (trees_in_plan l.plan) l.ranges l.sources
