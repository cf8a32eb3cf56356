use Rattle.std.proofs.Common.{◌≡◌, ◌++◌, drop, map, filter}
use Rattle.std.specs.List.{enumerate_from}
use Rattle.au_query.specs.Answers.{is_first, touched_by, touched_in}
use Rattle.au_query.proofs.touching.touched.Given as goal

abbrev pub invariant-loop-range : goal.invariant-loop-range
invariant-loop-range l =
    l.touched ++ map (touched_in l.combos l.sources) (filter (is_first l.sources) (enumerate_from l.range (drop l.range l.sources))) ≡ touched_by l.combos l.sources
