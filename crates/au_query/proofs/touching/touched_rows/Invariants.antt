use Rattle.std.proofs.Common.{◌≡◌, ◌++◌, drop, map, filter}
use Rattle.au_query.specs.Answers.{takes_part}
use Rattle.au_query.specs.Combos.{Line, lines}
use Rattle.au_query.proofs.touching.touched_rows.Given as goal

abbrev pub invariant-loop-number : goal.invariant-loop-number
invariant-loop-number l =
    l.numbers ++ map (λ (line : Line). line.0) (filter (takes_part l.combos l.places) (lines (drop l.number-index l.rows)))
    ≡ map (λ (line : Line). line.0) (filter (takes_part l.combos l.places) (lines l.rows))
