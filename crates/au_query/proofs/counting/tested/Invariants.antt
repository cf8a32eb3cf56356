use Rattle.std.proofs.Common.{◌≡◌, ◌++◌, [], drop}
use Rattle.au_query.specs.Combos.{lines}
use Rattle.au_query.specs.Counts.{numbers_of, passing_rows}
use Rattle.au_query.proofs.counting.tested.Given as goal

abbrev pub invariant-loop-number : goal.invariant-loop-number
invariant-loop-number l =
    (l.row ≡ [])
    × (l.numbers ++ numbers_of (passing_rows l.session l.conditions (lines (drop l.number-index l.rows))) ≡ numbers_of (passing_rows l.session l.conditions (lines l.rows)))
