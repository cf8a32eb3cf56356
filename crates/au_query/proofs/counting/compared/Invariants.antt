use Rattle.std.proofs.Common.{◌≡◌, ◌++◌, drop}
use Rattle.std.specs.Prelude.{filter}
use Rattle.au_query.specs.Combos.{Line, lines}
use Rattle.au_query.specs.Counts.{numbers_of}
use Rattle.au_query.specs.descent.Residuals.{are_met_by}
use Rattle.au_query.proofs.counting.compared.Given as goal

abbrev pub invariant-loop-number : goal.invariant-loop-number
invariant-loop-number l =
    let passed = filter (λ (line : Line). are_met_by line.1 l.comparisons) in
    l.numbers ++ numbers_of (passed (lines (drop l.number-index l.rows))) ≡ numbers_of (passed (lines l.rows))
