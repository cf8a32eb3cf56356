use Rattle.std.proofs.Common.{◌≡◌, ◌≤◌, ◌++◌, ◌∷◌, [], drop, length}
use Rattle.std.specs.List.{flat_map}
use Rattle.au_base.specs.Limits.{REPLY_ROWS}
use Rattle.au_query.specs.Combos.{lines, passes, views}
use Rattle.au_query.specs.descent.Inside.{gathered, trees_in_tests}
use Rattle.au_query.proofs.scan.+scan.Given as goal

abbrev pub decreases-scan : goal.decreases-scan
decreases-scan l = length l.sources.now

abbrev pub invariant-loop-number : goal.invariant-loop-number
invariant-loop-number l =
    let each = flat_map (λ x. gathered (passes l.session (trees_in_tests l.tests)) (l.initial.front ++ x ∷ []) (views l.rest)) in
    (l.front ≡ l.initial.front) × (l.row ≡ l.initial.row) × (length l.kept.items ≤ REPLY_ROWS)
    × (l.kept.items ++ each (lines (drop l.number-index l.number-items)) ≡ l.initial.kept.items ++ each (lines l.number-items))
