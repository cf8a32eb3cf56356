use Rattle.std.proofs.Common.{◌≡◌, ◌∷◌, ◌++◌, [], drop}
use Rattle.std.specs.Option.{option_to_list}
use Rattle.au_query.specs.Combos.{lines, overflows}
use Rattle.au_query.specs.Counts.{passing_rows}
use Rattle.au_choose.proofs.passing.passing.Given as goal

abbrev pub invariant-loop-number : goal.invariant-loop-number
invariant-loop-number l =
    (lines l.chosen.items ++ passing_rows l.session (option_to_list l.condition) (lines (drop l.number-index l.rows)) ≡ passing_rows l.session (option_to_list l.condition) (lines l.rows))
    × (overflows l.session (option_to_list l.condition) (lines (drop l.number-index l.rows) ∷ []) ≡ overflows l.session (option_to_list l.condition) (lines l.rows ∷ []))
