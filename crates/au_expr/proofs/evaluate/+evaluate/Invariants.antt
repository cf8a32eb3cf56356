use Rattle.std.proofs.Common.{◌≡◌, drop, pos}
use Rattle.au_expr.specs.Descent.{told, all_from, any_from, among_from, turned_value}
use Rattle.au_expr.specs.Operators.{and_value, or_value, in_value, number, sum_from, product_from}
use Rattle.au_expr.specs.Placing.{values_at, signed_values_at}
use Rattle.au_expr.proofs.evaluate.+evaluate.Given as goal

abbrev pub invariant-all_of-loop-part : goal.invariant-all_of-loop-part
invariant-all_of-loop-part l =
    all_from (told l.found) (values_at l.row l.session (drop l.part-index l.parts)) ≡ and_value (values_at l.row l.session l.parts)

abbrev pub invariant-any_of-loop-part : goal.invariant-any_of-loop-part
invariant-any_of-loop-part l =
    any_from (told l.found) (values_at l.row l.session (drop l.part-index l.parts)) ≡ or_value (values_at l.row l.session l.parts)

abbrev pub invariant-among-loop-choice : goal.invariant-among-loop-choice
invariant-among-loop-choice l =
    turned_value l.negated (among_from (told l.wanted) (told l.found) (values_at l.row l.session (drop l.choice-index l.choices)))
    ≡ in_value l.negated (told l.wanted) (values_at l.row l.session l.choices)

abbrev pub invariant-sum_of-loop-minus : goal.invariant-sum_of-loop-minus
invariant-sum_of-loop-minus l =
    sum_from (told l.found) (signed_values_at l.row l.session (drop l.minus-index l.parts)) ≡ sum_from (number (pos 0)) (signed_values_at l.row l.session l.parts)

abbrev pub invariant-product_of-loop-part : goal.invariant-product_of-loop-part
invariant-product_of-loop-part l =
    product_from (told l.found) (values_at l.row l.session (drop l.part-index l.parts)) ≡ product_from (number (pos 1)) (values_at l.row l.session l.parts)
