use Rattle.std.proofs.Common.{◌≡◌, drop, map, ◌∷◌}
use Rattle.std.specs.List.{list_all}
use Rattle.au_base.specs.declared.table.ColumnKind.TheVariants as columns
use Rattle.au_expr.specs.Descent.{agreed_from, is_agreed, kinds_in_sum}
use Rattle.au_expr.specs.Kinds.{kind, is_truth, goes_with, is_one_kind}
use Rattle.au_expr.proofs.kinds.+kind_in.Given as goal

abbrev pub invariant-are_truths-loop-part : goal.invariant-are_truths-loop-part
invariant-are_truths-loop-part l = list_all is_truth (map (kind l.ranges) (drop l.part-index l.parts)) ≡ list_all is_truth (map (kind l.ranges) l.parts)

abbrev pub invariant-are_numbers-loop-part : goal.invariant-are_numbers-loop-part
invariant-are_numbers-loop-part l =
    list_all (goes_with columns.Number) (map (kind l.ranges) (drop l.part-index l.parts)) ≡ list_all (goes_with columns.Number) (map (kind l.ranges) l.parts)

abbrev pub invariant-are_summands-loop-part : goal.invariant-are_summands-loop-part
invariant-are_summands-loop-part l =
    list_all (goes_with columns.Number) (kinds_in_sum l.ranges (drop l.part-index l.parts)) ≡ list_all (goes_with columns.Number) (kinds_in_sum l.ranges l.parts)

abbrev pub invariant-agrees_with_all-loop-other : goal.invariant-agrees_with_all-loop-other
invariant-agrees_with_all-loop-other l =
    is_agreed (agreed_from l.agreed (map (kind l.ranges) (drop l.other-index l.others))) ≡ is_one_kind (l.fn.first ∷ map (kind l.ranges) l.others)
