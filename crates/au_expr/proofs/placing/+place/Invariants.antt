use Rattle.std.proofs.Common.{◌≡◌, ◌++◌, drop}
use Rattle.au_expr.specs.Resolving.{all_placed, all_signed_placed}
use Rattle.au_expr.proofs.placing.+place.Given as goal

abbrev pub invariant-place_all-loop-part : goal.invariant-place_all-loop-part
invariant-place_all-loop-part l = l.trees ++ all_placed l.ranges (drop l.part-index l.parts) ≡ all_placed l.ranges l.parts

abbrev pub invariant-place_summands-loop-minus : goal.invariant-place_summands-loop-minus
invariant-place_summands-loop-minus l = l.trees ++ all_signed_placed l.ranges (drop l.minus-index l.parts) ≡ all_signed_placed l.ranges l.parts
