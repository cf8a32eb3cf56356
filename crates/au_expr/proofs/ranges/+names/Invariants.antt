use Rattle.std.proofs.Common.{◌≡◌, drop, map}
use Rattle.au_expr.specs.Descent.{names, names_in_sum}
use Rattle.au_expr.specs.Overflows.{any_holds}
use Rattle.au_expr.proofs.ranges.+names.Given as goal

abbrev pub invariant-some_names-loop-part : goal.invariant-some_names-loop-part
invariant-some_names-loop-part l = any_holds (map (names l.asked) (drop l.part-index l.parts)) ≡ any_holds (map (names l.asked) l.parts)

abbrev pub invariant-some_summand_names-loop-part : goal.invariant-some_summand_names-loop-part
invariant-some_summand_names-loop-part l = any_holds (names_in_sum l.asked (drop l.part-index l.parts)) ≡ any_holds (names_in_sum l.asked l.parts)
