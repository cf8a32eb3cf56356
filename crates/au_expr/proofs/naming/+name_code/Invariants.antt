use Rattle.std.proofs.Common.{◌≡◌, drop, map}
use Rattle.au_expr.specs.Descent.{codes_in_sum}
use Rattle.au_expr.specs.Names.{first, name_code}
use Rattle.au_expr.proofs.naming.+name_code.Given as goal

abbrev pub invariant-first_code-loop-part : goal.invariant-first_code-loop-part
invariant-first_code-loop-part l = first (map (name_code l.ranges) (drop l.part-index l.parts)) ≡ first (map (name_code l.ranges) l.parts)

abbrev pub invariant-first_code_in_sum-loop-part : goal.invariant-first_code_in_sum-loop-part
invariant-first_code_in_sum-loop-part l = first (codes_in_sum l.ranges (drop l.part-index l.parts)) ≡ first (codes_in_sum l.ranges l.parts)
