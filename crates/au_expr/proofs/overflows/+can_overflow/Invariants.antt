use Rattle.std.proofs.Common.{◌≡◌, drop, map}
use Rattle.au_expr.specs.Overflows.{any_holds, can_overflow}
use Rattle.au_expr.proofs.overflows.+can_overflow.Given as goal

abbrev pub invariant-some_can-loop-part : goal.invariant-some_can-loop-part
invariant-some_can-loop-part l = any_holds (map can_overflow (drop l.part-index l.parts)) ≡ any_holds (map can_overflow l.parts)
