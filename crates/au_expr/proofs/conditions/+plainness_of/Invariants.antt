use Rattle.std.proofs.Common.{◌≡◌, drop, map}
use Rattle.std.specs.List.{list_all}
use Rattle.au_expr.specs.Conditions.{may_stand, plainness}
use Rattle.au_expr.proofs.conditions.+plainness_of.Given as goal

abbrev pub invariant-may_all_stand-loop-part : goal.invariant-may_all_stand-loop-part
invariant-may_all_stand-loop-part l = list_all may_stand (map plainness (drop l.part-index l.parts)) ≡ list_all may_stand (map plainness l.parts)
