use Rattle.std.proofs.Common.{◌≡◌, drop, map}
use Rattle.au_expr.specs.Names.{first, name_code}
use Rattle.au_modify.proofs.targets.names_refusal.Given as goal

abbrev pub invariant-loop-value : goal.invariant-loop-value
invariant-loop-value l = first (map (name_code l.ranges) (drop l.value-index l.values)) ≡ first (map (name_code l.ranges) l.values)
