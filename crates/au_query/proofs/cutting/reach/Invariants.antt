use Rattle.std.proofs.Common.{◌≡◌, ◌≤◌, ◌<◌, ℕ, false}
use Rattle.au_expr.specs.Ranges.{names_range}
use Rattle.au_query.proofs.cutting.reach.Given as goal

abbrev pub invariant-loop-range : goal.invariant-loop-range
invariant-loop-range l = (range : ℕ) → l.reach ≤ range → range < l.range → names_range range l.condition ≡ false
