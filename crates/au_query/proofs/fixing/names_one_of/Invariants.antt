use Rattle.std.proofs.Common.{◌≡◌, ◌<◌, ℕ, false}
use Rattle.au_expr.specs.Ranges.{names_range}
use Rattle.au_query.proofs.fixing.names_one_of.Given as goal

abbrev pub invariant-loop-range : goal.invariant-loop-range
invariant-loop-range l = (range : ℕ) → range < l.range → names_range range l.resolved ≡ false
