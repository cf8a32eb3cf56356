use Rattle.std.proofs.Common.{ℕ, ◌<◌}
use Rattle.au_grants.specs.descent.Direct.{IsGranted}
use Rattle.au_grants.specs.descent.Search.{right_at}
use Rattle.au_grants.proofs.holding.first_granted.Given as goal

abbrev pub invariant-loop-j : goal.invariant-loop-j
invariant-loop-j l = (i : ℕ) → i < l.j → ¬ IsGranted l.grants l.holder (right_at l.rights i)
