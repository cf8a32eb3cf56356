use Rattle.std.proofs.Common.{ℕ, ◌<◌}
use Rattle.au_grants.specs.descent.Search.{IsGivenAt, right_at}
use Rattle.au_grants.proofs.holding.first_given.Given as goal

abbrev pub invariant-loop-j : goal.invariant-loop-j
invariant-loop-j l = (i : ℕ) → i < l.j → ¬ IsGivenAt l.grants l.at (right_at l.rights i)
