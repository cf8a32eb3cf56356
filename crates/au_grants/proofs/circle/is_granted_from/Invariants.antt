use Rattle.std.proofs.Common.{◌≡◌, ℕ, ◌≤◌, ◌<◌}
use Rattle.au_grants.specs.descent.Search.{role_at}
use Rattle.au_grants.proofs.circle.is_granted_from.Given as goal

abbrev pub invariant-loop-at : goal.invariant-loop-at
invariant-loop-at l = (i : ℕ) → l.place ≤ i → i < l.at → ¬ (role_at l.roles i ≡ l.role)
