use Rattle.std.proofs.Common.{ℕ, ◌≤◌, ◌<◌}
use Rattle.au_grants.specs.Rights.{IsRoleGranted}
use Rattle.au_grants.specs.descent.Search.{grantee_at, queued_at}
use Rattle.au_grants.proofs.circle.is_granted_to_some.Given as goal

abbrev pub invariant-loop-k : goal.invariant-loop-k
invariant-loop-k l = (j : ℕ) → 0 ≤ j → j < l.k → ¬ IsRoleGranted l.roles (grantee_at l.roles (queued_at l.queue j)) l.role
