use Rattle.std.proofs.Common.{◌≡◌, ℕ, ◌<◌, ◌≤◌}
use Rattle.au_grants.specs.descent.Search.{grantee_at}
use Rattle.au_grants.proofs.searching.end_of_grants.Given as goal

abbrev pub invariant-loop-at : goal.invariant-loop-at
invariant-loop-at l = (i : ℕ) → l.place ≤ i → i < l.at → grantee_at l.roles i ≡ grantee_at l.roles l.place
