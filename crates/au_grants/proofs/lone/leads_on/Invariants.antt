use Rattle.std.proofs.Common.{◌≡◌, ◌≤◌, ◌<◌, ℕ, false}
use Rattle.std.specs.List.{list_any}
use Rattle.au_grants.specs.Changing.{role_to}
use Rattle.au_grants.specs.descent.Search.{role_at}
use Rattle.au_grants.proofs.lone.leads_on.Given as goal

abbrev pub invariant-loop-at : goal.invariant-loop-at
invariant-loop-at l = (i : ℕ) → l.place ≤ i → i < l.at → list_any (role_to (role_at l.roles i)) l.roles ≡ false
