use Rattle.std.proofs.Common.{◌≡◌, ℕ, ◌<◌, Some}
use Rattle.std.specs.List.{slice_get}
use Rattle.au_grants.specs.declared.change.GrantChange.{GrantChange}
use Rattle.au_priv.specs.descent.Standing.{IsAside}
use Rattle.au_priv.proofs.standing.are_aside.Given as goal

abbrev pub invariant-loop-change : goal.invariant-loop-change
invariant-loop-change l = (k : ℕ) (change : GrantChange) → k < l.change-index → slice_get l.changes k ≡ Some change → IsAside l.before.role l.role l.grantee change
