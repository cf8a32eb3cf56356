use Rattle.std.proofs.Common.{◌≡◌, ℕ, ◌<◌, Some}
use Rattle.std.specs.List.{slice_get}
use Rattle.au_grants.specs.declared.change.GrantChange.{GrantChange}
use Rattle.au_grants.specs.Changing.{Closes}
use Rattle.au_priv.proofs.walking.closes_circle.Given as goal

abbrev pub invariant-loop-change : goal.invariant-loop-change
invariant-loop-change l = ((k : ℕ) (change : GrantChange) → k < l.change-index → slice_get l.pair k ≡ Some change → ¬ Closes l.fn.progress.after.role change) × (l.progress ≡ l.fn.progress)
