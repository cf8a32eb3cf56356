use Rattle.std.proofs.Common.{◌≡◌, ℕ, ◌<◌, Some}
use Rattle.std.specs.List.{slice_get}
use Rattle.au_base.specs.declared.code.Code.{Code}
use Rattle.au_priv.specs.Deciding.{RefusesGrantee}
use Rattle.au_grants.specs.Rights.{Name}
use Rattle.au_priv.proofs.deciding.grantees_refusal.Given as goal

abbrev pub invariant-loop-grantee : goal.invariant-loop-grantee
invariant-loop-grantee l = (k : ℕ) (name : Name) (code : Code) → k < l.grantee-index → slice_get l.grantees k ≡ Some name → ¬ RefusesGrantee l.known name code
