-- Why a door hands out nothing.
use Rattle.std.specs.Prelude.{◌≡◌, ◌⊎◌, ◌^◌, ◌-◌, ℕ, Bool, true, [], Option, None, Some, IfSome}
use Rattle.au_io.specs.Visits.{Visits}

-- the bound once one more was handed out
abbrev pub one_less : Option ℕ → Option ℕ
one_less None = None
one_less (Some left) = Some (left - 1)

-- no connection is left, where the lobby tells it
abbrev pub NoneLeft : Option Visits → Type 0
NoneLeft visits = IfSome visits (λ v. v.left ≡ [])

-- the bound or the last number is reached, the lobby has failed, or it has no connection left
abbrev pub IsSpent : Option Visits → Option ℕ → ℕ → Bool → Type 0
IsSpent visits left drawn failed = (left ≡ Some 0) ⊎ ((drawn ≡ 2 ^ 32 - 1) ⊎ ((failed ≡ true) ⊎ NoneLeft visits))
