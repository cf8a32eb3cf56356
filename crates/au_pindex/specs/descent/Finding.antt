-- Where the policy of a name stands among policies that stand in the byte order of their names, or would stand.
use Rattle.std.specs.Prelude.{◌≡◌, ◌≤◌, ◌<◌, ◌+◌, ◌++◌, ◌∷◌, ◌==◌, ℕ, Bool, false, List, drop, length, take}
use Rattle.std.specs.Str.{bytes_eq}
use Rattle.au_entries.specs.declared.policy.AuditPolicy.{AuditPolicy}
use Rattle.au_entries.specs.Changing.{by_name, put_in_order}
use Rattle.au_grants.specs.Changing.{without}
use Rattle.au_pindex.specs.Places.{passes_at}

-- the policy has the name
abbrev pub is_named : List ℕ → AuditPolicy → Bool
is_named name policy = bytes_eq policy.name name

-- the policies with one of this name among them, in its place in their order
abbrev pub with_policy : List ℕ → AuditPolicy → List AuditPolicy → List AuditPolicy
with_policy name policy policies = put_in_order (λ other. by_name other.name name) policy policies

-- the policy of this name stands at the place, and no other has the name
pub record StandsAt (name : List ℕ) (policies : List AuditPolicy) (place : ℕ) : Type 0 where
  pub within : place < length policies
  pub alone : (at : ℕ) → passes_at (is_named name) policies at ≡ (place == at)
  pub others : without (is_named name) policies ≡ take place policies ++ drop (place + 1) policies
  pub replaced : (policy : AuditPolicy) → with_policy name policy policies ≡ take place policies ++ policy ∷ drop (place + 1) policies

-- no policy has this name, and one that had it would stand at the place
pub record BelongsAt (name : List ℕ) (policies : List AuditPolicy) (place : ℕ) : Type 0 where
  pub within : place ≤ length policies
  pub none : (at : ℕ) → passes_at (is_named name) policies at ≡ false
  pub others : without (is_named name) policies ≡ policies
  pub added : (policy : AuditPolicy) → with_policy name policy policies ≡ take place policies ++ policy ∷ drop place policies
