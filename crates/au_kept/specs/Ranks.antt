-- Numbers of names by which grants of roles close no circle: each role has a smaller number than who it is granted to.
use Rattle.std.specs.Prelude.{◌<◌, ⊤, ℕ, List, unwrap_or}
use Rattle.std.specs.List.{AllByRecursion}
use Rattle.std.specs.Cmp.Lexicographic.{slice_cmp}
use Rattle.std.specs.Map.{lookup}
use Rattle.std.specs.Ordering.{is_eq, nat_cmp}
use Rattle.au_entries.specs.declared.change.Change.{Change}
use Rattle.au_entries.specs.declared.change.Change.TheVariants.{RoleGrant}
use Rattle.au_grants.specs.Rights.{Name, RoleEntry}

-- the name's number, 0 where it has none
abbrev pub rank_in : List (Name × ℕ) → Name → ℕ
rank_in ranks name = unwrap_or (lookup (λ other. is_eq (slice_cmp nat_cmp name other)) ranks) 0

-- where the change grants a role, the role's number is under the grantee's
abbrev pub IsRanked : List (Name × ℕ) → Change → Type 0
IsRanked ranks (RoleGrant grantee role admin) = rank_in ranks role < rank_in ranks grantee
IsRanked ranks _ = ⊤

-- each role's number is under those of who it is granted to
abbrev pub AreRanked : List (Name × ℕ) → List RoleEntry → Type 0
AreRanked ranks roles = AllByRecursion (λ entry. rank_in ranks entry.1 < rank_in ranks entry.0) roles
