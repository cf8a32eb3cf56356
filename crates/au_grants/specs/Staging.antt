-- Changes of grants that are ready to be made with no memory.
use Rattle.std.specs.Prelude.{ℕ, ◌≤◌, List, length}
use Rattle.au_base.specs.Limits.{GRANTS}
use Rattle.au_grants.specs.declared.change.GrantChange.{GrantChange}
use Rattle.au_grants.specs.Changing.{applied_all}
use Rattle.au_grants.specs.Rights.{Grants, grant_count}

-- the changes, in their order, and how many grants of each kind there were when they were made ready
pub record Staged : Type 0 where
  pub changes : List GrantChange
  pub system : ℕ
  pub role : ℕ
  pub object : ℕ

-- what is ready fits the grants: of no kind are there more than there were then, and after the changes there are 100,000
-- at most
pub record Fits (staged : Staged) (grants : Grants) : Type 0 where
  pub system : length grants.system ≤ staged.system
  pub role : length grants.role ≤ staged.role
  pub object : length grants.object ≤ staged.object
  pub few : grant_count (applied_all staged.changes grants) ≤ GRANTS
