-- Which buckets a statement takes.
use Rattle.std.specs.Prelude.{ℕ, Bool, ◌==◌, ◌&&◌, ◌||◌, List, Vec}
use Rattle.std.specs.Global.{Global}
use Rattle.std.specs.List.{list_any}
use Rattle.std.specs.Ordering.{nat_cmp}
use Rattle.au_base.specs.declared.action.Action.TheVariants.{All}
use Rattle.au_base.specs.Actions as actions
use Rattle.au_base.specs.Privileges as privileges
use Rattle.au_entries.specs.declared.facts.Facts.{Facts}
use Rattle.au_entries.specs.Matching.{covers_role}
use Rattle.au_grants.specs.declared.grants.Grants.{Grants}
use Rattle.au_pindex.specs.Buckets.{is_in_bucket}
use Rattle.au_pindex.specs.declared.bucketed.Bucketed.{Bucketed}
use Rattle.au_pindex.specs.Indexing.{table_cmp}

-- a privilege that was used is granted to the role of the bucket directly, and the place stands in it
abbrev pub is_in_role : Grants → Facts → ℕ → List ℕ × Vec ℕ Global → Bool
is_in_role grants facts place entry = covers_role grants facts entry.0 && list_any (λ other. other == place) entry.1.items

-- the place stands in a bucket of the statement
abbrev pub is_taken : Grants → Facts → Bucketed → ℕ → Bool
is_taken grants facts buckets place =
    is_in_bucket nat_cmp buckets.actions (actions.code_of facts.action) place
    || (is_in_bucket nat_cmp buckets.actions (actions.code_of All) place
    || (list_any (λ table. is_in_bucket table_cmp buckets.tables table place) facts.tables
    || (list_any (λ privilege. is_in_bucket nat_cmp buckets.privileges (privileges.code_of privilege) place) facts.used
    || list_any (is_in_role grants facts place) buckets.roles.entries)))
