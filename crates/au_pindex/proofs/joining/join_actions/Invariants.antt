use Rattle.std.proofs.Common.{◌≡◌, ◌||◌, ◌&&◌, ℕ, true, drop}
use Rattle.std.specs.Prelude.{◌==◌}
use Rattle.std.specs.List.{list_any}
use Rattle.std.specs.Ordering.{nat_cmp}
use Rattle.au_base.specs.declared.action.Action.{Action}
use Rattle.au_base.specs.declared.table.TableName.{TableName}
use Rattle.au_base.specs.Actions.{code_of}
use Rattle.au_pindex.specs.Buckets.{is_in_bucket}
use Rattle.au_pindex.specs.descent.Rooms.{takes_in}
use Rattle.au_pindex.specs.Indexing.{table_cmp}
use Rattle.au_pindex.specs.Naming.{is_of_action, is_on_table}
use Rattle.au_pindex.proofs.joining.join_actions.Given as goal

-- what is added, and what the parts that are left add, is what all add, and the buckets of the parts take the place
abbrev pub invariant-loop-part : goal.invariant-loop-part
invariant-loop-part l =
    ((action : Action) (at : ℕ) → ((list_any (is_of_action action) (drop l.part-index l.parts) && (l.place == at)) || is_in_bucket nat_cmp l.actions (code_of action) at)
    ≡ ((list_any (is_of_action action) l.parts && (l.place == at)) || is_in_bucket nat_cmp l.fn.actions (code_of action) at))
    × ((table : TableName) (at : ℕ) → ((list_any (is_on_table table) (drop l.part-index l.parts) && (l.place == at)) || is_in_bucket table_cmp l.tables table at)
    ≡ ((list_any (is_on_table table) l.parts && (l.place == at)) || is_in_bucket table_cmp l.fn.tables table at))
    × ((action : Action) → list_any (is_of_action action) l.parts ≡ true → takes_in nat_cmp l.actions (code_of action) l.place ≡ true)
    × ((table : TableName) → list_any (is_on_table table) l.parts ≡ true → takes_in table_cmp l.tables table l.place ≡ true)
