use Rattle.std.proofs.Common.{◌≡◌, ◌<◌, true, take}
use Rattle.std.specs.List.{list_any}
use Rattle.std.specs.Ordering.{nat_cmp}
use Rattle.au_base.specs.declared.action.Action.{Action}
use Rattle.au_base.specs.declared.table.TableName.{TableName}
use Rattle.au_base.specs.Actions.{code_of}
use Rattle.au_pindex.specs.descent.Rooms.{KeepPlaces, room_in}
use Rattle.au_pindex.specs.Indexing.{table_cmp}
use Rattle.au_pindex.specs.Naming.{is_of_action, is_on_table}
use Rattle.au_pindex.proofs.reserving.reserve_actions.Given as goal

-- the buckets have the places that they had, and those of the parts so far have room
abbrev pub invariant-loop-part : goal.invariant-loop-part
invariant-loop-part l =
    KeepPlaces nat_cmp l.fn.actions l.actions
    × KeepPlaces table_cmp l.fn.tables l.tables
    × ((action : Action) → list_any (is_of_action action) (take l.part-index l.parts) ≡ true → 0 < room_in nat_cmp l.actions (code_of action))
    × ((table : TableName) → list_any (is_on_table table) (take l.part-index l.parts) ≡ true → 0 < room_in table_cmp l.tables table)
