use Rattle.std.specs.Ordering.{nat_cmp}
use Rattle.au_base.specs.Actions.{code_of}
use Rattle.au_pindex.specs.Indexing.{table_cmp}
use Rattle.au_pindex.specs.Naming.{is_of_action, is_on_table}
use Rattle.au_pindex.proofs.Reserved.{keep_on, next_room}
use Rattle.au_pindex.proofs.reserving.reserve_actions.Goals as goal

pub loop-part-preserved : goal.loop-part-preserved
loop-part-preserved c =
    let said = c.in_ok-reserve_part.ensures in
    let before = c.loop-part.invariant in (
      keep_on nat_cmp _ _ _ before.0 said.actions,
      keep_on table_cmp _ _ _ before.1 said.tables,
      λ action. next_room (is_of_action action) c.args.parts.now c.loop-part.part-index c.part-item.result c.loop-part-test.true c.part-item.is _ _ (before.2 action) (said.actions.rooms (code_of action)) (said.room action),
      λ table. next_room (is_on_table table) c.args.parts.now c.loop-part.part-index c.part-item.result c.loop-part-test.true c.part-item.is _ _ (before.3 table) (said.tables.rooms table) (said.on_tables table),
    )
