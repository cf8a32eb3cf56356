use Rattle.std.specs.Prelude.{◌==◌}
use Rattle.au_base.specs.Actions.{code_of}
use Rattle.au_pindex.specs.Naming.{is_of_action, is_on_table}
use Rattle.au_pindex.proofs.Keys.{next_key}
use Rattle.au_pindex.proofs.Reserved.{any_here}
use Rattle.au_pindex.proofs.joining.join_actions.Goals as goal

pub join_part-requires : goal.join_part-requires
join_part-requires c =
    let parts = c.args.parts.now in
    let part = c.part-item.result in
    let i = c.loop-part.part-index in
    record {
      room = λ action is. c.loop-part.invariant.2 action (any_here (is_of_action action) parts i part c.loop-part-test.true c.part-item.is is);
      on_tables = λ table is. c.loop-part.invariant.3 table (any_here (is_on_table table) parts i part c.loop-part-test.true c.part-item.is is);
    }

pub loop-part-preserved : goal.loop-part-preserved
loop-part-preserved c =
    let parts = c.args.parts.now in
    let part = c.part-item.result in
    let i = c.loop-part.part-index in
    let said = c.join_part.ensures in (
      λ action at. next_key (is_of_action action) parts i part (c.args.place == at) _ _ _ c.loop-part-test.true c.part-item.is (said.actions action at) (c.loop-part.invariant.0 action at),
      λ table at. next_key (is_on_table table) parts i part (c.args.place == at) _ _ _ c.loop-part-test.true c.part-item.is (said.tables table at) (c.loop-part.invariant.1 table at),
      λ action named. said.rooms (code_of action) (c.loop-part.invariant.2 action named),
      λ table named. said.table_rooms table (c.loop-part.invariant.3 table named),
    )
