use Rattle.std.proofs.Common.{inr}
use Rattle.au_kept.proofs.RowsLaid.{DeskLaws, RowLaws, gone_there}
use Rattle.au_kept.proofs.laying_rows.take_row.Goals as goal

pub set_row-requires-clause-there : goal.set_row-requires-clause-there
set_row-requires-clause-there c =
    let laws : RowLaws = record { there = c.rows_stand_by_tables.ensures.there; laid = c.laid_rows_answer.ensures.laid } in
    let holds : DeskLaws c.args.desk.now = record { rows_open = c.holds_together.ensures.open; changes_open = c.holds_together.ensures.there; numbered = c.holds_together.ensures.numbered } in
    (gone_there laws c.args.desk.now holds c.args.table.now c.args.row (c.requires.goes c.if-not-goes.false)).opened

pub set_row-requires-clause-numbered : goal.set_row-requires-clause-numbered
set_row-requires-clause-numbered c =
    let laws : RowLaws = record { there = c.rows_stand_by_tables.ensures.there; laid = c.laid_rows_answer.ensures.laid } in
    let holds : DeskLaws c.args.desk.now = record { rows_open = c.holds_together.ensures.open; changes_open = c.holds_together.ensures.there; numbered = c.holds_together.ensures.numbered } in
    (gone_there laws c.args.desk.now holds c.args.table.now c.args.row (c.requires.goes c.if-not-goes.false)).numbered

pub set_row-requires-clause-content : goal.set_row-requires-clause-content
set_row-requires-clause-content c =
    let laws : RowLaws = record { there = c.rows_stand_by_tables.ensures.there; laid = c.laid_rows_answer.ensures.laid } in
    let holds : DeskLaws c.args.desk.now = record { rows_open = c.holds_together.ensures.open; changes_open = c.holds_together.ensures.there; numbered = c.holds_together.ensures.numbered } in
    inr (gone_there laws c.args.desk.now holds c.args.table.now c.args.row (c.requires.goes c.if-not-goes.false)).content
