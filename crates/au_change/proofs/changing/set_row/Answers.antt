use Rattle.std.proofs.Common.{◌∙◌}
use Rattle.au_change.proofs.SetLemmas.{set_next, set_past}
use Rattle.au_change.proofs.changing.set_row.Goals as goal
use Rattle.au_change.proofs.changing.set_row.Goals.{in-Some+in_ok-cell_from+in_ok-push, in_default}

pub loop-at-preserved : goal.loop-at-preserved
loop-at-preserved c = elim c.match-cell_at.branch [
  | in-Some+in_ok-cell_from+in_ok-push w ↦
      set_next c.args.given.now c.args.sources.now c.args.cells.now c.loop-at.row c.match-cell_at.row _ c.loop-at.at _ w.in-Some.cell.now w.in_ok-cell_from.field-0 c.loop-at-test.true
      w.in-Some.ensures w.in_ok-cell_from.ensures (w.row-is ∙ w.in_ok-push.ensures.ok) c.loop-at.invariant
  | in_default w ↦
      set_past c.args.given.now c.args.sources.now c.args.cells.now c.loop-at.row c.match-cell_at.row _ c.loop-at.at w.in_default.ensures w.row-is c.loop-at.invariant
]
