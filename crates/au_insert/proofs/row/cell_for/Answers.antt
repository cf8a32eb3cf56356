use Rattle.std.proofs.Common.{◌∙◌, sym, arith}
use Rattle.au_insert.proofs.Cells.{all_given, another}
use Rattle.au_insert.proofs.row.cell_for.Goals as goal
use Rattle.au_insert.proofs.row.cell_for.Goals.{else-place-given-via-then-place-given+else-eq, else-place-given-via-else-place-given}

pub loop-place-preserved : goal.loop-place-preserved
loop-place-preserved c = elim c.else-place-given.branch [
  | else-place-given-via-then-place-given+else-eq w ↦
      sym (another c.args.column.now c.args.names.now c.args.given.now c.loop-place.place c.index-names-place.result (omega arith) c.index-names-place.is w.if-place-given.true (sym w.eq.ensures ∙ w.if-eq.false))
      ∙ c.loop-place.invariant
  | else-place-given-via-else-place-given w ↦
      sym (all_given c.args.column.now c.args.names.now c.args.given.now c.loop-place.place w.if-place-given.false (omega (arith, w.if-place-given.false))) ∙ c.loop-place.invariant
]
