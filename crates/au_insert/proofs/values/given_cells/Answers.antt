use Rattle.std.proofs.Common.{◌+◌, ◌++◌, ◌∙◌, drop, map, ap, subst}
use Rattle.std.specs.List.{AllByRecursion}
use Rattle.au_insert.specs.Inserting.{cell_of, value_overflows}
use Rattle.au_insert.specs.Inside.{IsFree}
use Rattle.au_insert.proofs.Cells.{next, none_yet, one_more, some_passes}
use Rattle.au_insert.proofs.values.given_cells.Goals as goal

pub returns-in-None : goal.returns-in-None
returns-in-None c =
    let over = rw c.in-None.is at c.in_ok-cell.ensures in
    some_passes (value_overflows c.args.session.now) c.args.values.now c.loop-value.value-index c.value-item.result c.loop-value-test.true c.value-item.is c.loop-value.invariant.small over

pub loop-value-preserved : goal.loop-value-preserved
loop-value-preserved c =
    let session = c.args.session.now in
    let values = c.args.values.now in
    let i = c.loop-value.value-index in
    let gives = rw c.in-Some.is at c.in_ok-cell.ensures in
    record {
      free = (subst (AllByRecursion IsFree) (next values i c.value-item.result c.loop-value-test.true c.value-item.is) c.loop-value.invariant.free).1;
      small = none_yet (value_overflows session) values i c.value-item.result c.loop-value-test.true c.value-item.is c.loop-value.invariant.small gives.0;
      cells = ap (λ cells. cells ++ map (cell_of session) (drop (i + 1) values)) c.in_ok-push-in-Some.ensures.items
          ∙ one_more (value_overflows session) values i c.value-item.result c.loop-value-test.true c.value-item.is (cell_of session) c.loop-value.cells.items c.in-Some.cell gives.1 c.loop-value.invariant.cells;
    }
