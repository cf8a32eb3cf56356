use Rattle.std.proofs.Common.{◌≡◌, ◌∙◌, true, false, ◌+◌, drop, refl, ap, sym, subst}
use Rattle.au_query.specs.Combos.{lent, lines}
use Rattle.au_world.specs.Sights.{sight_of}
use Rattle.au_choose.specs.Choosing.{IsSomeLocked}
use Rattle.au_choose.proofs.Locks.{here_locked, later_locked, not_here}
use Rattle.au_choose.proofs.Rows.{at_hand}
use Rattle.au_choose.proofs.choosing.is_some_locked.Goals as goal

differs : true ≡ false → ⊥
differs is = cc

pub returns-then-locked_row : goal.returns-then-locked_row
returns-then-locked_row c =
    let sight = sight_of c.args.world.now c.args.client in
    let some = IsSomeLocked sight c.args.client c.args.table.now in
    let rows = c.args.rows.now in
    let item = c.loop-number-item.result in
    let whole = ap lines (at_hand rows c.loop-number.number-index item c.loop-number-test.true c.loop-number-item.is) in
    let here = here_locked sight c.args.client c.args.table.now (lent item) (lines (drop (c.loop-number.number-index + 1) rows)) (c.locked_row.ensures.0 c.if-locked_row.true) in
    (λ is. c.loop-number.invariant.0 (subst some (sym whole) here), λ found. refl)

pub loop-number-preserved : goal.loop-number-preserved
loop-number-preserved c =
    let sight = sight_of c.args.world.now c.args.client in
    let some = IsSomeLocked sight c.args.client c.args.table.now in
    let rows = c.args.rows.now in
    let item = c.loop-number-item.result in
    let rest = lines (drop (c.loop-number.number-index + 1) rows) in
    let whole = ap lines (at_hand rows c.loop-number.number-index item c.loop-number-test.true c.loop-number-item.is) in (
      λ later. c.loop-number.invariant.0 (subst some (sym whole) (later_locked sight c.args.client c.args.table.now (lent item) rest later)),
      λ any. not_here sight c.args.client c.args.table.now (lent item) rest (λ locked. differs (sym (c.locked_row.ensures.1 locked) ∙ c.if-locked_row.false)) (subst some whole (c.loop-number.invariant.1 any)),
    )
