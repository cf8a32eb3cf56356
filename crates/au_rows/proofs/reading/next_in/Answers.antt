use Rattle.std.proofs.Common.{◌≡◌, ◌∙◌, ℕ, List, Option, None, Some, ap, length, map, sym, arith}
use Rattle.au_base.specs.declared.cell.Cell.{Cell}
use Rattle.au_base.specs.declared.numbers.RowNo.{RowNo}
use Rattle.std.specs.List.{list_all, position_or_len}
use Rattle.std.proofs.Common.{drop, true}
use Rattle.au_rows.specs.declared.place.Place.{Place}
use Rattle.au_rows.specs.Held.{lent, next_of, shown_after}
use Rattle.au_rows.specs.Kept.{held_of, place_from}
use Rattle.au_rows.specs.Order.{in_order}
use Rattle.au_rows.proofs.ViewLemmas.{drop-order, later-from, next-on, next_of-drop, next_of-past, step-from, step-order, step-past}
use Rattle.au_rows.proofs.reading.next_in.Goals as goal

pub loop-place-init : goal.loop-place-init
loop-place-init c =
    let places = c.args.places.now.listed in
    let F = place_from c.args.table c.args.after in
    let is = c.from-walk.ensures in
    record {
      order = ap in_order is ∙ drop-order places (position_or_len F places) c.requires;
      from = ap (list_all F) is ∙ later-from c.args.table c.args.after places c.requires;
      same = ap (λ (ps : List Place). next_of c.args.table c.args.after c.args.by (map (held_of c.args.versions.now.slots) ps)) is ∙ next_of-drop c.args.versions.now.slots c.args.table c.args.after c.args.by places;
    }

pub returns-then-place-table : goal.returns-then-place-table
returns-then-place-table c =
    let i = c.loop-place.invariant in
    let past = step-past c.args.table c.args.after c.loop-place.walk c.step.new.self c.in-Some.place c.in-Some.ensures i.order i.from c.if-place-table.true in
    sym (next_of-past c.args.versions.now.slots c.args.table c.args.after c.args.by c.loop-place.walk past) ∙ i.same

pub returns-in-Some-row_after : goal.returns-in-Some-row_after
returns-in-Some-row_after c =
    let slots = c.args.versions.now.slots in
    let shown : shown_after c.args.table c.args.after c.args.by (held_of slots c.in-Some.place) ≡ Some (lent c.in-Some-row_after.row) =
    ap (λ (t : ℕ). shown_after t c.args.after c.args.by (held_of slots c.in-Some.place)) (sym c.if-place-table.false) ∙ sym c.in-Some-row_after.ensures in
    sym (next-on slots c.args.table c.args.by c.loop-place.walk c.step.new.self c.in-Some.place c.in-Some.ensures c.args.after (Some (lent c.in-Some-row_after.row)) shown) ∙ c.loop-place.invariant.same

pub loop-place-preserved : goal.loop-place-preserved
loop-place-preserved c =
    let i = c.loop-place.invariant in
    let slots = c.args.versions.now.slots in
    let shown : shown_after c.args.table c.args.after c.args.by (held_of slots c.in-Some.place) ≡ None =
    ap (λ (t : ℕ). shown_after t c.args.after c.args.by (held_of slots c.in-Some.place)) (sym c.if-place-table.false) ∙ sym c.in_default-row_after.ensures in
    record {
      order = step-order c.args.table c.args.after c.loop-place.walk c.step.new.self c.in-Some.place c.in-Some.ensures i.order i.from;
      from = step-from c.args.table c.args.after c.loop-place.walk c.step.new.self c.in-Some.place c.in-Some.ensures i.order i.from;
      same = sym (next-on slots c.args.table c.args.by c.loop-place.walk c.step.new.self c.in-Some.place c.in-Some.ensures c.args.after None shown) ∙ i.same;
    }

pub loop-place-smaller : goal.loop-place-smaller
loop-place-smaller c = let one = ap length c.in-Some.ensures in omega arith

pub returns : goal.returns
returns c =
    sym (ap (λ (ps : List Place). next_of c.args.table c.args.after c.args.by (map (held_of c.args.versions.now.slots) ps)) c.in_default.ensures) ∙ c.loop-place.invariant.same
