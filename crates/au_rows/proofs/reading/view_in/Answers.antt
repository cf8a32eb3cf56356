use Rattle.std.proofs.Common.{◌≡◌, ◌∙◌, ◌++◌, List, [], ap, append-nil, append_assoc, drop, length, map, sym, true, arith}
use Rattle.std.specs.List.{list_all, position_or_len}
use Rattle.au_base.specs.declared.cell.Cell.{Cell}
use Rattle.au_base.specs.declared.numbers.RowNo.{RowNo}
use Rattle.au_rows.specs.declared.place.Place.{Place}
use Rattle.au_rows.specs.Held.{entry, lent, seen_by, view_of}
use Rattle.au_rows.specs.Kept.{held_of, place_from}
use Rattle.au_rows.specs.Order.{in_order}
use Rattle.au_rows.proofs.ViewLemmas.{drop-order, later-from, step-from, step-order, step-past, view-on, view_of-drop, view_of-past}
use Rattle.au_rows.proofs.reading.view_in.Goals as goal

pub loop-place-init : goal.loop-place-init
loop-place-init c =
    let places = c.args.places.now.listed in
    let slots = c.args.versions.now.slots in
    let F = place_from c.args.table (record { 0 = 0 }) in
    let is = c.from-walk.ensures in
    record {
      order = ap in_order is ∙ drop-order places (position_or_len F places) c.requires;
      from = ap (list_all F) is ∙ later-from c.args.table (record { 0 = 0 }) places c.requires;
      same = ap (λ (rows : List _). map lent rows ++ view_of c.args.table c.args.by (map (held_of slots) c.from-walk.result)) c.new-rows.ensures.items
          ∙ (ap (λ (ps : List Place). view_of c.args.table c.args.by (map (held_of slots) ps)) is ∙ view_of-drop slots c.args.table c.args.by places);
    }

pub loop-place-smaller : goal.loop-place-smaller
loop-place-smaller c = let one = ap length c.in-Some.ensures in omega arith

pub returns-then-place-table : goal.returns-then-place-table
returns-then-place-table c =
    let i = c.loop-place.invariant in
    let past = step-past c.args.table (record { 0 = 0 }) c.loop-place.walk c.step.new.self c.in-Some.place c.in-Some.ensures i.order i.from c.if-place-table.true in
    let none = view_of-past c.args.versions.now.slots c.args.table c.args.by c.loop-place.walk past in
    sym (ap (λ (rest : List (RowNo × List Cell)). map lent c.loop-place.rows.items ++ rest) none ∙ append-nil (map lent c.loop-place.rows.items)) ∙ i.same

pub loop-place-preserved : goal.loop-place-preserved
loop-place-preserved c =
    let i = c.loop-place.invariant in
    let slots = c.args.versions.now.slots in
    let zero_row : RowNo = record { 0 = 0 } in
    let rows = map lent c.loop-place.rows.items in
    let rest = view_of c.args.table c.args.by (map (held_of slots) c.step.new.self) in
    let here = entry c.in-Some.place.number (seen_by c.args.by (held_of slots c.in-Some.place)) in
    record {
      order = step-order c.args.table zero_row c.loop-place.walk c.step.new.self c.in-Some.place c.in-Some.ensures i.order i.from;
      from = step-from c.args.table zero_row c.loop-place.walk c.step.new.self c.in-Some.place c.in-Some.ensures i.order i.from;
      same = ap (λ (xs : List (RowNo × List Cell)). xs ++ rest) c.in_ok-add_seen.ensures
          ∙ (append_assoc rows here rest
          ∙ (ap (λ (xs : List (RowNo × List Cell)). rows ++ xs) (sym (view-on slots c.args.table c.args.by c.loop-place.walk c.step.new.self c.in-Some.place c.in-Some.ensures c.if-place-table.false)) ∙ i.same));
    }

pub returns : goal.returns
returns c =
    let none : view_of c.args.table c.args.by (map (held_of c.args.versions.now.slots) c.loop-place.walk) ≡ [] = ap (λ (ps : List Place). view_of c.args.table c.args.by (map (held_of c.args.versions.now.slots) ps)) c.in_default.ensures in
    sym (ap (λ (rest : List (RowNo × List Cell)). map lent c.loop-place.rows.items ++ rest) none ∙ append-nil (map lent c.loop-place.rows.items)) ∙ c.loop-place.invariant.same
