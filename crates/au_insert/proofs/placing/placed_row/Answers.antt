use Rattle.std.proofs.Common.{◌≡◌, ◌∙◌, true, false, inl, inr, List, ap, sym, subst}
use Rattle.std.specs.Prelude.{None}
use Rattle.au_base.specs.declared.cell.Cell.{Cell}
use Rattle.au_insert.specs.Inserting.{room_refusal}
use Rattle.au_insert.specs.Inside.{IsPlacedRow, row_inserted}
use Rattle.au_modify.specs.Keys.{IsLockedKey, IsPresentKey}
use Rattle.au_world.specs.Sights.{sight_of}
use Rattle.au_insert.proofs.Comings.{past_code}
use Rattle.au_insert.proofs.Standing.{if_ok}
use Rattle.au_insert.proofs.placing.placed_row.Goals as goal

pub returns-then-branch-2 : goal.returns-then-branch-2
returns-then-branch-2 c =
    let client = c.args.client in
    let table = c.args.table.now in
    let sight = sight_of c.args.world.now client in
    let count = c.numbers-count.result.0 in
    let last = c.numbers-count.result.1 in
    let room : room_refusal sight.own count last ≡ None = sym (ap (λ own. room_refusal own count last) (c.changes.ensures.open c.requires.laid)) ∙ sym c.room_code.ensures ∙ c.in_default.is in
    let unlocked : ¬ IsLockedKey sight client table c.args.row.cells = λ locked. (
    let e : true ≡ false = sym (c.in_ok-is_locked_at.ensures.1 (subst (λ (cells : List Cell). IsLockedKey sight client table cells) (sym c.as_slice-cells.ensures) locked)) ∙ c.if-branch.false in cc
    ) in
    let present : IsPresentKey sight table c.args.row.cells = subst (λ (cells : List Cell). IsPresentKey sight table cells) c.as_slice-cells.ensures (c.in_ok-is_present_at.ensures.0 c.if-branch-2.true) in
    record {
      count = count;
      last = last;
      numbers = c.numbers-count.ensures;
      comes = past_code (room_refusal sight.own count last) _ c.refused-then-branch-2.result room (inr (unlocked, inl (present, c.refused-then-branch-2.ensures)));
    }

pub returns : goal.returns
returns c =
    let client = c.args.client in
    let table = c.args.table.now in
    let sight = sight_of c.args.world.now client in
    let count = c.numbers-count.result.0 in
    let last = c.numbers-count.result.1 in
    let room : room_refusal sight.own count last ≡ None = sym (ap (λ own. room_refusal own count last) (c.changes.ensures.open c.requires.laid)) ∙ sym c.room_code.ensures ∙ c.in_default.is in
    let unlocked : ¬ IsLockedKey sight client table c.args.row.cells = λ locked. (
    let e : true ≡ false = sym (c.in_ok-is_locked_at.ensures.1 (subst (λ (cells : List Cell). IsLockedKey sight client table cells) (sym c.as_slice-cells.ensures) locked)) ∙ c.if-branch.false in cc
    ) in
    let absent : ¬ IsPresentKey sight table c.args.row.cells = λ present. (
    let e : true ≡ false = sym (c.in_ok-is_present_at.ensures.1 (subst (λ (cells : List Cell). IsPresentKey sight table cells) (sym c.as_slice-cells.ensures) present)) ∙ c.if-branch-2.false in cc
    ) in
    if_ok (λ done. done ≡ row_inserted table last c.args.row) (IsPlacedRow sight client table c.args.row)
    (λ done is. record {
      count = count;
      last = last;
      numbers = c.numbers-count.ensures;
      comes = past_code (room_refusal sight.own count last) _ done room (inr (unlocked, inr (absent, is)));
    })
    c.inserted.result c.inserted.ensures
