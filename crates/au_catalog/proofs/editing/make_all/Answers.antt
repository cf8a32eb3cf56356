use Rattle.std.proofs.Common.{◌≡◌, ◌∙◌, List, ap, subst, sym}
use Rattle.std.specs.Vec.Iter.{into_iter_items}
use Rattle.au_catalog.specs.declared.catalog.Catalog.{Catalog}
use Rattle.au_catalog.specs.declared.edit.Edit.{Edit}
use Rattle.au_catalog.specs.Staging.{IsOrdered, edited_all}
use Rattle.au_catalog.specs.descent.Editing.{HasRoom, listed}
use Rattle.au_catalog.proofs.Edited.{edited_ordered}
use Rattle.au_catalog.proofs.RoomLeft.{room_first, room_left}
use Rattle.au_catalog.proofs.editing.make_all.Goals as goal

pub make-requires-clause-room : goal.make-requires-clause-room
make-requires-clause-room c =
    room_first c.in-Some.edit (into_iter_items c.next.new.self) c.loop-edit.lists (subst (λ (edits : List Edit). HasRoom edits c.loop-edit.lists) c.in-Some.ensures.items c.loop-edit.invariant.2)

pub loop-edit-preserved : goal.loop-edit-preserved
loop-edit-preserved c =
    let rest = into_iter_items c.next.new.self in
    let room = subst (λ (edits : List Edit). HasRoom edits c.loop-edit.lists) c.in-Some.ensures.items c.loop-edit.invariant.2 in (
      ap (λ (catalog : Catalog). edited_all rest catalog) c.make.ensures.after ∙ ap (λ (xs : List Edit). edited_all xs (listed c.loop-edit.lists)) (sym c.in-Some.ensures.items) ∙ c.loop-edit.invariant.0,
      subst (λ (catalog : Catalog). IsOrdered catalog) (sym c.make.ensures.after) (edited_ordered c.in-Some.edit (listed c.loop-edit.lists) c.loop-edit.invariant.1),
      room_left c.in-Some.edit rest c.loop-edit.lists c.make.new.lists room c.make.ensures.room,
    )
