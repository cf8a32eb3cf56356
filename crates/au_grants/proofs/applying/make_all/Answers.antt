use Rattle.std.proofs.Common.{List, ◌∙◌, ap, subst, sym}
use Rattle.std.specs.Vec.Iter.{into_iter_items}
use Rattle.au_grants.specs.declared.change.GrantChange.{GrantChange}
use Rattle.au_grants.specs.Changing.{applied_all}
use Rattle.au_grants.specs.Order.{AreInOrder}
use Rattle.au_grants.specs.Rights.{Grants}
use Rattle.au_grants.specs.descent.Editing.{HasRoom, listed}
use Rattle.au_grants.proofs.Ordered.{applied_in_order}
use Rattle.au_grants.proofs.Rooms.{room_first, room_left}
use Rattle.au_grants.proofs.applying.make_all.Goals as goal

pub make-requires-clause-room : goal.make-requires-clause-room
make-requires-clause-room c =
    room_first c.in-Some.change (into_iter_items c.next.new.self) c.loop-change.lists (subst (λ (xs : List GrantChange). HasRoom xs c.loop-change.lists) c.in-Some.ensures.items c.loop-change.invariant.2)

pub loop-change-preserved : goal.loop-change-preserved
loop-change-preserved c =
    let rest = into_iter_items c.next.new.self in
    let room = subst (λ (xs : List GrantChange). HasRoom xs c.loop-change.lists) c.in-Some.ensures.items c.loop-change.invariant.2 in (
      ap (λ (grants : Grants). applied_all rest grants) c.make.ensures.after ∙ ap (λ (xs : List GrantChange). applied_all xs (listed c.loop-change.lists)) (sym c.in-Some.ensures.items) ∙ c.loop-change.invariant.0,
      subst (λ (grants : Grants). AreInOrder grants) (sym c.make.ensures.after) (applied_in_order _ c.in-Some.change c.loop-change.invariant.1),
      room_left c.in-Some.change rest c.loop-change.lists c.make.new.lists room c.make.ensures.after c.make.ensures.capacity,
    )
