use Rattle.std.proofs.Common.{List, ◌∙◌, ap, subst, sym}
use Rattle.std.specs.Vec.Iter.{into_iter_items}
use Rattle.au_grants.specs.declared.change.GrantChange.{GrantChange}
use Rattle.au_grants.specs.Changing.{applied_all}
use Rattle.au_grants.specs.Rights.{Grants}
use Rattle.au_grants.specs.descent.Growing.{HasGrowth, grown}
use Rattle.au_grants.proofs.Growths.{growth_first, growth_left}
use Rattle.au_grants.proofs.granting.make_all_growing.Goals as goal

pub make_growing-requires-clause-room : goal.make_growing-requires-clause-room
make_growing-requires-clause-room c =
    growth_first c.in-Some.change (into_iter_items c.next.new.self) c.loop-change.lists (subst (λ (xs : List GrantChange). HasGrowth xs c.loop-change.lists) c.in-Some.ensures.items c.loop-change.invariant.2)

pub loop-change-preserved : goal.loop-change-preserved
loop-change-preserved c =
    let rest = into_iter_items c.next.new.self in
    let room = subst (λ (xs : List GrantChange). HasGrowth xs c.loop-change.lists) c.in-Some.ensures.items c.loop-change.invariant.2 in (
      ap (λ (grants : Grants). applied_all rest grants) c.make_growing.ensures.after ∙ ap (λ (xs : List GrantChange). applied_all xs (grown c.loop-change.lists)) (sym c.in-Some.ensures.items) ∙ c.loop-change.invariant.0,
      c.make_growing.ensures.ready,
      growth_left c.in-Some.change rest c.loop-change.lists c.make_growing.new.lists room c.make_growing.ensures.after c.make_growing.ensures.room,
    )
