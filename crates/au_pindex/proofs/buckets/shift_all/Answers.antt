use Rattle.std.proofs.Common.{rules}
use Rattle.au_pindex.specs.descent.Shifting.{came_from}
use Rattle.au_pindex.proofs.Shifted.{IsShifted, become, shifted_as, shifted_places, shifted_room}
use Rattle.au_pindex.proofs.buckets.shift_all.Goals as goal

pub returns-clause-places : goal.returns-clause-places
returns-clause-places g c key at =
    shifted_places (came_from c.args.shift.now) _ _ at (become _ (IsShifted (came_from c.args.shift.now)) _ (λ k v b w f' h. let met = h.called.met.0 in (met.0, shifted_as (came_from c.args.shift.now) _ _ _ _ h.shows.1 h.leaves (met.1, met.2), search rules)) _ _ _ c.retain.ensures.filtered)

pub returns-clause-rooms : goal.returns-clause-rooms
returns-clause-rooms g c key =
    shifted_room (came_from c.args.shift.now) _ _ (become _ (IsShifted (came_from c.args.shift.now)) _ (λ k v b w f' h. let met = h.called.met.0 in (met.0, shifted_as (came_from c.args.shift.now) _ _ _ _ h.shows.1 h.leaves (met.1, met.2), search rules)) _ _ _ c.retain.ensures.filtered)
