use Rattle.std.proofs.Common.{◌≡◌, ◌+◌, ◌*◌, ◌≤◌, ◌<◌, ◌^◌, Option, None, ap, get_or, length, arith}
use Rattle.std.proofs.lemmas.List.{length-set}
use Rattle.std.specs.Prelude.{IsNone}
use Rattle.au_rows.specs.declared.place.Place.{Place}
use Rattle.au_rows.specs.Blocks.{all_excess, joined}
use Rattle.au_rows.specs.Kept.{place_in}
use Rattle.au_rows.proofs.HousedLemmas.{count-most, housed-new, is-none}
use Rattle.au_rows.proofs.places.Places.put_new.Goals as goal

pub count_more-requires-clause-most : goal.count_more-requires-clause-most
count_more-requires-clause-most c =
    let room = rw (← c.self.view_is) at c.requires.room in
    omega (arith, count-most c.self.inside.blocks.items c.self.inside.fresh.items c.self.inside.len c.self.inside.room c.self.inside.counts.items c.self.invariant.0 c.args.place.table, c.self.invariant.0.bounded, room)

pub invariant_of-self : goal.invariant_of-self
invariant_of-self c =
    let new = rw (← c.self.view_is) at c.requires.new in
    let room = rw (← c.self.view_is) at c.requires.room in
    let counted = rw (← c.self.view_is) at c.requires.counted in
    let paid : all_excess c.put_new.new.blocks.items + 128 * length c.self.inside.fresh.items ≤ all_excess c.self.inside.blocks.items + 128 * length c.put_new.new.fresh.items + 1 =
    omega (arith, c.put_new.ensures.paid, c.put_new.new.fresh.ok.0, c.self.inside.fresh.ok.0) in (
      housed-new c.self.inside.blocks.items c.self.inside.fresh.items c.self.inside.len c.self.inside.room c.self.inside.counts.items c.self.invariant.0
          c.put_new.new.blocks.items c.put_new.new.fresh.items c.count_more.new.counts.items c.args.place (is-none _ new) c.put_new.ensures.places c.put_new.ensures.some c.put_new.ensures.filled c.put_new.ensures.vacant paid
          room c.requires.numbered counted c.count_more.ensures,
      c.put_new.ensures.fits,
      omega (arith, ap length c.count_more.ensures, length-set c.self.inside.counts.items c.args.place.table (get_or c.self.inside.counts.items c.args.place.table 0 + 1), c.self.invariant.2),
    )
