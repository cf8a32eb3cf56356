use Rattle.std.proofs.Common.{◌<◌, length, arith}
use Rattle.au_rows.proofs.HousedLemmas.{housed-over}
use Rattle.au_rows.proofs.places.Places.put_over.Goals as goal

pub invariant_of-self : goal.invariant_of-self
invariant_of-self c =
    let there = rw (← c.self.view_is) at c.requires in
    let some : 0 < length c.put_over.new.blocks.items = omega (arith, c.put_over.new.blocks.ok.0, c.self.inside.blocks.ok.0, c.put_over.ensures.len, c.self.invariant.0.some) in (
      housed-over c.self.inside.blocks.items c.self.inside.fresh.items c.self.inside.len c.self.inside.room c.self.inside.counts.items c.self.invariant.0 c.put_over.new.blocks.items c.args.place
          there c.put_over.ensures.places some c.put_over.ensures.filled c.put_over.ensures.excess,
      omega (arith, c.put_over.ensures.len, c.put_over.ensures.capacity, c.self.invariant.1),
      c.self.invariant.2,
    )
