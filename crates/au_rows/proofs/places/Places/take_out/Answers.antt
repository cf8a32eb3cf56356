use Rattle.std.proofs.Common.{◌-◌, ap, get_or, length, arith}
use Rattle.std.proofs.lemmas.List.{length-set}
use Rattle.au_rows.proofs.HousedLemmas.{housed-out, some-there}
use Rattle.au_rows.proofs.places.Places.take_out.Goals as goal

pub invariant_of-self : goal.invariant_of-self
invariant_of-self c =
    let there = rw (← c.self.view_is) at c.requires in (
      housed-out c.self.inside.blocks.items c.self.inside.fresh.items c.self.inside.len c.self.inside.room c.self.inside.counts.items c.self.invariant.0 c.take_from.new.blocks.items c.count_less.new.counts.items c.args.table c.args.number
          there c.take_from.ensures.places c.take_from.ensures.some c.take_from.ensures.filled c.take_from.ensures.excess c.count_less.ensures,
      omega (arith, c.take_from.ensures.len, c.take_from.ensures.capacity, c.self.invariant.1),
      omega (arith, ap length c.count_less.ensures, length-set c.self.inside.counts.items c.args.table (get_or c.self.inside.counts.items c.args.table 0 - 1), c.self.invariant.2),
    )
