use Rattle.std.proofs.Common.{arith}
use Rattle.au_rows.proofs.HousedLemmas.{housed-counts}
use Rattle.au_rows.proofs.places.Places.count_tables.Goals as goal

pub invariant_of-self : goal.invariant_of-self
invariant_of-self c =
    let i = c.self.inside in (
      housed-counts i.blocks.items i.fresh.items i.len i.room i.counts.items c.count_to.new.counts.items c.self.invariant.0 c.count_to.ensures.same,
      c.self.invariant.1,
      omega (arith, c.count_to.ensures.most, c.self.invariant.2),
    )
