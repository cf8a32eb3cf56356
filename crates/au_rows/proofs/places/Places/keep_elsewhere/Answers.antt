use Rattle.std.proofs.Common.{◌≡◌, ◌∙◌, ◌-◌, ℕ, List, ap, get_or, length, subst, sym, arith}
use Rattle.std.proofs.lemmas.List.{length-set}
use Rattle.au_rows.specs.Blocks.{Housed}
use Rattle.au_rows.proofs.HousedLemmas.{housed-elsewhere}
use Rattle.au_rows.proofs.places.Places.keep_elsewhere.Goals as goal

pub invariant_of-self : goal.invariant_of-self
invariant_of-self c =
    let i = c.self.inside in
    let count : c.count_of.result ≡ get_or i.counts.items c.args.table 0 = c.count_of.ensures ∙ ap (λ (cs : List ℕ). get_or cs c.args.table 0) c.deref.ensures.value in (
      subst (λ (k : ℕ). Housed c.keep_elsewhere.new.blocks.items i.fresh.items (i.len - k) i.room c.count_none.new.counts.items) (sym count)
          (housed-elsewhere i.blocks.items i.fresh.items i.len i.room i.counts.items c.self.invariant.0 c.keep_elsewhere.new.blocks.items c.count_none.new.counts.items c.args.table
          c.keep_elsewhere.ensures.places c.keep_elsewhere.ensures.some c.keep_elsewhere.ensures.filled c.keep_elsewhere.ensures.excess c.count_none.ensures),
      omega (arith, c.keep_elsewhere.ensures.len, c.keep_elsewhere.ensures.capacity, c.self.invariant.1),
      omega (arith, ap length c.count_none.ensures, length-set i.counts.items c.args.table 0, c.self.invariant.2),
    )
