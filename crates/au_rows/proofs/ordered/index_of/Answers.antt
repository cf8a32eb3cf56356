use Rattle.std.proofs.Common.{◌≡◌, ◌+◌, ◌-◌, ◌/◌, ◌<◌, ◌≤◌, length, get_or, true, false, None, sym, subst, arith}
use Rattle.std.proofs.lemmas.List.Sums.{position_or_len_is}
use Rattle.std.proofs.lemmas.Grind.{common_steps}
use Rattle.au_rows.specs.declared.place.Place.{Place}
use Rattle.au_rows.specs.Kept.{place_from}
use Rattle.au_rows.proofs.OrderLemmas.{not_from_before}
use Rattle.au_rows.proofs.ordered.index_of.Goals as goal

pub loop-low-preserved : goal.loop-low-preserved
loop-low-preserved c =
    let mid = c.loop-low.low + (c.loop-low.high - c.loop-low.low) / 2 in
    let within : mid < length c.args.places.now = omega arith in
    record {
      near = omega arith;
      within = c.loop-low.invariant.within;
      below = λ k d lt.
          let at : place_from c.args.table c.args.number (get_or c.args.places.now mid d) ≡ false = grind (arith, common_steps) in
          let le : k ≤ mid = omega arith in
          not_from_before c.args.table c.args.number c.args.places.now k mid d c.requires le within at;
      above = c.loop-low.invariant.above;
    }

pub returns-clause-index : goal.returns-clause-index
returns-clause-index c =
    let d : Place = record { table = 0; number = record { 0 = 0 }; settled = None; owner = None; newest = None } in
    let same : c.loop-low.high ≡ c.loop-low.low = omega arith in
    let above : c.loop-low.low < length c.args.places.now → place_from c.args.table c.args.number (get_or c.args.places.now c.loop-low.low d) ≡ true =
    subst (λ h. h < length c.args.places.now → place_from c.args.table c.args.number (get_or c.args.places.now h d) ≡ true) same (c.loop-low.invariant.above d) in
    sym (position_or_len_is (place_from c.args.table c.args.number) c.args.places.now c.loop-low.low d (omega arith) (λ k lt. c.loop-low.invariant.below k d lt) above)
