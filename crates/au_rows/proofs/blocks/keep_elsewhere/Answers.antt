use Rattle.std.proofs.Common.{◌≡◌, ◌∙◌, ◌+◌, ◌-◌, ◌<◌, ℕ, suc, List, true, ap, ap₂, drop, length, length-take, refl, subst, sym, take, arith}
use Rattle.std.specs.List.{list_all}
use Rattle.au_rows.specs.declared.place.Place.{Place}
use Rattle.au_rows.specs.Blocks.{goes_past, joined, place_earlier}
use Rattle.au_rows.specs.Kept.{place_elsewhere}
use Rattle.au_rows.proofs.BlockLemmas.{kept-back, take-less}
use Rattle.au_rows.proofs.SpanLemmas.{behind-kept, span-kept}
use Rattle.au_rows.proofs.blocks.keep_elsewhere.Goals as goal

pub loop-at-init : goal.loop-at-init
loop-at-init c =
    let home = c.home_of-last.ensures.home in
    let old = c.args.blocks.now.items in
    let last = c.home_of-last.result in
    let next : suc last ≡ last + 1 = omega arith in
    let behind : goes_past (c.args.table + 1) (record { 0 = 0 }) (joined (drop (last + 1) old)) ≡ true =
    ap₂ (λ (k : ℕ) (bs : List (List Place)). goes_past (c.args.table + 1) (record { 0 = 0 }) (joined (drop k bs))) (sym next) (sym c.deref-2.ensures.value) ∙ home.behind in
    let within : last < length old = subst (λ (bs : List (List Place)). last < length bs) c.deref-2.ensures.value home.within in
    record {
      most = omega (arith, within);
      within = omega (arith, within);
      front = refl;
      back = behind-kept c.args.table old (c.home_of-last.result + 1) c.requires.order behind;
      some = c.requires.some;
      filled = c.requires.filled;
      excess = omega arith;
      len = omega arith;
      capacity = refl;
    }

pub loop-at-preserved : goal.loop-at-preserved
loop-at-preserved c =
    let i = c.loop-at.invariant in
    let at = c.loop-at.at - 1 in
    let blocks = c.loop-at.blocks.items in
    let old = c.args.blocks.now.items in
    let new = c.keep_at.new.blocks.items in
    let next : suc at ≡ c.loop-at.at = omega (arith, c.loop-at-test.true) in
    let within : at < length old = omega (arith, next, i.within) in
    record {
      most = omega (arith, next, i.most, ap length c.keep_at.ensures.front, length-take at new, length-take at blocks);
      within = omega (arith, i.within);
      front = c.keep_at.ensures.front ∙ take-less at c.loop-at.at blocks old (omega arith) i.front;
      back = kept-back (place_elsewhere c.args.table) old blocks new at c.loop-at.at next within i.front c.keep_at.ensures.back i.back;
      some = c.keep_at.ensures.some;
      filled = c.keep_at.ensures.filled;
      excess = omega (arith, c.keep_at.ensures.excess, i.excess);
      len = omega (arith, c.keep_at.ensures.len, i.len);
      capacity = c.keep_at.ensures.capacity ∙ i.capacity;
    }

pub returns-clause-places : goal.returns-clause-places
returns-clause-places c =
    let i = c.loop-at.invariant in
    let first = c.home_of-first.result in
    let old = c.args.blocks.now.items in
    let before : list_all (place_earlier c.args.table (record { 0 = 0 })) (joined (take first old)) ≡ true =
    ap (λ (bs : List (List Place)). list_all (place_earlier c.args.table (record { 0 = 0 })) (joined (take first bs))) (sym c.deref.ensures.value) ∙ c.home_of-first.ensures.home.before in
    span-kept c.args.table old c.loop-at.blocks.items c.loop-at.at first (omega (arith, c.loop-at-test.false)) before i.front i.back
