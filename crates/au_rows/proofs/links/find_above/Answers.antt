use Rattle.std.proofs.Common.{◌∙◌, sym, arith}
use Rattle.au_rows.proofs.LaneLemmas.{below-there, none-below, own-there, under-next, under-top}
use Rattle.au_rows.proofs.LinkLemmas.{there-within}
use Rattle.au_rows.proofs.links.find_above.Goals as goal

pub loop-turn-init : goal.loop-turn-init
loop-turn-init c =
    let t = c.requires.linked.1.tops_there _ c.args.top c.requires.linked.2 in
    let within = t.0 in
    record {
      upper = t.1;
      there = t.2;
      lane = t.3;
      under = under-top c.args.by c.args.entries.now c.requires.linked.0 c.requires.linked.1 c.args.top c.requires.linked.2 c.requires.other;
      falls = omega arith;
    }

pub is_own_at-requires : goal.is_own_at-requires
is_own_at-requires c =
    let i = c.loop-turn.invariant in
    let names = sym (below-there c.args.entries.now c.loop-turn.above i.upper c.below_of.result i.there c.below_of.ensures) ∙ c.in-Some.is in
    let t = c.requires.linked.1.belows_there c.loop-turn.above c.in-Some.here i.upper (there-within c.args.entries.now c.loop-turn.above i.upper i.there) i.there names in
    let low = t.0 in
    let within = there-within c.args.entries.now c.loop-turn.above i.upper i.there in
    omega arith

pub loop-turn-preserved : goal.loop-turn-preserved
loop-turn-preserved c =
    let i = c.loop-turn.invariant in
    let names = sym (below-there c.args.entries.now c.loop-turn.above i.upper c.below_of.result i.there c.below_of.ensures) ∙ c.in-Some.is in
    let within = there-within c.args.entries.now c.loop-turn.above i.upper i.there in
    let t = c.requires.linked.1.belows_there c.loop-turn.above c.in-Some.here i.upper within i.there names in
    let low = t.0 in
    let falls = i.falls in
    record {
      upper = t.1;
      there = t.2;
      lane = t.3 ∙ i.lane;
      under = under-next c.args.by c.args.entries.now c.requires.linked.0 c.requires.linked.1 c.loop-turn.above c.in-Some.here i.upper i.there i.lane names
          (sym c.is_own_at.ensures ∙ c.if-is_own_at.false) i.under;
      falls = omega arith;
    }

pub returns-then-is_own_at-clause-some : goal.returns-then-is_own_at-clause-some
returns-then-is_own_at-clause-some c =
    let i = c.loop-turn.invariant in
    let own = own-there c.args.by c.args.entries.now c.in-Some.here (sym c.is_own_at.ensures ∙ c.if-is_own_at.true) in
    record {
      upper = i.upper;
      here = c.in-Some.here;
      lower = own.0;
      there = i.there;
      names = sym (below-there c.args.entries.now c.loop-turn.above i.upper c.below_of.result i.there c.below_of.ensures) ∙ c.in-Some.is;
      below = own.1;
      own = own.2;
    }

pub returns-in-None-clause-none : goal.returns-in-None-clause-none
returns-in-None-clause-none c =
    let i = c.loop-turn.invariant in
    none-below c.args.by c.args.entries.now c.requires.linked.0 c.requires.linked.1 c.loop-turn.above i.upper i.there i.lane
    (sym (below-there c.args.entries.now c.loop-turn.above i.upper c.below_of.result i.there c.below_of.ensures) ∙ c.in-None.is) i.under
