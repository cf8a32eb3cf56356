use Rattle.std.proofs.Common.{◌∙◌, subst, sym, List, ℕ}
use Rattle.au_session.proofs.Giving.{HasGiven, given_more}
use Rattle.au_session.proofs.streams.give_all.Goals as goal

pub loop-rest-preserved : goal.loop-rest-preserved
loop-rest-preserved g c =
    let s = g.K.Stream in
    record {
      given = subst (λ (xs : List ℕ). HasGiven (s.given c.args.link.now) (s.given c.give.new.self) c.args.bytes.now xs) (sym c.split_at.ensures.back)
          (given_more (s.given c.args.link.now) (s.given c.loop-rest.link) (s.given c.give.new.self) c.args.bytes.now c.loop-rest.rest.now c.in-Bytes.count c.loop-rest.invariant.given c.in-Bytes.ensures.bytes.2);
      left = c.give.ensures.left ∙ c.loop-rest.invariant.left;
      taken = c.give.ensures.taken ∙ c.loop-rest.invariant.taken;
      well = c.in-Bytes.ensures.cause ∙ c.loop-rest.invariant.well;
    }
