use Rattle.std.proofs.Common.{◌∙◌}
use Rattle.au_main.proofs.Giving.{HasGiven-more}
use Rattle.au_main.proofs.give.give_all.Goals as goal

pub loop-rest-preserved : goal.loop-rest-preserved
loop-rest-preserved g c = record {
  given = rw c.split_at.ensures.back (HasGiven-more _ _ _ _ _ c.in-Bytes.count c.loop-rest.invariant.given c.in-Bytes.ensures.bytes.2);
  well = c.in-Bytes.ensures.cause ∙ c.loop-rest.invariant.well;
}
