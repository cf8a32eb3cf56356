use Rattle.au_pindex.proofs.Reserved.{adds_from}
use Rattle.au_pindex.proofs.bucketed.add_policy.Goals as goal

pub returns : goal.returns
returns c = adds_from c.args.policy.now c.args.place c.args.buckets.now c.reserve_policy.new.buckets c.join_policy.new.buckets c.reserve_policy.ensures.stays c.join_policy.ensures
