use Rattle.std.proofs.Common.{◌∙◌}
use Rattle.au_entries.specs.declared.policy.Evaluate.TheVariants.{Session, Instance}
use Rattle.au_recording.proofs.Placed.{kept_last, kept_rising}
use Rattle.au_recording.proofs.keeping.keep_all.Goals as goal

pub loop-last-preserved : goal.loop-last-preserved
loop-last-preserved c =
    let at = c.loop-last.invariant in
    let done = c.in_ok-keep.ensures in (
      kept_last Session c.args.policies.now c.pop.new.self c.loop-last.rest c.in-Some.last c.loop-last.session.items c.keep.new.session.items _ c.in-Some.ensures (c.evaluation_of-evaluation.ensures Session) done.session ∙ at.0,
      kept_last Instance c.args.policies.now c.pop.new.self c.loop-last.rest c.in-Some.last c.loop-last.instance.items c.keep.new.instance.items _ c.in-Some.ensures (c.evaluation_of-evaluation.ensures Instance) done.instance ∙ at.1,
      kept_rising c.in-Some.last c.loop-last.session.items c.keep.new.session.items _ done.session at.2,
      kept_rising c.in-Some.last c.loop-last.instance.items c.keep.new.instance.items _ done.instance at.3,
    )
