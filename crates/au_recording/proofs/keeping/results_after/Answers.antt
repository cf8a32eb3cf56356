use Rattle.std.proofs.Common.{◌≡◌, rules, subst}
use Rattle.au_recording.specs.Keeping.{AreRising}
use Rattle.au_recording.proofs.Placed.{ordered_rising}
use Rattle.au_recording.proofs.keeping.results_after.Goals as goal

pub keep_all-requires-clause-session_order : goal.keep_all-requires-clause-session_order
keep_all-requires-clause-session_order c =
    let same : c.args.kept.now.session ≡ c.in_ok-session.session.items = search rules in subst AreRising same (ordered_rising c.args.kept.now.session c.requires.order.session)

pub keep_all-requires-clause-instance_order : goal.keep_all-requires-clause-instance_order
keep_all-requires-clause-instance_order c =
    let same : c.args.kept.now.instance ≡ c.in_ok-instance.instance.items = search rules in subst AreRising same (ordered_rising c.args.kept.now.instance c.requires.order.instance)
