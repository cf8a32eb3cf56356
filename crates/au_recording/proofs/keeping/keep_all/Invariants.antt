use Rattle.std.proofs.Common.{◌≡◌, length}
use Rattle.au_audit.specs.Conditions.{of_evaluation, with_results}
use Rattle.au_entries.specs.declared.policy.Evaluate.TheVariants.{Session, Instance}
use Rattle.au_recording.specs.Keeping.{AreRising}
use Rattle.au_recording.proofs.keeping.keep_all.Given as goal

abbrev pub invariant-loop-last : goal.invariant-loop-last
invariant-loop-last l =
    (with_results (of_evaluation Session l.policies l.rest) l.session.items ≡ with_results (of_evaluation Session l.policies l.initial.rest) l.initial.session.items)
    × (with_results (of_evaluation Instance l.policies l.rest) l.instance.items ≡ with_results (of_evaluation Instance l.policies l.initial.rest) l.initial.instance.items)
    × AreRising l.session.items × AreRising l.instance.items

abbrev pub decreases-loop-last : goal.decreases-loop-last
decreases-loop-last l = length l.rest
