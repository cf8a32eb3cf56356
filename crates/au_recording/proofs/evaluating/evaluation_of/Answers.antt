use Rattle.std.proofs.Common.{◌∙◌, ap, sym}
use Rattle.au_recording.specs.Keeping.{is_named_so}
use Rattle.au_recording.proofs.Evaluated.{none_past, stands_at}
use Rattle.au_recording.proofs.evaluating.evaluation_of.Goals as goal

pub returns-then-place-policies : goal.returns-then-place-policies
returns-then-place-policies c evaluate =
    stands_at evaluate c.args.name.now c.args.policies.now _ c.index-policies-place.result c.requires.order c.policy_place-place.ensures.place c.if-place-policies.true
    ∙ ap (is_named_so evaluate c.args.name.now) (sym c.index-policies-place.is) ∙ c.named_evaluation.ensures evaluate

pub returns : goal.returns
returns c evaluate = none_past evaluate c.args.name.now c.args.policies.now _ c.policy_place-place.ensures.place c.if-place-policies.false
