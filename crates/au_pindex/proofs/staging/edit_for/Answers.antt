use Rattle.std.proofs.Common.{◌∙◌, ap, length}
use Rattle.std.proofs.lemmas.Result.{IfOk-weaker}
use Rattle.au_pindex.specs.Indexing.{condition_of}
use Rattle.au_pindex.proofs.Afterwards.{keeps_itself, policy_leads, policy_texts, policy_truth, whole}
use Rattle.au_pindex.proofs.Laid.{length_mapped}
use Rattle.au_pindex.proofs.staging.edit_for.Goals as goal

pub drop_policy-requires : goal.drop_policy-requires
drop_policy-requires c = record {
  catalog = c.requires.catalog;
  conditions = ap length c.requires.index.conditions ∙ length_mapped condition_of c.args.catalog.now.policies;
}

pub put_policy-requires : goal.put_policy-requires
put_policy-requires c = record {
  catalog = c.requires.catalog;
  conditions = ap length c.requires.index.conditions ∙ length_mapped condition_of c.args.catalog.now.policies;
}

pub resolved_when-requires : goal.resolved_when-requires
resolved_when-requires c =
    let p = c.in-Policy in
    let known = c.requires.after in (
      known.0,
      policy_texts p.name p.privileges p.actions p.roles p.when c.args.change.now p.is known.0 c.args.trees.now known.1,
      policy_truth p.name p.privileges p.actions p.roles p.when c.args.change.now p.is known.0 c.args.catalog.now known.2,
    )

pub returns-in_ok-condition-in-Policy-clause-leads : goal.returns-in_ok-condition-in-Policy-clause-leads
returns-in_ok-condition-in-Policy-clause-leads c =
    let p = c.in-Policy in
    IfOk-weaker c.put_policy.result _ _
    (λ edit said tree read.
    policy_leads p.name p.privileges p.actions p.roles p.when c.args.change.now p.is tree c.args.catalog.now.enabled c.args.catalog.now.policies edit
    (said (whole p.name p.privileges p.actions p.roles p.when c.args.change.now p.is tree) c.in_ok-policy-in-Policy.ensures
    (c.in_ok-condition-in-Policy.ensures tree (policy_texts p.name p.privileges p.actions p.roles p.when c.args.change.now p.is tree c.args.trees.now read))))
    c.put_policy.ensures.leads

pub returns-in_default-clause-leads : goal.returns-in_default-clause-leads
returns-in_default-clause-leads c = λ tree read. c.unaffected.ensures.leads tree c.args.catalog.now.enabled c.args.catalog.now.policies

pub returns-in_default-clause-fits : goal.returns-in_default-clause-fits
returns-in_default-clause-fits c = c.unaffected.ensures.fits c.args.index.now

pub returns-in_default-clause-keeps : goal.returns-in_default-clause-keeps
returns-in_default-clause-keeps c = keeps_itself c.args.index.now
