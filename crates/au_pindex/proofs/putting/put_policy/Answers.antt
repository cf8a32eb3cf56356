use Rattle.std.proofs.Common.{◌∙◌, List, ap, subst, ℕ}
use Rattle.au_entries.specs.declared.policy.Enabled.{Enabled}
use Rattle.au_entries.specs.Changing.{is_on}
use Rattle.au_entries.specs.Demand.{enablement_of}
use Rattle.std.proofs.lemmas.Result.{IfOk-weaker}
use Rattle.au_pindex.specs.descent.Finding.{BelongsAt, StandsAt}
use Rattle.au_pindex.proofs.Leading.{put_adds, put_replaces}
use Rattle.au_pindex.proofs.putting.put_policy.Goals as goal

pub returns-in-Ok-clause-leads : goal.returns-in-Ok-clause-leads
returns-in-Ok-clause-leads c =
    let policies = c.args.catalog.now.policies in
    let was = c.is_policy_on-on.ensures ∙ ap (λ (entries : List (List ℕ × Enabled)). is_on (enablement_of entries c.args.policy.name)) c.as_slice.ensures in
    IfOk-weaker c.replace.result _ _
    (λ edit is whole parts same.
    put_replaces c.args.catalog.now.enabled policies c.args.policy whole c.args.condition c.in-Ok.place c.is_policy_on-on.result parts same was
    (subst (λ ps. StandsAt c.args.policy.name ps c.in-Ok.place) c.as_slice-2.ensures c.in-Ok.ensures.found) edit is)
    c.replace.ensures.edit

pub returns-in-Err-clause-leads : goal.returns-in-Err-clause-leads
returns-in-Err-clause-leads c =
    let policies = c.args.catalog.now.policies in
    let was = c.is_policy_on-on.ensures ∙ ap (λ (entries : List (List ℕ × Enabled)). is_on (enablement_of entries c.args.policy.name)) c.as_slice.ensures in
    IfOk-weaker c.add.result _ _
    (λ edit is whole parts same.
    put_adds c.args.catalog.now.enabled policies c.args.policy whole c.args.condition c.in-Err.place c.is_policy_on-on.result parts same was
    (subst (λ ps. BelongsAt c.args.policy.name ps c.in-Err.place) c.as_slice-2.ensures c.in-Err.ensures.missing) edit is)
    c.add.ensures.edit
