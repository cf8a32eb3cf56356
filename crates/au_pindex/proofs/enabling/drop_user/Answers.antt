use Rattle.std.proofs.Common.{◌∙◌, List, ap, ℕ}
use Rattle.au_entries.specs.declared.change.Change.TheVariants as change
use Rattle.au_entries.specs.declared.policy.AuditPolicy.{AuditPolicy}
use Rattle.au_entries.specs.declared.policy.Enabled.{Enabled}
use Rattle.au_entries.specs.Changing.{enabled_after}
use Rattle.au_entries.specs.Demand.{enablement_of}
use Rattle.au_pindex.specs.descent.Edits.{is_off_without}
use Rattle.au_pindex.specs.Places.{passes_at}
use Rattle.au_pindex.proofs.EnabledBy.{on_without, still_on}
use Rattle.au_pindex.proofs.Leading.{leaving_leads, none_leaves}
use Rattle.au_pindex.proofs.enabling.drop_user.Goals as goal

pub returns-then-is_empty-clause-leads : goal.returns-then-is_empty-clause-leads
returns-then-is_empty-clause-leads c =
    let enabled = c.args.catalog.now.enabled in
    let policies = c.args.catalog.now.policies in
    let user = c.args.user.now in
    none_leaves enabled policies (enabled_after (change.UserGone user) enabled) (is_off_without user enabled)
    (λ q. on_without user q.name enabled c.requires.catalog.enabled ∙ still_on user (enablement_of enabled q.name)) c.in_ok-places.places
    (λ at. c.in_ok-places.ensures at
    ∙ ap (λ (entries : List (List ℕ × Enabled)). passes_at (is_off_without user entries) c.as_slice-policies.result.now at) c.as_slice-enabled.ensures
    ∙ ap (λ (ps : List AuditPolicy). passes_at (is_off_without user enabled) ps at) c.as_slice-policies.ensures)
    (c.is_empty.ensures.0 c.if-is_empty.true) c.no_edit.result c.no_edit.ensures

pub returns-clause-leads : goal.returns-clause-leads
returns-clause-leads c =
    let enabled = c.args.catalog.now.enabled in
    let policies = c.args.catalog.now.policies in
    let user = c.args.user.now in
    leaving_leads enabled policies (enabled_after (change.UserGone user) enabled) (is_off_without user enabled)
    (λ q. on_without user q.name enabled c.requires.catalog.enabled ∙ still_on user (enablement_of enabled q.name)) _ (
      c.leaving.ensures.leaves.0,
      λ at. c.leaving.ensures.leaves.1 at ∙ c.in_ok-places.ensures at
          ∙ ap (λ (entries : List (List ℕ × Enabled)). passes_at (is_off_without user entries) c.as_slice-policies.result.now at) c.as_slice-enabled.ensures
          ∙ ap (λ (ps : List AuditPolicy). passes_at (is_off_without user enabled) ps at) c.as_slice-policies.ensures,
      c.leaving.ensures.leaves.2,
    )
