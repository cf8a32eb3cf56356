use Rattle.std.proofs.Common.{subst, sym}
use Rattle.au_grants.specs.Changing.{without}
use Rattle.au_pindex.specs.descent.Finding.{BelongsAt, StandsAt, is_named}
use Rattle.au_pindex.specs.descent.Leading.{Leads}
use Rattle.au_pindex.proofs.Leading.{gone_leads, none_gone_leads}
use Rattle.au_pindex.proofs.putting.drop_policy.Goals as goal

pub returns-in-Ok-clause-leads : goal.returns-in-Ok-clause-leads
returns-in-Ok-clause-leads c =
    let name = c.args.name.now in
    let enabled = c.args.catalog.now.enabled in
    let policies = c.args.catalog.now.policies in
    subst (λ edit. Leads enabled policies enabled (without (is_named name) policies) edit) (sym c.close.ensures)
    (gone_leads name enabled policies c.in-Ok.place (subst (λ ps. StandsAt name ps c.in-Ok.place) c.as_slice.ensures c.in-Ok.ensures.found))

pub returns-in-Err-clause-leads : goal.returns-in-Err-clause-leads
returns-in-Err-clause-leads c =
    let name = c.args.name.now in
    let enabled = c.args.catalog.now.enabled in
    let policies = c.args.catalog.now.policies in
    subst (λ edit. Leads enabled policies enabled (without (is_named name) policies) edit) (sym c.no_edit.ensures)
    (none_gone_leads name enabled policies c.in-Err.field-0 (subst (λ ps. BelongsAt name ps c.in-Err.field-0) c.as_slice.ensures c.in-Err.ensures.missing))
