use Rattle.std.proofs.Common.{◌∙◌, subst, sym}
use Rattle.au_catalog.specs.Settling.{catalog_after_all}
use Rattle.au_pindex.specs.descent.Leading.{Leads}
use Rattle.au_pindex.proofs.Afterwards.{enabled_all_stay, no_edit_to, policies_all_stay}
use Rattle.au_pindex.proofs.staging.staged_apart.Goals as goal

pub returns-clause-staged : goal.returns-clause-staged
returns-clause-staged c = λ tree catalog.
    let changes = c.args.changes.now in
    let after = catalog_after_all tree changes catalog in
    let none = sym c.change_policies.ensures ∙ c.if-change_policies.false in
    subst (λ edit. Leads catalog.enabled catalog.policies after.enabled after.policies edit) (sym c.no_edit.ensures)
    (no_edit_to catalog.enabled after.enabled catalog.policies after.policies (enabled_all_stay tree changes catalog none) (policies_all_stay tree changes catalog none))
