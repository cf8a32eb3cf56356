use Rattle.std.proofs.Common.{subst}
use Rattle.au_pindex.specs.descent.Finding.{BelongsAt}
use Rattle.au_pindex.proofs.Leading.{none_leads}
use Rattle.au_pindex.proofs.enabling.enable.Goals as goal

pub returns-in-Err-clause-leads : goal.returns-in-Err-clause-leads
returns-in-Err-clause-leads c =
    none_leads c.args.name.now c.args.enabled.now c.args.catalog.now.enabled c.args.catalog.now.policies c.in-Err.field-0 (subst (λ policies. BelongsAt c.args.name.now policies c.in-Err.field-0) c.as_slice.ensures c.in-Err.ensures.missing) c.no_edit.result c.no_edit.ensures
