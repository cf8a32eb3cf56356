use Rattle.std.proofs.Common.{◌∙◌, sym, true}
use Rattle.std.proofs.lemmas.Result.{IfOk-weaker}
use Rattle.au_pindex.proofs.Leading.{off_leads, same_leads}
use Rattle.au_pindex.proofs.enabling.enable_again.Goals as goal

pub returns-then-is_on-clause-leads : goal.returns-then-is_on-clause-leads
returns-then-is_on-clause-leads c =
    same_leads c.args.name.now c.args.enabled.now c.args.catalog.now.enabled c.args.catalog.now.policies true c.requires.on (sym c.is_on.ensures ∙ c.if-is_on.true) c.no_edit.result c.no_edit.ensures

pub returns-clause-leads : goal.returns-clause-leads
returns-clause-leads c =
    IfOk-weaker c.leave.result _ _
    (λ edit leaving. off_leads c.args.name.now c.args.enabled.now c.args.catalog.now.enabled c.args.catalog.now.policies c.args.place c.requires.stands (sym c.is_on.ensures ∙ c.if-is_on.false) edit leaving)
    c.leave.ensures.leaves
