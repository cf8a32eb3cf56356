use Rattle.std.proofs.Common.{◌∙◌, ap, get_or, refl, sym, false}
use Rattle.std.proofs.lemmas.Option.{slice_get_read}
use Rattle.std.proofs.lemmas.Result.{IfOk-weaker}
use Rattle.au_pindex.proofs.Leading.{on_leads, same_leads}
use Rattle.au_pindex.proofs.enabling.enable_first.Goals as goal

pub returns-then-is_on-clause-leads : goal.returns-then-is_on-clause-leads
returns-then-is_on-clause-leads c =
    let policies = c.args.catalog.now.policies in
    let policy = c.index-policies-place.result in
    IfOk-weaker c.join.result _ _
    (λ edit is. on_leads c.args.name.now c.args.enabled.now c.args.catalog.now.enabled policies c.args.place policy c.requires.stands
    (slice_get_read policies _ c.args.place policy refl c.requires.stands.within (c.index-policies-place.is ∙ ap (λ ps. get_or ps c.args.place policy) c.as_slice-policies.ensures)) (sym c.is_on.ensures ∙ c.if-is_on.true) c.requires.off edit is)
    c.join.ensures.edit

pub returns-clause-leads : goal.returns-clause-leads
returns-clause-leads c =
    same_leads c.args.name.now c.args.enabled.now c.args.catalog.now.enabled c.args.catalog.now.policies false c.requires.off (sym c.is_on.ensures ∙ c.if-is_on.false) c.no_edit.result c.no_edit.ensures
