use Rattle.std.proofs.Common.{◌∙◌, ap, sym}
use Rattle.std.specs.List.{list_any}
use Rattle.std.proofs.lemmas.List.{take_all}
use Rattle.std.proofs.lemmas.List.Folds.{list_any_at}
use Rattle.au_query.specs.descent.Inside.{cells_in}
use Rattle.au_query.specs.descent.Residuals.{overflows_behind}
use Rattle.au_query.proofs.Residuals.{none_more}
use Rattle.au_query.proofs.overflow.told_of_parts.Goals as goal

pub loop-part-preserved : goal.loop-part-preserved
loop-part-preserved c = λ session.
    none_more (overflows_behind session c.args.row.now (cells_in c.args.rows.now)) c.args.parts.now c.loop-part.part-index c.part-item.result
    c.loop-part-test.true c.part-item.is (sym (c.in_ok-found.ensures session) ∙ c.if-found.false) (c.loop-part.invariant session)

pub returns-then-found : goal.returns-then-found
returns-then-found c = λ session.
    let each = overflows_behind session c.args.row.now (cells_in c.args.rows.now) in
    sym (list_any_at each c.args.parts.now c.loop-part.part-index c.part-item.result c.loop-part-test.true (ap each (sym c.part-item.is) ∙ sym (c.in_ok-found.ensures session) ∙ c.if-found.true))

pub returns : goal.returns
returns c = λ session.
    sym (ap (list_any (overflows_behind session c.args.row.now (cells_in c.args.rows.now))) (sym (take_all c.loop-part.part-index c.args.parts.now c.loop-part-test.false)) ∙ c.loop-part.invariant session)
