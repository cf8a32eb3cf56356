use Rattle.std.proofs.Common.{◌≡◌, ◌∙◌, ◌∷◌, [], ap, sym, subst}
use Rattle.std.specs.Prelude.{IfOk, IfSome}
use Rattle.au_query.specs.Combos.{Line, lines, passes}
use Rattle.au_query.specs.Counts.{numbers_of}
use Rattle.au_query.specs.descent.Residuals.{AreLeft, are_met_by}
use Rattle.au_query.proofs.Cuts.{filter_same}
use Rattle.au_query.proofs.counting.passing.Goals as goal

pub returns-in-Some : goal.returns-in-Some
returns-in-Some c =
    let left = subst (λ found. IfSome found (λ residuals. AreLeft c.args.conditions.now residuals.items)) c.in-Some.is c.in_ok-comparisons.ensures in
    subst (λ z. IfOk c.compared.result (λ numbers. numbers ≡ numbers_of z))
    (filter_same (λ (line : Line). are_met_by line.1 c.as_slice.result.now) (λ (line : Line). passes c.args.session.now c.args.conditions.now (line ∷ []))
    (λ line. ap (are_met_by line.1) c.as_slice.ensures.value ∙ sym (left c.args.session.now line.1)) (lines c.args.rows.now))
    c.compared.ensures
