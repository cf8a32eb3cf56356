use Rattle.std.proofs.Common.{◌≡◌, ◌∙◌, true, false, List, sym, subst}
use Rattle.std.specs.List.{Contains}
use Rattle.std.proofs.lemmas.List.{take_all}
use Rattle.au_txn.specs.declared.change.RowChange.{RowChange}
use Rattle.au_change.specs.Behind.{IsLockedChange}
use Rattle.au_change.proofs.Members.{each_next}
use Rattle.au_change.proofs.key_rules.is_some_locked.Goals as goal

pub loop-change-preserved : goal.loop-change-preserved
loop-change-preserved c =
    let x = c.change-item.result in
    let not_locked : ¬ IsLockedChange c.args.asked.now x = λ locked. (let e : false ≡ true = sym c.if-branch.false ∙ c.in_ok-is_locked.ensures.1 locked in cc) in
    each_next (λ (change : RowChange). ¬ IsLockedChange c.args.asked.now change) c.args.changes.now c.loop-change.change-index x c.loop-change-test.true c.loop-change.invariant
    (subst (λ (change : RowChange). ¬ IsLockedChange c.args.asked.now change) c.change-item.is not_locked)

pub returns : goal.returns
returns c =
    let none = subst (λ (changes : List RowChange). (change : RowChange) → Contains changes change → ¬ IsLockedChange c.args.asked.now change)
    (take_all c.loop-change.change-index c.args.changes.now c.loop-change-test.false) c.loop-change.invariant in
    ((λ e. absurd (let no : false ≡ true = e in cc)), (λ some. absurd (none some.0 some.1 some.2)))
