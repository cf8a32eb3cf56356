use Rattle.std.proofs.Common.{◌≡◌, ◌∙◌, ℕ, Bool, List, [], map, ap, refl, sym, subst, arith}
use Rattle.std.specs.Prelude.{IsTrue}
use Rattle.au_audit.specs.Conditions.{result_before}
use Rattle.au_base.specs.Order.{is_in_order}
use Rattle.au_base.specs.declared.numbers.ClientNo.{ClientNo}
use Rattle.au_step.specs.declared.session.Session.{Session}
use Rattle.au_step.specs.Sessions.{HaveOneEach}
use Rattle.au_step.specs.State.{OpenSession}
use Rattle.au_txn.specs.Logs.{Changes, changes_of}
use Rattle.au_engine.specs.Reserved.{with_changes}
use Rattle.au_engine.proofs.Resting.{rests}
use Rattle.au_engine.proofs.engine.Engine.over.Goals as goal

pub invariant_of-result : goal.invariant_of-result
invariant_of-result c =
    let k = c.args.keeping in
    let none = ap (λ (l : List Session). map (with_changes k.logs) l) c.new.ensures.items in
    let quiet = λ (client : ClientNo). ap (λ (l : List Changes). changes_of client l) c.requires.logs in (
      omega (arith, c.new.ensures.len, c.new.ensures.capacity),
      rests k _ 0 c.new-2.result c.holds_together.ensures.kept c.holds_together.ensures.together none quiet (omega arith)
          (subst (λ (l : List (List ℕ × Bool)). IsTrue (is_in_order result_before l)) (sym c.new-2.ensures) refl) c.transactions_hold.ensures.same,
      subst (λ (l : List OpenSession). HaveOneEach l) (sym none) tt,
      (λ client off. quiet client),
      tt,
    )
