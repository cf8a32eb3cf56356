use Rattle.std.proofs.Common.{◌≡◌, ◌∙◌, List, [], map, ap, sym, subst, arith}
use Rattle.std.specs.Prelude.{None}
use Rattle.au_step.specs.Sessions.{HaveOneEach}
use Rattle.au_step.specs.State.{OpenSession}
use Rattle.au_step.specs.Step.{session_of}
use Rattle.au_engine.specs.Reserved.{Reserved, with_changes}
use Rattle.au_engine.proofs.Resting.{none_mapped, rests}
use Rattle.au_engine.proofs.engine.Engine.replay.Goals as goal

pub replay-done-requires-clause-alone : goal.replay-done-requires-clause-alone
replay-done-requires-clause-alone c = λ client.
    let idle = subst (λ (e : Reserved). e.state.sessions ≡ []) (sym c.self.view_is) c.requires.idle in
    c.self.invariant.3 client (ap (λ (l : List OpenSession). session_of l client) idle)

pub invariant_of-self : goal.invariant_of-self
invariant_of-self c =
    let was = c.self.invariant in
    let e = c.self.inside in
    let k = c.replay-done.new.self in
    let idle = subst (λ (e : Reserved). e.state.sessions ≡ []) (sym c.self.view_is) c.requires.idle in
    let none = none_mapped (with_changes e.keeping.logs) (with_changes k.logs) e.sessions.items idle in (
      omega (arith, was.0),
      rests k _ e.drawn e.results c.holds_together.ensures.kept c.holds_together.ensures.together none c.replay-done.ensures.alone was.1.drawn was.1.results c.transactions_hold.ensures.same,
      subst (λ (l : List OpenSession). HaveOneEach l) (sym none) tt,
      (λ q off. c.replay-done.ensures.alone q),
      tt,
    )

pub returns-clause-rule : goal.returns-clause-rule
returns-clause-rule c = rw (← c.self.view_is) c.replay-done.ensures.goes
