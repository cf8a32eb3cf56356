use Rattle.std.proofs.Common.{◌≡◌, ◌∙◌, ap, sym, subst, arith}
use Rattle.std.specs.Prelude.{IfSome, None}
use Rattle.au_catalog.specs.Settling.{catalog_of}
use Rattle.au_entries.specs.declared.kept.Kept.{Kept}
use Rattle.au_pindex.specs.Indexing.{IsIndexOf}
use Rattle.au_step.specs.Lawful.{IsLawfulState}
use Rattle.au_step.specs.Sessions.{HaveOneEach}
use Rattle.au_step.specs.State.{State}
use Rattle.au_step.specs.Step.{session_of}
use Rattle.au_engine.specs.Reserved.{Reserved}
use Rattle.au_engine.proofs.Views.{same_state}
use Rattle.au_engine.proofs.engine.Engine.reserve_for.Goals as goal

pub invariant_of-self : goal.invariant_of-self
invariant_of-self c =
    let was = c.self.invariant in
    let e = c.self.inside in
    let same = same_state _ _ _ _ e.sessions.items e.drawn e.results c.reserve.ensures.kept c.reserve.ensures.lists in (
      omega (arith, was.0),
      subst IsLawfulState (sym same) was.1,
      subst (λ (s : State). HaveOneEach s.sessions) (sym same) was.2,
      (λ q none. c.reserve.ensures.lists q ∙ was.3 q (subst (λ (s : State). session_of s.sessions q ≡ None) same none)),
      subst (λ (k : Kept). IfSome e.index (IsIndexOf (catalog_of k))) (sym c.reserve.ensures.kept) was.4,
    )

pub returns-clause-keeps : goal.returns-clause-keeps
returns-clause-keeps c =
    let e = c.self.inside in
    same_state _ _ _ _ e.sessions.items e.drawn e.results c.reserve.ensures.kept c.reserve.ensures.lists ∙ ap (λ (e : Reserved). e.state) c.self.view_is
