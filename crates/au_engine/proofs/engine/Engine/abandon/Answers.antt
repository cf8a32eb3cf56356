use Rattle.std.proofs.Common.{◌≡◌, ◌∙◌, List, map, ap, refl, sym, subst, arith}
use Rattle.std.specs.Prelude.{IfSome, None}
use Rattle.au_catalog.specs.Settling.{catalog_of}
use Rattle.au_pindex.specs.Indexing.{IsIndexOf}
use Rattle.au_entries.specs.declared.kept.Kept.{Kept}
use Rattle.au_step.specs.declared.session.Session.{Session}
use Rattle.au_step.specs.Abandoning.{abandoned, sessions_without}
use Rattle.au_step.specs.Lawful.{IsLawfulState}
use Rattle.au_step.specs.Sessions.{HaveOneEach}
use Rattle.au_step.specs.State.{OpenSession, State}
use Rattle.au_step.specs.Step.{session_of}
use Rattle.au_engine.specs.declared.outcome.SessionChange.TheVariants.{Ends}
use Rattle.au_engine.specs.Reserved.{Reserved, with_changes}
use Rattle.au_engine.proofs.Changing.{quiet_after, view_after}
use Rattle.au_engine.proofs.Settled.{same_parts}
use Rattle.au_engine.proofs.engine.Engine.abandon.Goals as goal

pub invariant_of-self : goal.invariant_of-self
invariant_of-self c =
    let was = c.self.invariant in
    let e = c.self.inside in
    let client = c.args.client in
    let logs = c.forget.new.keeping.logs in
    let m : State = record { kept = e.keeping.kept; sessions = map (with_changes e.keeping.logs) e.sessions.items; drawn = e.drawn; results = e.results } in
    let seats : map (with_changes logs) c.end_session.new.sessions.items ≡ (abandoned client m).sessions =
    ap (λ (l : List Session). map (with_changes logs) l) c.end_session.ensures.items ∙ view_after (Ends client) e.keeping.logs logs e.sessions.items c.forget.ensures.lists tt in (
      omega (arith, was.0, c.end_session.ensures.len, c.end_session.ensures.capacity),
      subst (λ (k : Kept). IsLawfulState (record m { kept = k; sessions = map (with_changes logs) c.end_session.new.sessions.items })) (sym c.forget.ensures.kept)
          (subst (λ (l : List OpenSession). IsLawfulState (record m { sessions = l })) (sym seats) (c.ends_stay_lawful.ensures.lawful m client was.1)),
      subst (λ (l : List OpenSession). HaveOneEach l) (sym seats) (c.ends_stay_lawful.ensures.one m client was.2),
      (λ q none. quiet_after (Ends client) e.keeping.logs logs m.sessions c.forget.ensures.lists was.3 tt q (subst (λ (l : List OpenSession). session_of l q ≡ None) seats none)),
      subst (λ (k : Kept). IfSome e.index (IsIndexOf (catalog_of k))) (sym c.forget.ensures.kept) was.4,
    )

pub returns : goal.returns
returns c =
    let e = c.self.inside in
    let client = c.args.client in
    let logs = c.forget.new.keeping.logs in
    let seats : map (with_changes logs) c.end_session.new.sessions.items ≡ sessions_without client (map (with_changes e.keeping.logs) e.sessions.items) =
    ap (λ (l : List Session). map (with_changes logs) l) c.end_session.ensures.items ∙ view_after (Ends client) e.keeping.logs logs e.sessions.items c.forget.ensures.lists tt in
    same_parts _ _ _ _ e.drawn e.drawn e.results e.results c.forget.ensures.kept seats refl refl ∙ ap (λ (e : Reserved). abandoned client e.state) c.self.view_is
