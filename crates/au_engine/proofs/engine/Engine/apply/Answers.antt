use Rattle.std.proofs.Common.{◌≡◌, ◌∙◌, ◌≤◌, ℕ, Bool, List, length, map, drop, refl, sym, ap, subst, arith}
use Rattle.std.specs.Prelude.{IfSome, IsSome, None}
use Rattle.au_catalog.specs.Settling.{catalog_of}
use Rattle.au_pindex.specs.Staging as indexes
use Rattle.au_base.specs.declared.numbers.ClientNo.{ClientNo}
use Rattle.au_entries.specs.declared.kept.Kept.{Kept}
use Rattle.au_txn.specs.Logs.{Changes, changes_of}
use Rattle.au_engine.specs.declared.prepared.Prepared.{Prepared}
use Rattle.au_engine.specs.Inside.{changes_left}
use Rattle.au_engine.specs.Sessions.{settled_sessions}
use Rattle.au_entries.specs.declared.trail_record.Record.{Record}
use Rattle.au_entries.specs.Frames.{after_parts}
use Rattle.au_kept.specs.Keeping.{desk_of}
use Rattle.au_kept.specs.Staging.{CanSettle, IsLogged}
use Rattle.au_kept.specs.Staging as keepings
use Rattle.au_replay.specs.Reading.{conditions}
use Rattle.au_step.specs.declared.session.Session.{Session}
use Rattle.au_step.specs.Lawful.{IsLawfulState}
use Rattle.au_step.specs.Sessions.{HaveOneEach}
use Rattle.au_step.specs.State.{OpenSession, State}
use Rattle.au_step.specs.Step.{session_of}
use Rattle.au_engine.specs.Prepared.{CanChange, HasSpare, after, commits_of, drawn_after, instance_after, logged_of, sessions_after}
use Rattle.au_engine.specs.Reserved.{Reserved, contents_of, with_changes}
use Rattle.au_engine.proofs.Changing.{BeginsQuiet, begins_quiet, quiet_after, view_after}
use Rattle.au_engine.proofs.Settled.{can_now, same_parts, stands_of}
use Rattle.au_engine.proofs.Views.{apart_alone, desk_tells, state_by}
use Rattle.au_engine.proofs.engine.Engine.apply.Goals as goal

pub settle-requires-clause-keep : goal.settle-requires-clause-keep
settle-requires-clause-keep c =
    let p = c.args.prepared in
    let back = sym c.self.view_is in
    record {
      changes = drop p.finals p.changes;
      staged = c.requires.staged;
      is_so = c.requires.alone;
      settles = subst (λ (records : List Record). CanSettle c.self.inside.keeping (commits_of p.sessions) (logged_of p).changes records p.last) (sym c.into_vec.ensures)
          (subst (λ (e : Reserved). CanSettle (contents_of e) (commits_of p.sessions) (logged_of p).changes p.records p.last) back c.requires.settles);
      fits = subst (λ (e : Reserved). keepings.Fits p.staged (contents_of e)) back c.requires.fits;
      room = subst (λ (records : List Record). length records ≤ c.self.inside.keeping.room) (sym c.into_vec.ensures) (subst (λ (e : Reserved). length p.records ≤ e.room) back c.requires.room);
    }

pub settle-requires-clause-rows : goal.settle-requires-clause-rows
settle-requires-clause-rows c =
    let p = c.args.prepared in
    let back = sym c.self.view_is in
    let e = c.self.inside in
    let m : State = record { kept = e.keeping.kept; sessions = map (with_changes e.keeping.logs) e.sessions.items; drawn = e.drawn; results = e.results } in
    can_now p.sessions m e.keeping refl (λ q. desk_tells e.keeping e.sessions.items q (c.self.invariant.3 q))
    (subst (λ (e : Reserved). CanChange e.state p.sessions) back c.requires.rows) (subst (λ (e : Reserved). HasSpare p.sessions (desk_of (contents_of e))) back c.requires.spare)

pub settle_index-requires : goal.settle_index-requires
settle_index-requires c = subst (λ (e : Reserved). IfSome e.index (λ index. IfSome c.args.prepared.index (λ staged. indexes.Fits staged index))) (sym c.self.view_is) c.requires.index

pub settle-requires-clause-apart : goal.settle-requires-clause-apart
settle-requires-clause-apart c = apart_alone c.self.inside.keeping.logs c.self.inside.sessions.items c.self.invariant.2

-- the state that is made
made : (p : Prepared) (old new : Kept) (before after_logs : List Changes) (raws left : List Session) (drawn drawn_now : ℕ) (results results_now : List (List ℕ × Bool))
    → new ≡ (after p (state_by old before raws drawn results)).kept → left ≡ settled_sessions p.sessions raws → ((q : ClientNo) → changes_of q after_logs ≡ changes_left p.sessions q (changes_of q before)) → BeginsQuiet p.sessions before
    → drawn_now ≡ drawn_after p.sessions drawn → results_now ≡ instance_after p.results results
    → state_by new after_logs left drawn_now results_now ≡ after p (state_by old before raws drawn results)
made p old new before after_logs raws left drawn drawn_now results results_now kept items lists begins drawn_is results_is =
    same_parts _ _ _ _ _ _ _ _ kept (ap (λ (l : List Session). map (with_changes after_logs) l) items ∙ view_after p.sessions before after_logs raws lists begins) drawn_is results_is

kept_now : (p : Prepared) (m : State) (records : List Record) (new : Kept) → new ≡ after_parts conditions.tree p.last p.purge p.changes records m.kept → records ≡ p.records
    → (after p m).kept ≡ after_parts conditions.tree p.last p.purge p.changes p.records m.kept → new ≡ (after p m).kept
kept_now p m records new is same leaves = is ∙ (ap (λ (rs : List Record). after_parts conditions.tree p.last p.purge p.changes rs m.kept) same ∙ sym leaves)

pub invariant_of-self : goal.invariant_of-self
invariant_of-self c =
    let p = c.args.prepared in
    let was = c.self.invariant in
    let back = sym c.self.view_is in
    let e = c.self.inside in
    let m = state_by e.keeping.kept e.keeping.logs e.sessions.items e.drawn e.results in
    let apart = subst (λ (e : Reserved). HaveOneEach (sessions_after p.sessions e.state.sessions)) back c.requires.apart in
    let leads = subst (λ (e : Reserved). IfSome p.index (indexes.IsStaged (catalog_of e.state.kept) (catalog_of (after p e.state).kept))) back c.requires.leads in
    let logged = subst (λ (e : Reserved). IsLogged (commits_of p.sessions) (contents_of e) (logged_of p).changes p.changes) back c.requires.logged in
    let leaves = subst (λ (e : Reserved). (after p e.state).kept ≡ after_parts conditions.tree p.last p.purge p.changes p.records e.state.kept) back c.requires.leaves in
    let stands = stands_of p.sessions m (subst (λ (e : Reserved). CanChange e.state p.sessions) back c.requires.rows) in
    let kept = kept_now p m _ _ (c.settle.ensures.kept (logged_of p).changes p.changes c.requires.staged logged) c.into_vec.ensures leaves in
    let is = made p _ _ e.keeping.logs c.settle.new.keeping.logs e.sessions.items _ e.drawn _ e.results _ kept c.settle.ensures.items c.settle.ensures.lists
    (begins_quiet p.sessions e.keeping.logs m.sessions apart was.3) c.drawn_after-self-inside.ensures c.set_results.ensures in (
      omega (arith, was.0, c.settle.ensures.len, c.settle.ensures.capacity),
      subst IsLawfulState (sym is) (subst (λ (e : Reserved). IsLawfulState (after p e.state)) back c.requires.lawful),
      subst (λ (s : State). HaveOneEach s.sessions) (sym is) apart,
      (λ q none. quiet_after p.sessions e.keeping.logs c.settle.new.keeping.logs m.sessions c.settle.ensures.lists was.3 stands q (subst (λ (s : State). session_of s.sessions q ≡ None) is none)),
      c.settle_index.ensures.leads (catalog_of e.keeping.kept) (catalog_of c.settle.new.keeping.kept) (subst (λ (k : Kept). IfSome p.index (indexes.IsStaged (catalog_of e.keeping.kept) (catalog_of k))) (sym kept) leads) was.4,
    )

pub returns-clause-next : goal.returns-clause-next
returns-clause-next c =
    let p = c.args.prepared in
    let was = c.self.invariant in
    let back = sym c.self.view_is in
    let e = c.self.inside in
    let m = state_by e.keeping.kept e.keeping.logs e.sessions.items e.drawn e.results in
    let apart = subst (λ (e : Reserved). HaveOneEach (sessions_after p.sessions e.state.sessions)) back c.requires.apart in
    let logged = subst (λ (e : Reserved). IsLogged (commits_of p.sessions) (contents_of e) (logged_of p).changes p.changes) back c.requires.logged in
    let leaves = subst (λ (e : Reserved). (after p e.state).kept ≡ after_parts conditions.tree p.last p.purge p.changes p.records e.state.kept) back c.requires.leaves in
    let kept = kept_now p m _ _ (c.settle.ensures.kept (logged_of p).changes p.changes c.requires.staged logged) c.into_vec.ensures leaves in
    made p _ _ e.keeping.logs c.settle.new.keeping.logs e.sessions.items _ e.drawn _ e.results _ kept c.settle.ensures.items c.settle.ensures.lists
    (begins_quiet p.sessions e.keeping.logs m.sessions apart was.3) c.drawn_after-self-inside.ensures c.set_results.ensures
    ∙ ap (λ (e : Reserved). after p e.state) c.self.view_is

pub returns-clause-index : goal.returns-clause-index
returns-clause-index c = λ was ready. c.settle_index.ensures.stays (subst (λ (e : Reserved). IsSome e.index) (sym c.self.view_is) was) ready
