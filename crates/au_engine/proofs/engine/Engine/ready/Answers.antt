use Rattle.std.proofs.Common.{◌≡◌, ◌∙◌, ◌<◌, ◌≤◌, List, [], map, ap, ap₂, sym, subst, arith}
use Rattle.std.specs.Prelude.{IfSome}
use Rattle.std.proofs.lemmas.List.{take-append-drop}
use Rattle.au_base.specs.declared.numbers.ClientNo.{ClientNo}
use Rattle.au_entries.specs.Frames.{after_parts}
use Rattle.au_step.specs.State.{State}
use Rattle.au_txn.specs.Desks.{open_in}
use Rattle.std.specs.List.{AllByRecursion}
use Rattle.au_base.specs.Limits.{GRANTS}
use Rattle.au_catalog.specs.Settling.{catalog_of}
use Rattle.au_entries.specs.declared.change.Change.{Change}
use Rattle.au_entries.specs.declared.kept.Kept.{Kept}
use Rattle.au_entries.specs.Changing.{changed_all}
use Rattle.au_grants.specs.declared.grants.Grants.{Grants}
use Rattle.au_grants.specs.Rights.{grant_count}
use Rattle.au_kept.specs.Staging.{IsLogged, IsOfRow, IsStaged}
use Rattle.au_pindex.specs.Staging as indexes
use Rattle.au_replay.specs.Reading.{HasShortText, conditions}
use Rattle.au_step.specs.Lawful.{IsLawfulState}
use Rattle.au_step.specs.Sessions.{HaveOneEach}
use Rattle.au_txn.specs.Logs.{Changes}
use Rattle.rec_codec.specs.Changes.{IsChangeSpellable}
use Rattle.au_engine.specs.Prepared.{CanChange, committed_by, logged_by, made_of, sessions_after}
use Rattle.au_engine.specs.Reserved.{Reserved, contents_of, with_changes}
use Rattle.au_engine.proofs.Settled.{all_behind, grants_alone, grants_committed, spare_stays}
use Rattle.au_engine.proofs.Settles.{short}
use Rattle.au_engine.proofs.engine.Engine.ready.Goals as goal

pub stage-requires-clause-short : goal.stage-requires-clause-short
stage-requires-clause-short c =
    let a = c.args in
    let m = a.self.now.state in
    let logged = logged_by a.outcome in
    let written = c.steps_hold.ensures.written m (made_of a.outcome m) a.client a.ask.now a.stamp.0 a.outcome.reply logged c.holds_together.ensures.lawful c.requires.seated c.requires.stamp c.asks_are_text.ensures c.requires.client c.requires.step in
    subst (λ (cs : List Change). AllByRecursion HasShortText cs) (sym c.behind.ensures) (short logged.changes c.spellings_are_short.ensures (all_behind IsChangeSpellable logged.rows logged.changes written))

pub stage-requires-clause-rowless : goal.stage-requires-clause-rowless
stage-requires-clause-rowless c =
    let a = c.args in
    let m = a.self.now.state in
    let rowless = c.steps_hold.ensures.rowless m (made_of a.outcome m) a.client a.ask.now a.stamp.0 a.outcome.reply (logged_by a.outcome) c.holds_together.ensures.lawful c.requires.seated c.requires.stamp c.asks_are_text.ensures c.requires.client c.requires.step in
    subst (λ (cs : List Change). AllByRecursion (λ change. ¬ IsOfRow change) cs) (sym c.behind.ensures) rowless

pub stage-requires-clause-few : goal.stage-requires-clause-few
stage-requires-clause-few c =
    let a = c.args in
    let m = a.self.now.state in
    let logged = logged_by a.outcome in
    let lawful = c.steps_hold.ensures.lawful m (made_of a.outcome m) a.client a.ask.now a.stamp.0 a.outcome.reply logged c.holds_together.ensures.lawful c.requires.seated c.requires.stamp c.asks_are_text.ensures c.requires.client c.requires.step in
    let same = grants_alone conditions.tree logged.changes m.kept (committed_by logged.commits m).kept (grants_committed logged.commits m) in
    subst (λ (cs : List Change). grant_count (changed_all conditions.tree cs c.self.inside.keeping.kept).grants ≤ GRANTS) (sym c.behind.ensures)
    (subst (λ (e : Reserved). grant_count (changed_all conditions.tree logged.changes e.state.kept).grants ≤ GRANTS) (sym c.self.view_is)
    (subst (λ (g : Grants). grant_count g ≤ GRANTS) (sym same) lawful.kept.whole.few.grants))

pub returns-clause-fits : goal.returns-clause-fits
returns-clause-fits c =
    let a = c.args in
    let o = a.outcome in
    let m = a.self.now.state in
    let n = made_of o m in
    let logged = logged_by o in
    let inside = c.self.inside in
    let lawful = c.holds_together.ensures.lawful in
    let law = c.steps_hold.ensures in
    let ends = c.requires.seated in
    let is = c.requires.stamp in
    let text = c.asks_are_text.ensures in
    let some = c.requires.client in
    let step = c.requires.step in
    let staged = c.in-Ok.ensures in
    let state_by : Kept → List Changes → State = λ k l. record { kept = k; sessions = map (with_changes l) inside.sessions.items; drawn = inside.drawn; results = inside.results } in
    let same = ap₂ state_by staged.kept staged.logs ∙ ap (λ (e : Reserved). e.state) c.self.view_is in
    let back = sym same in
    let logs = staged.logs ∙ ap (λ (e : Reserved). e.logs) c.self.view_is in
    let kept = staged.kept ∙ ap (λ (e : Reserved). e.state.kept) c.self.view_is in
    let told = λ (q : ClientNo). ap (λ (l : List Changes). open_in [] l q) logs ∙ c.holds_together.ensures.open_to q in
    record {
      staged = subst (λ (cs : List Change). IsStaged cs c.in-Ok.staged) c.behind.ensures staged.staged;
      fits = staged.fits;
      settles = law.settles m n a.client a.ask.now a.stamp.0 o.reply logged lawful ends is text some step c.stage.new.self kept told;
      logged = subst (λ (cs : List Change). IsLogged logged.commits c.stage.new.self logged.changes cs) (take-append-drop o.finals o.changes)
          (law.is_logged m n a.client a.ask.now a.stamp.0 o.reply logged lawful ends is text some step c.stage.new.self kept told);
      leaves = subst (λ (s : State). (made_of o s).kept ≡ after_parts conditions.tree o.last o.purge o.changes o.records s.kept) back
          (law.leaves m n a.client a.ask.now a.stamp.0 o.reply logged lawful ends is text some step
          ∙ ap (λ (cs : List Change). after_parts conditions.tree o.last o.purge cs o.records m.kept) (take-append-drop o.finals o.changes));
      rows = subst (λ (s : State). CanChange s o.sessions) back c.requires.made.rows;
      alone = c.requires.made.alone;
      spare = spare_stays o.sessions (contents_of a.self.now) c.stage.new.self logs (subst (λ (e : Reserved). e.spare ≤ c.stage.new.self.spare) c.self.view_is staged.spare) c.requires.spare;
      room = omega (arith, staged.room, c.len.ensures);
      seat = subst (λ (e : Reserved). 0 < e.seats) (sym c.self.view_is) c.requires.seat;
      index = subst (λ (e : Reserved). IfSome e.index (λ index. IfSome a.index (λ ready. indexes.Fits ready index))) (sym c.self.view_is) c.requires.index;
      leads = subst (λ (s : State). IfSome a.index (indexes.IsStaged (catalog_of s.kept) (catalog_of (made_of o s).kept))) back c.requires.leads;
      lawful = subst (λ (s : State). IsLawfulState (made_of o s)) back (law.lawful m n a.client a.ask.now a.stamp.0 o.reply logged lawful ends is text some step);
      apart = subst (λ (s : State). HaveOneEach (sessions_after o.sessions s.sessions)) back
          (c.clients_have_one_session.ensures.one m n a.client a.ask.now a.stamp.0 o.reply logged c.holds_together.ensures.apart step);
    }
