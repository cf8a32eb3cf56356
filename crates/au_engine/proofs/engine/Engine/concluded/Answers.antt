use Rattle.std.proofs.Common.{◌≡◌, ◌∙◌, ◌++◌, ℕ, Bool, List, [], drop, length, take, refl, ap, ap₂, subst, sym}
use Rattle.std.specs.Prelude.{Option, Some, None, if◌then◌else◌}
use Rattle.std.proofs.lemmas.List.{take-append-drop}
use Rattle.au_base.specs.declared.numbers.ClientNo.{ClientNo}
use Rattle.au_base.specs.declared.numbers.Stamp.{Stamp}
use Rattle.au_entries.specs.declared.change.Change.{Change}
use Rattle.au_ruling.specs.Kinds.{commits}
use Rattle.au_step.specs.Step.{Logged, after_statement, decided_in, ground_of, is_nothing, statement_logged, with_more}
use Rattle.au_txn.specs.declared.change.RowChange.{RowChange}
use Rattle.au_txn.specs.declared.finals.Final.{Final}
use Rattle.au_engine.specs.Inside.{AreWritten}
use Rattle.au_engine.specs.Prepared.{commits_by, transaction_left}
use Rattle.au_engine.specs.Reserved.{Reserved}
use Rattle.au_engine.proofs.Concluded.{alone, can_by_law, can_write, dropped, left_by, logged_made, logged_of, seats_made, stands, state_made}
use Rattle.au_engine.proofs.Rulings.{commit_ruling, quiet_ruling}
use Rattle.au_engine.proofs.engine.Engine.concluded.Goals as goal

pub returns-clause-logged : goal.returns-clause-logged
returns-clause-logged c =
    let a = c.args in
    let d = a.decided in
    let change = c.in_ok-rows.rows in
    let says : (client : ClientNo) → commits_by client change ≡ (if commits a.statement.now then Some client else None) =
    subst (λ (b : Bool). (client : ClientNo) → commits_by client change ≡ (if b then Some client else None)) c.commits.ensures c.in_ok-rows.ensures.commits in
    logged_made a.session.now a.statement.now d.finals.items d.ruling d.left change (length c.as_slice-count.result.now) c.in_ok-changes.changes (says a.session.now.client) (ap (λ (l : List Final). length l) c.as_slice-count.ensures.value) c.in_ok-changes.ensures

pub returns-clause-next : goal.returns-clause-next
returns-clause-next c =
    let a = c.args in
    let d = a.decided in
    let m = a.self.now.state in
    let session = a.session.now in
    let statement = a.statement.now in
    let basis = ground_of (decided_in m session.client statement) session statement a.stamp.0 in
    let change = c.in_ok-rows.rows in
    let count = (length c.as_slice-count.result.now) in
    let all = c.in_ok-changes.changes in
    let says : (client : ClientNo) → commits_by client change ≡ (if commits statement then Some client else None) =
    subst (λ (b : Bool). (client : ClientNo) → commits_by client change ≡ (if b then Some client else None)) c.commits.ensures c.in_ok-rows.ensures.commits in
    let left : (t : List RowChange) → transaction_left change t ≡ left_by (commits statement) d.ruling t =
    subst (λ (b : Bool). (t : List RowChange) → transaction_left change t ≡ (if b then [] else (if d.ruling.undoes then [] else t ++ d.ruling.rows))) c.commits.ensures c.in_ok-rows.ensures.left in
    let logged = logged_made session statement d.finals.items d.ruling d.left change count all (says session.client) (ap (λ (l : List Final). length l) c.as_slice-count.ensures.value) c.in_ok-changes.ensures in
    let late = c.last_after.ensures ∙ ap₂ (λ (l : Stamp) (cs : List Change). if is_nothing cs d.ruling.purge d.left.records then l else a.stamp) (c.last.ensures ∙ ap (λ (e : Reserved). e.state.kept.last) c.self.view_is) (sym (take-append-drop count all)) in
    let more = c.entries_after.ensures ∙ ap (λ (n : ℕ). with_more session.entries n) c.len.ensures in
    state_made (commits statement) m session a.stamp.0 d.ruling d.left (logged_of (commits_by session.client change) (take count all) (drop count all) d.ruling.purge d.left.records) _ _ (says session.client) late
    (seats_made (commits statement) m session d.ruling d.left change _ _ c.counted.ensures more left (commit_ruling basis statement d.ruling c.requires.comes))
    ∙ ap (λ (l : Logged). after_statement (decided_in m session.client statement) session a.stamp.0 d.ruling d.left l) logged

pub returns-clause-made : goal.returns-clause-made
returns-clause-made c =
    let a = c.args in
    let d = a.decided in
    let m = a.self.now.state in
    let session = a.session.now in
    let statement = a.statement.now in
    let own = c.requires.own in
    let basis = ground_of (decided_in m session.client statement) session statement a.stamp.0 in
    let change = c.in_ok-rows.rows in
    let count = (length c.as_slice-count.result.now) in
    let all = c.in_ok-changes.changes in
    let says : (client : ClientNo) → commits_by client change ≡ (if commits statement then Some client else None) =
    subst (λ (b : Bool). (client : ClientNo) → commits_by client change ≡ (if b then Some client else None)) c.commits.ensures c.in_ok-rows.ensures.commits in
    let written : AreWritten (commits statement) d.ruling.undoes d.ruling.rows change =
    subst (λ (b : Bool). AreWritten b d.ruling.undoes d.ruling.rows change) c.commits.ensures c.in_ok-rows.ensures.written in
    record {
      rows = record {
        some = own.some;
        stands = stands m session own;
        rows = can_write m session statement d.ruling change
            (can_by_law m session statement a.stamp.0 d.ruling own
            (λ on_rows comes. c.rows_can_be_written.ensures m session.client own.seat statement a.stamp.0 d.ruling c.holds_together.ensures.lawful c.requires.seated c.requires.stamp own.found c.requires.sound on_rows comes) c.requires.comes)
            written;
      };
      alone = alone (commits statement) session.client change (drop count all) (says session.client)
          (λ is. dropped d.finals.items count all d.ruling.changes (ap (λ (l : List Final). length l) c.as_slice-count.ensures.value) c.in_ok-changes.ensures ∙ quiet_ruling basis statement d.ruling c.requires.comes is);
    }
