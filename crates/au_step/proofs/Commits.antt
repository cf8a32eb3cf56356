-- The step of a statement that commits first is lawful.
use Rattle.std.proofs.Common.{◌≡◌, ◌≢◌, ◌∙◌, ℕ, ◌<◌, ◌^◌, Bool, true, false, List, [], ◌++◌, length, map, refl, sym, ap, subst, arith, length-append}
use Rattle.std.specs.Prelude.{IsTrue, Option, Some, None, option_map, if◌then◌else◌}
use Rattle.std.specs.List.{AllByRecursion}
use Rattle.std.proofs.lemmas.List.{append-nil, length-map}
use Rattle.au_audit.specs.Statements.{tables_of}
use Rattle.au_base.specs.declared.numbers.ClientNo.{ClientNo}
use Rattle.au_entries.specs.declared.change.Change.{Change}
use Rattle.au_entries.specs.declared.kept.Kept.{Kept}
use Rattle.au_entries.specs.Changing.{changed_all}
use Rattle.au_entries.specs.Frames.{trail_left}
use Rattle.au_entries.specs.Lawful.{IsWhole}
use Rattle.au_entries.specs.Replaying.{AllGoOn, has_user}
use Rattle.au_kept.specs.Keeping.{Contents, HoldsTogether, desk_of}
use Rattle.au_kept.specs.Staging.{IsFree, IsLogged, committed_for, final_change}
use Rattle.au_recording.specs.declared.left.Left.{Left}
use Rattle.au_replay.specs.Reading.{conditions}
use Rattle.au_ruling.specs.declared.ruling.Ruling.{Ruling}
use Rattle.au_ruling.specs.Kinds.{commits_by_kind, kind_of}
use Rattle.au_ruling.specs.Sound.{TellsBusy}
use Rattle.au_txn.specs.declared.change.RowChange.{RowChange}
use Rattle.au_txn.specs.declared.finals.Final.{Final}
use Rattle.au_txn.specs.Desks.{open_of}
use Rattle.au_txn.specs.Finals.{AreFinals}
use Rattle.au_txn.specs.Rows.{of_triple, triple_of}
use Rattle.au_txn.specs.Transactions.{laid_over, names_table}
use Rattle.rec_codec.specs.Changes.{IsChangeSpellable}
use Rattle.sql_ast.specs.declared.statement.Statement.{Statement}
use Rattle.au_step.specs.declared.session.Session.{Session}
use Rattle.au_step.specs.Lawful.{IsLawful, IsLawfulState, contents_in, desk_in}
use Rattle.au_step.specs.Replaying.{EndsWell}
use Rattle.au_step.specs.Sound.{HoldsOfKeepings}
use Rattle.au_step.specs.descent.SoundSteps.{CanBeKept, kept_through}
use Rattle.au_step.specs.State.{OpenSession, State}
use Rattle.au_step.specs.Step.{Logged, after_statement, committed, ground_of, last_after, session_after, session_of, settled, transaction_after, transaction_in, transaction_of}
use Rattle.au_step.proofs.Busy.{busy_told}
use Rattle.au_step.proofs.Clients.{after_stays, is_of, settled_stays}
use Rattle.au_step.proofs.Decided.{IsDecided, IsFirm, basis}
use Rattle.au_step.proofs.Desks.{changed_empty, changed_other, desk_tells, mapped_found, settled_changes}
use Rattle.au_step.proofs.Given.{OfCommits, OfRecords, OfRulings, OfTransactions}
use Rattle.au_step.proofs.KeptLawful.{last_moment}
use Rattle.au_step.proofs.Endings.{writes_none}
use Rattle.au_step.proofs.Lists.{all_joined, all_mapped, changed_joined, go_joined}
use Rattle.au_step.proofs.Recorded.{IsLeftSound}
use Rattle.au_step.proofs.Seats.{IsLawfulSeat, after_lawful, all_among, all_stay, clients_stay, is_among, seats_stay, settled_lawful, users_of}
use Rattle.au_step.proofs.Stepping.{IsLawfulStep, IsReady, can_settle}
use Rattle.au_step.proofs.Writes.{after_changes}

-- ---- what becomes of the client's rows

-- what the client's transaction leaves of the rows that are kept
abbrev pub Become : State → ClientNo → List Final → Type 0
Become m client finals = AreFinals (map of_triple m.kept.rows) (transaction_of m.sessions client) finals

-- so it is of each keeping of the state
become : (m : State) (contents : Contents) (client : ClientNo) (finals : List Final) → contents.kept ≡ m.kept → open_of (desk_of contents) client ≡ transaction_of m.sessions client → Become m client finals
    → AreFinals (desk_of contents).rows (open_of (desk_of contents) client) finals
become m contents client finals same tells are =
    subst (λ (k : Kept). AreFinals (map of_triple k.rows) (open_of (desk_of contents) client) finals) (sym same)
    (subst (λ (changes : List RowChange). AreFinals (map of_triple m.kept.rows) changes finals) (sym tells) are)

own_become : (m : State) (client : ClientNo) (finals : List Final) → Become m client finals → AreFinals (desk_in m).rows (open_of (desk_in m) client) finals
own_become m client finals are = become m (contents_in m) client finals refl (desk_tells m.kept m.sessions client) are

-- what is kept once it is committed
committed_is : (m : State) (client : ClientNo) → committed_for (Some client) (contents_in m) ≡ (committed client m).kept
committed_is m client =
    ap (λ (changes : List RowChange). record m.kept { rows = map triple_of (laid_over (map of_triple m.kept.rows) changes) }) (desk_tells m.kept m.sessions client)

left_is : OfCommits → (m : State) (client : ClientNo) (finals : List Final) → IsLawfulState m → Become m client finals
    → changed_all conditions.tree (map final_change finals) m.kept ≡ (committed client m).kept
left_is laws m client finals lawful are = laws.left (contents_in m) client finals lawful.transactions (own_become m client finals are) ∙ committed_is m client

-- the state after the commit
pub committed_firm : OfCommits → (m : State) (client : ClientNo) (finals : List Final) (stamp : ℕ) → IsReady m stamp → Become m client finals → IsFirm (committed client m) stamp
committed_firm laws m client finals stamp ready are = record {
  kept = subst IsLawful (committed_is m client) (laws.kept (contents_in m) client finals ready.lawful.transactions (own_become m client finals are));
  ends = ready.ends;
  moment = ready.moment;
  sessions = settled_lawful (committed client m).kept client m.sessions (seats_stay m.kept (committed client m).kept m.sessions (λ who there. there) ready.lawful.sessions);
  clients = clients_stay (settled client) m.sessions (settled_stays client) ready.lawful.clients;
  drawn = ready.lawful.drawn;
  results = ready.lawful.results;
}

-- ---- the statement behind it

module _ (rulings : OfRulings) (laws : OfCommits) (transactions : OfTransactions) (m : State) (session : Session) (x : Statement) (text : List ℕ) (stamp : ℕ) (r : Ruling) (finals : List Final)
    (ready : IsReady m stamp) (are : Become m session.client finals) (decided : IsDecided (committed session.client m) session x text stamp r) (first : commits_by_kind (kind_of x) ≡ true) where
  -- the state in which it is decided, and all changes
  abbrev between : State
  between = committed session.client m

  abbrev front : List Change
  front = map final_change finals

  abbrev whole_list : List Change
  whole_list = front ++ r.changes

  -- what is kept after all changes
  joined : changed_all conditions.tree whole_list m.kept ≡ changed_all conditions.tree r.changes between.kept
  joined = changed_joined conditions.tree front r.changes m.kept ∙ ap (changed_all conditions.tree r.changes) (left_is laws m session.client finals ready.lawful are)

  goes : AllGoOn conditions false m.kept whole_list
  goes =
      go_joined conditions front r.changes m.kept (laws.goes (contents_in m) session.client finals ready.lawful.transactions (own_become m session.client finals are))
      (subst (λ (k : Kept). AllGoOn conditions false k r.changes) (sym (left_is laws m session.client finals ready.lawful are))
      (rulings.goes (ground_of between session x stamp) x r (basis between session x text stamp r decided) decided.reads.sound decided.comes))

  after : IsWhole (changed_all conditions.tree r.changes between.kept) × EndsWell (changed_all conditions.tree r.changes between.kept)
  after = rulings.whole (ground_of between session x stamp) x r (basis between session x text stamp r decided) decided.reads.sound decided.comes

  written : AllByRecursion IsChangeSpellable whole_list
  written =
      all_joined IsChangeSpellable front r.changes
      (all_mapped IsChangeSpellable final_change finals (laws.spelled (contents_in m) session.client finals ready.lawful.transactions (own_become m session.client finals are)))
      (rulings.written (ground_of between session x stamp) x r (basis between session x text stamp r decided) decided.reads.sound decided.comes)

  few : length whole_list < 2 ^ 32
  few =
      let both = length-append front r.changes in
      let same = length-map finals final_change in
      let some = laws.few (contents_in m) session.client finals ready.lawful.transactions (own_become m session.client finals are) in
      let others = (rulings.few (ground_of between session x stamp) x r (basis between session x text stamp r decided) decided.reads.sound decided.comes).0 in
      omega (arith, both, same, some, others)

  module _ (left : Left) (sound : IsLeftSound left) where
    -- what it leaves, and the state after it
    abbrev logged : Logged
    logged = record { commits = Some session.client; rows = front; changes = r.changes; purge = r.purge; records = left.records }

    abbrev next : State
    next = after_statement between session stamp r left logged

    can : CanBeKept m.kept stamp whole_list left.records
    can = record {
      later = ready.later;
      moment = ready.moment;
      goes = goes;
      whole = subst IsWhole (sym joined) after.0;
      ends = subst EndsWell (sym joined) after.1;
      written = written;
      told = sound.told;
      few_changes = few;
      few_records = sound.few;
    }

    kept : next.kept ≡ kept_through m.kept stamp logged
    kept = ap (λ (k : Kept). record k { trail = trail_left r.purge m.kept.trail ++ left.records; last = last_after m.kept.last stamp logged }) (sym joined)

    -- what is told of busy tables is enough
    told : (contents : Contents) → ((client : ClientNo) → open_of (desk_of contents) client ≡ transaction_of m.sessions client) → TellsBusy (ground_of between session x stamp) x (desk_of contents)
    told contents tells client table differ asked busy =
        busy_told (tables_of session.user x) between.sessions client table asked
        (subst (λ (changes : List RowChange). IsTrue (names_table table changes))
        (tells client ∙ sym (changed_other session.client client (λ before. []) (settled session.client) m.sessions (settled_changes session.client) differ)) busy)

    free : HoldsOfKeepings m (λ contents. AllByRecursion (IsFree (Some session.client) (desk_of contents)) r.changes)
    free contents same tells = rulings.alone (ground_of between session x stamp) x r (desk_of contents) (told contents tells) decided.comes

    is_logged : HoldsOfKeepings m (λ contents. IsLogged (Some session.client) contents r.changes whole_list)
    is_logged contents same tells = (finals, become m contents session.client finals same (tells session.client) are, refl)

    -- ---- the transactions

    none_written : (before : List RowChange) → transaction_after r before ≡ before
    none_written before =
        let none = writes_none (kind_of x) (ground_of between session x stamp) x r first decided.comes in
        ap (λ (b : Bool). if b then [] else before ++ r.rows) none.1 ∙ ap (λ (rows : List RowChange). before ++ rows) none.0 ∙ append-nil before

    at_found : (client : ClientNo) (found : Option OpenSession) → transaction_in (option_map (session_after session r left) found) ≡ transaction_in found
    at_found client None = refl
    at_found client (Some s) = each (is_of session.client s) refl
      where
        each : (own : Bool) → is_of session.client s ≡ own → (session_after session r left s).transaction ≡ s.transaction
        each true is = (after_changes session r left).own_is s is ∙ none_written s.transaction
        each false is = (after_changes session r left).others_are s is

    stays : (client : ClientNo) → open_of (desk_in next) client ≡ transaction_of between.sessions client
    stays client =
        desk_tells next.kept next.sessions client ∙ ap transaction_in (mapped_found (session_after session r left) between.sessions client (after_stays session r left))
        ∙ at_found client (session_of between.sessions client)

    own_none : (client : ClientNo) → Some session.client ≡ Some client → open_of (desk_in next) client ≡ []
    own_none client commits =
        let is : session.client ≡ client = cc in
        subst (λ (c : ClientNo). open_of (desk_in next) c ≡ []) is
        (stays session.client ∙ changed_empty session.client (settled session.client) m.sessions (settled_changes session.client))

    others_stay : (client : ClientNo) → Some session.client ≢ Some client → open_of (desk_in next) client ≡ open_of (desk_in m) client
    others_stay client other =
        stays client
        ∙ changed_other session.client client (λ before. []) (settled session.client) m.sessions (settled_changes session.client) (λ same. other (ap (λ (c : ClientNo). Some c) (sym (same_client client session.client same))))
        ∙ sym (desk_tells m.kept m.sessions client)
      where
        same_client : (a b : ClientNo) → a.0 ≡ b.0 → a ≡ b
        same_client a b is = ap (λ (n : ℕ). let c : ClientNo = record { 0 = n } in c) is

    holds : HoldsTogether next.kept (desk_in next)
    holds =
        let last = last_after m.kept.last stamp logged in
        transactions.settled (contents_in m) (Some session.client) r.changes whole_list left.records last r.purge next.kept (desk_in next) ready.lawful.transactions
        (can_settle m.kept (contents_in m) stamp logged last refl can (last_moment m.kept stamp logged ready.lawful.kept.lawful.last ready.moment)
        (is_logged (contents_in m) refl (desk_tells m.kept m.sessions)) (free (contents_in m) refl (desk_tells m.kept m.sessions)))
        (rulings.rowless (ground_of between session x stamp) x r decided.comes)
        (is_logged (contents_in m) refl (desk_tells m.kept m.sessions)) kept refl refl own_none others_stay

    -- ---- the sessions

    users_stay : (who : List ℕ) → IsTrue (has_user between.kept who) → IsTrue (is_among (users_of between.sessions) who) → IsTrue (has_user next.kept who)
    users_stay who there among =
        rulings.stay (ground_of between session x stamp) x r who (basis between session x text stamp r decided) decided.reads.sound decided.comes there among

    seats : OfRecords → AllByRecursion (IsLawfulSeat next.kept) next.sessions
    seats records =
        after_lawful next.kept session r left between.sessions (records.forgotten r.forgets) sound.ordered.session
        (all_stay between.kept next.kept (users_of between.sessions) between.sessions users_stay decided.firm.sessions (all_among between.sessions))

    pub committing_lawful : OfRecords → IsLawfulStep m stamp logged next
    committing_lawful records = record {
      can = can;
      timely = rulings.purged (ground_of between session x stamp) x r (basis between session x text stamp r decided) decided.comes;
      rowless = rulings.rowless (ground_of between session x stamp) x r decided.comes;
      free = free;
      is_logged = is_logged;
      kept = kept;
      transactions = holds;
      sessions = seats records;
      clients = clients_stay (session_after session r left) between.sessions (after_stays session r left) decided.firm.clients;
      drawn = decided.firm.drawn;
      results = sound.ordered.instance;
    }
