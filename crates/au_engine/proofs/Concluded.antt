-- What a statement that is decided makes of the state.
use Rattle.std.proofs.Common.{◌≡◌, ◌≢◌, ◌∙◌, ◌==◌, ℕ, Bool, true, false, List, [], ◌∷◌, ◌++◌, length, map, take, drop, refl, sym, ap, ap₂, subst}
use Rattle.std.specs.Prelude.{⊤, Option, Some, None, IsTrue, is_some, if◌then◌else◌}
use Rattle.std.specs.List.{filter_map}
use Rattle.std.proofs.Math.Seq.{drop-append_seam, take-append_seam}
use Rattle.std.proofs.lemmas.List.{length-map}
use Rattle.au_base.specs.declared.numbers.ClientNo.{ClientNo}
use Rattle.au_base.specs.declared.numbers.Stamp.{Stamp}
use Rattle.au_entries.specs.declared.change.Change.{Change}
use Rattle.au_entries.specs.declared.kept.Kept.{Kept}
use Rattle.au_entries.specs.declared.trail_record.Record.{Record}
use Rattle.au_entries.specs.Frames.{after_parts}
use Rattle.au_kept.specs.Keeping.{Contents, desk_of}
use Rattle.au_kept.specs.Staging.{final_change}
use Rattle.au_recording.specs.declared.left.Left.{Left}
use Rattle.au_replay.specs.Reading.{conditions}
use Rattle.au_ruling.specs.declared.ruling.Ruling.{Ruling}
use Rattle.au_ruling.specs.Kinds.{commits as commits_first, is_on_rows}
use Rattle.au_ruling.specs.Rulings.{Comes}
use Rattle.au_step.specs.declared.session.Session.{Session}
use Rattle.au_step.specs.Sound.{HoldsOfKeepings}
use Rattle.au_step.specs.State.{OpenSession, State}
use Rattle.au_step.specs.Step.{Logged, after_statement, counted, counting, decided_in, ground_of, kept_after, last_after, session_after, session_of, settled, statement_logged, transaction_after, with_more}
use Rattle.au_txn.specs.declared.change.RowChange.{RowChange}
use Rattle.au_txn.specs.declared.finals.Final.{Final}
use Rattle.au_writing.specs.Written.{CanBeWritten}
use Rattle.sql_ast.specs.declared.statement.Statement.{Statement}
use Rattle.au_engine.specs.declared.outcome.RowsChange.{RowsChange}
use Rattle.au_engine.specs.declared.outcome.RowsChange.TheVariants as rows
use Rattle.au_engine.specs.declared.outcome.SessionChange.{SessionChange}
use Rattle.au_engine.specs.declared.outcome.SessionChange.TheVariants.{Counts}
use Rattle.au_engine.specs.Inside.{AreWritten, IsOwn}
use Rattle.au_engine.specs.Prepared.{CanCount, CanWriteIn, IsAlone, commits_by, committed_by, session_left, state_after, transaction_left}
use Rattle.au_engine.specs.Sessions.{forgotten}
use Rattle.au_engine.proofs.Rulings.{decided, quiet_ruling, rows_ruling}
use Rattle.au_engine.proofs.Views.{seat_of}

-- ---- sessions

-- what becomes of a transaction by a statement that commits or not, and came to this
abbrev pub left_by : Bool → Ruling → List RowChange → List RowChange
left_by b ruling t = if b then [] else transaction_after ruling t

left_at : (b : Bool) (session : Session) (ruling : Ruling) (left : Left) (change : RowsChange) (statements entries : ℕ) (seat : OpenSession) → statements ≡ counted session.statements → entries ≡ with_more session.entries (length left.records)
    → transaction_left change seat.transaction ≡ transaction_after ruling seat.transaction
    → (if b then seat_of (counting statements entries left.results.session seat.session) (transaction_left change seat.transaction) else seat_of (forgotten ruling.forgets seat.session) seat.transaction)
    ≡ (if b then seat_of (counting (counted session.statements) (with_more session.entries (length left.records)) left.results.session seat.session) (transaction_after ruling seat.transaction)
    else seat_of (forgotten ruling.forgets seat.session) seat.transaction)
left_at true session ruling left change statements entries seat count more is =
    ap₂ seat_of (ap₂ (λ (s e : ℕ). counting s e left.results.session seat.session) count more) is
left_at false session ruling left change statements entries seat count more is = refl

kept_seats : (session : Session) (ruling : Ruling) (left : Left) (change : RowsChange) (statements entries : ℕ) (sessions : List OpenSession) → statements ≡ counted session.statements → entries ≡ with_more session.entries (length left.records)
    → ((t : List RowChange) → transaction_left change t ≡ transaction_after ruling t)
    → map (session_left session.client statements entries left.results.session ruling.forgets change) sessions ≡ map (session_after session ruling left) sessions
kept_seats session ruling left change statements entries [] count more is = refl
kept_seats session ruling left change statements entries (seat ∷ sessions) count more is =
    ap₂ (λ (x : OpenSession) (xs : List OpenSession). x ∷ xs)
    (left_at (seat.session.client.0 == session.client.0) session ruling left change statements entries seat count more (is seat.transaction))
    (kept_seats session ruling left change statements entries sessions count more is)

settled_at : (b : Bool) (session : Session) (ruling : Ruling) (left : Left) (change : RowsChange) (statements entries : ℕ) (seat : OpenSession) → (seat.session.client.0 == session.client.0) ≡ b
    → statements ≡ counted session.statements → entries ≡ with_more session.entries (length left.records)
    → transaction_left change seat.transaction ≡ transaction_after ruling []
    → (if b then seat_of (counting statements entries left.results.session seat.session) (transaction_left change seat.transaction) else seat_of (forgotten ruling.forgets seat.session) seat.transaction)
    ≡ session_after session ruling left (if b then record seat { transaction = [] } else seat)
settled_at true session ruling left change statements entries seat same count more is =
    ap₂ seat_of (ap₂ (λ (s e : ℕ). counting s e left.results.session seat.session) count more) is
    ∙ sym (ap (λ (b : Bool). if b then seat_of (counting (counted session.statements) (with_more session.entries (length left.records)) left.results.session seat.session) (transaction_after ruling [])
    else seat_of (forgotten ruling.forgets seat.session) []) same)
settled_at false session ruling left change statements entries seat same count more is =
    sym (ap (λ (b : Bool). if b then seat_of (counting (counted session.statements) (with_more session.entries (length left.records)) left.results.session seat.session) (transaction_after ruling seat.transaction)
    else seat_of (forgotten ruling.forgets seat.session) seat.transaction) same)

settled_seats : (session : Session) (ruling : Ruling) (left : Left) (change : RowsChange) (statements entries : ℕ) (sessions : List OpenSession) → statements ≡ counted session.statements → entries ≡ with_more session.entries (length left.records)
    → ((t : List RowChange) → transaction_left change t ≡ transaction_after ruling [])
    → map (session_left session.client statements entries left.results.session ruling.forgets change) sessions ≡ map (session_after session ruling left) (map (settled session.client) sessions)
settled_seats session ruling left change statements entries [] count more is = refl
settled_seats session ruling left change statements entries (seat ∷ sessions) count more is =
    ap₂ (λ (x : OpenSession) (xs : List OpenSession). x ∷ xs)
    (settled_at (seat.session.client.0 == session.client.0) session ruling left change statements entries seat refl count more (is seat.transaction))
    (settled_seats session ruling left change statements entries sessions count more is)

none_after : (ruling : Ruling) → ruling.rows ≡ [] → ruling.undoes ≡ false → [] ≡ transaction_after ruling []
none_after ruling none kept = sym (ap₂ (λ (undoes : Bool) (xs : List RowChange). if undoes then [] else xs) kept none)

-- the sessions after the statement, from those before all else
pub seats_made : (b : Bool) (m : State) (session : Session) (ruling : Ruling) (left : Left) (change : RowsChange) (statements entries : ℕ) → statements ≡ counted session.statements → entries ≡ with_more session.entries (length left.records)
    → ((t : List RowChange) → transaction_left change t ≡ left_by b ruling t) → (b ≡ true → (ruling.rows ≡ []) × (ruling.undoes ≡ false))
    → map (session_left session.client statements entries left.results.session ruling.forgets change) m.sessions ≡ map (session_after session ruling left) (decided b m session.client).sessions
seats_made true m session ruling left change statements entries count more is writes =
    settled_seats session ruling left change statements entries m.sessions count more (λ t. is t ∙ none_after ruling (writes refl).0 (writes refl).1)
seats_made false m session ruling left change statements entries count more is writes = kept_seats session ruling left change statements entries m.sessions count more is

-- ---- the state

abbrev pub state_of : Kept → List OpenSession → ℕ → List (List ℕ × Bool) → State
state_of kept sessions drawn results = record { kept = kept; sessions = sessions; drawn = drawn; results = results }

-- the whole state, by what is kept, the last stamp and the sessions
pub state_made : (b : Bool) (m : State) (session : Session) (stamp : ℕ) (ruling : Ruling) (left : Left) (logged : Logged) (last : Stamp) (sessions : List OpenSession) → logged.commits ≡ (if b then Some session.client else None)
    → last ≡ last_after m.kept.last stamp logged → sessions ≡ map (session_after session ruling left) (decided b m session.client).sessions
    → state_of (after_parts conditions.tree last logged.purge logged.changes logged.records (committed_by logged.commits m).kept) sessions m.drawn left.results.instance
    ≡ after_statement (decided b m session.client) session stamp ruling left logged
state_made true m session stamp ruling left logged last sessions commits late is =
    ap₂ (λ (k : Kept) (s : List OpenSession). state_of k s m.drawn left.results.instance)
    (ap₂ (λ (c : Option ClientNo) (l : Stamp). after_parts conditions.tree l logged.purge logged.changes logged.records (committed_by c m).kept) commits late) is
state_made false m session stamp ruling left logged last sessions commits late is =
    ap₂ (λ (k : Kept) (s : List OpenSession). state_of k s m.drawn left.results.instance)
    (ap₂ (λ (c : Option ClientNo) (l : Stamp). after_parts conditions.tree l logged.purge logged.changes logged.records (committed_by c m).kept) commits late) is

-- ---- what it leaves to be kept

abbrev pub logged_of : Option ClientNo → List Change → List Change → Option (Option Stamp) → List Record → Logged
logged_of commits rows changes purge records = record { commits = commits; rows = rows; changes = changes; purge = purge; records = records }

taken : (finals : List Final) (count : ℕ) (all changes : List Change) → count ≡ length finals → all ≡ map final_change finals ++ changes → take count all ≡ map final_change finals
taken finals count all changes counts is =
    ap₂ (λ (n : ℕ) (xs : List Change). take n xs) (counts ∙ sym (length-map finals final_change)) is ∙ take-append_seam (map final_change finals) changes

pub dropped : (finals : List Final) (count : ℕ) (all changes : List Change) → count ≡ length finals → all ≡ map final_change finals ++ changes → drop count all ≡ changes
dropped finals count all changes counts is =
    ap₂ (λ (n : ℕ) (xs : List Change). drop n xs) (counts ∙ sym (length-map finals final_change)) is ∙ drop-append_seam (map final_change finals) changes

-- what is taken and dropped of all its changes are those of rows and its own
pub logged_made : (session : Session) (statement : Statement) (finals : List Final) (ruling : Ruling) (left : Left) (change : RowsChange) (count : ℕ) (all : List Change) → commits_by session.client change ≡ (if commits_first statement then Some session.client else None)
    → count ≡ length finals → all ≡ map final_change finals ++ ruling.changes
    → logged_of (commits_by session.client change) (take count all) (drop count all) ruling.purge left.records ≡ statement_logged statement session finals ruling left
logged_made session statement finals ruling left change count all commits counts is =
    ap₂ (λ (c : Option ClientNo) (rs : List Change). logged_of c rs (drop count all) ruling.purge left.records) commits (taken finals count all ruling.changes counts is)
    ∙ ap (λ (cs : List Change). logged_of (if commits_first statement then Some session.client else None) (map final_change finals) cs ruling.purge left.records) (dropped finals count all ruling.changes counts is)

-- ---- that it can be made

uncommitted : (b : Bool) (client : ClientNo) → None ≡ (if b then Some client else None) → b ≡ false
uncommitted true client is = absurd (let e : None ≡ Some client = is in cc)
uncommitted false client is = refl

-- nothing else is changed where a transaction goes on or is undone
pub alone : (b : Bool) (client : ClientNo) (change : RowsChange) (others : List Change) → commits_by client change ≡ (if b then Some client else None) → (b ≡ false → others ≡ []) → IsAlone change others
alone b client rows.Nothing others is quiet = tt
alone b client rows.Commits others is quiet = tt
alone b client (rows.Writes changes contents) others is quiet = quiet (uncommitted b client is)
alone b client rows.Undoes others is quiet = quiet (uncommitted b client is)

undecided : (b : Bool) (m : State) (client : ClientNo) → b ≡ false → decided b m client ≡ m
undecided b m client is = ap (λ (b : Bool). decided b m client) is

-- what is written can be written
pub can_write : (m : State) (session : Session) (statement : Statement) (ruling : Ruling) (change : RowsChange)
    → (commits_first statement ≡ false → ruling.undoes ≡ false → HoldsOfKeepings m (λ contents. CanBeWritten contents.kept (desk_of contents) session.client ruling.rows))
    → AreWritten (commits_first statement) ruling.undoes ruling.rows change → CanWriteIn m session.client change
can_write m session statement ruling rows.Nothing can are = tt
can_write m session statement ruling rows.Commits can are = tt
can_write m session statement ruling (rows.Writes changes contents) can are = record {
  can = subst (λ (cs : List RowChange). HoldsOfKeepings m (λ contents. CanBeWritten contents.kept (desk_of contents) session.client cs)) (sym are.same) (can are.stays are.goes_on);
  cells_are = are.cells_are;
}
can_write m session statement ruling rows.Undoes can are = tt

-- by the law of what can be written
pub can_by_law : (m : State) (session : Session) (statement : Statement) (stamp : ℕ) (ruling : Ruling) (own : IsOwn m session)
    → (is_on_rows statement ≡ true → Comes (ground_of m own.seat.session statement stamp) statement ruling → HoldsOfKeepings m (λ contents. CanBeWritten contents.kept (desk_of contents) own.seat.session.client ruling.rows))
    → Comes (ground_of (decided_in m session.client statement) session statement stamp) statement ruling
    → commits_first statement ≡ false → ruling.undoes ≡ false → HoldsOfKeepings m (λ contents. CanBeWritten contents.kept (desk_of contents) session.client ruling.rows)
can_by_law m session statement stamp ruling own law comes stays goes_on =
    let on_rows = rows_ruling (ground_of (decided_in m session.client statement) session statement stamp) statement ruling comes stays goes_on in
    let here = subst (λ (n : State). Comes (ground_of n session statement stamp) statement ruling) (undecided (commits_first statement) m session.client stays) comes in
    let mine = subst (λ (s : Session). Comes (ground_of m s statement stamp) statement ruling) (sym own.is) here in
    subst (λ (s : Session). HoldsOfKeepings m (λ contents. CanBeWritten contents.kept (desk_of contents) s.client ruling.rows)) own.is (law on_rows mine)

-- the session's client has a session
pub stands : (m : State) (session : Session) → IsOwn m session → IsTrue (is_some (session_of m.sessions session.client))
stands m session own = ap (λ (o : Option OpenSession). is_some o) own.found
