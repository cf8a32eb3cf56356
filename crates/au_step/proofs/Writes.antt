-- The step of a statement that doesn't commit is lawful: of what is kept it changes nothing but the trail.
use Rattle.std.proofs.Common.{◌≡◌, ◌≢◌, ◌∙◌, ℕ, Bool, true, false, List, [], ◌++◌, map, refl, sym, ap, subst}
use Rattle.std.specs.Prelude.{Some, if◌then◌else◌}
use Rattle.au_kept.specs.Keeping.{HoldsTogether}
use Rattle.au_recording.specs.declared.left.Left.{Left}
use Rattle.au_ruling.specs.declared.kind.StatementKind.{StatementKind}
use Rattle.au_ruling.specs.declared.kind.StatementKind.TheVariants.{OnRows, Commit, Rollback, Definition, Administration}
use Rattle.au_ruling.specs.declared.ruling.Ruling.{Ruling}
use Rattle.au_ruling.specs.Kinds.{commits_by_kind, kind_of}
use Rattle.au_ruling.specs.Rulings.{ComesAs}
use Rattle.au_ruling.specs.Sound.{IsDeskIn}
use Rattle.au_txn.specs.declared.change.RowChange.{RowChange}
use Rattle.au_txn.specs.Desks.{open_of}
use Rattle.au_txn.specs.Keys.{ChangesOne}
use Rattle.au_writing.specs.Written.{CanBeWritten}
use Rattle.sql_ast.specs.declared.statement.Statement.{Statement}
use Rattle.au_step.specs.declared.session.Session.{Session}
use Rattle.au_step.specs.Lawful.{IsLawfulState, desk_in}
use Rattle.au_step.specs.State.{OpenSession, State}
use Rattle.au_step.specs.Step.{after_statement, ground_of, kept_after, recorded, session_after, session_of, transaction_after}
use Rattle.au_step.proofs.Clients.{after_stays, is_of}
use Rattle.au_step.proofs.Decided.{IsDecided, basis}
use Rattle.au_step.proofs.Desks.{ChangesOwn, changed_other, changed_own, desk_tells, desk_with}
use Rattle.au_step.proofs.Given.{OfRecords, OfRulings, OfTransactions}
use Rattle.au_step.proofs.Recorded.{IsLeftSound}
use Rattle.au_step.proofs.Seats.{after_lawful, clients_stay, seats_stay}
use Rattle.au_step.proofs.Stepping.{IsLawfulStep, IsReady, recorded_step}

-- ---- the transactions after a statement

own_after : (session : Session) (ruling : Ruling) (left : Left) (s : OpenSession) (own : Bool) (a : Session) (t : List RowChange) (b : Session) → own ≡ true
    → (if own then record { session = a; transaction = t } else record s { session = b }).transaction ≡ t
own_after session ruling left s true a t b is = refl
own_after session ruling left s false a t b is = absurd (let e : false ≡ true = is in cc)

other_after : (s : OpenSession) (own : Bool) (a : Session) (t : List RowChange) (b : Session) → own ≡ false
    → (if own then record { session = a; transaction = t } else record s { session = b }).transaction ≡ s.transaction
other_after s true a t b is = absurd (let e : true ≡ false = is in cc)
other_after s false a t b is = refl

pub after_changes : (session : Session) (ruling : Ruling) (left : Left) → ChangesOwn session.client (transaction_after ruling) (session_after session ruling left)
after_changes session ruling left = record {
  stays = after_stays session ruling left;
  own_is = λ s is. own_after session ruling left s (is_of session.client s) _ _ _ is;
  others_are = λ s is. other_after s (is_of session.client s) _ _ _ is;
}

-- the sessions after the statement
abbrev pub seats_after : State → Session → Ruling → Left → List OpenSession
seats_after m session ruling left = map (session_after session ruling left) m.sessions

-- the client's transaction goes on or is undone, and the others are as they were
after_one : (m : State) (session : Session) (found : OpenSession) (ruling : Ruling) (left : Left) → session_of m.sessions session.client ≡ Some found
    → ChangesOne session.client (transaction_after ruling (open_of (desk_in m) session.client)) (open_of (desk_in m)) (open_of (desk_with m.kept (seats_after m session ruling left)))
after_one m session found ruling left is = record {
  own_are =
      desk_tells m.kept (seats_after m session ruling left) session.client
      ∙ changed_own session.client (transaction_after ruling) (session_after session ruling left) m.sessions found (after_changes session ruling left) is
      ∙ ap (transaction_after ruling) (sym (desk_tells m.kept m.sessions session.client));
  others_are = λ other differ.
      desk_tells m.kept (seats_after m session ruling left) other
      ∙ changed_other session.client other (transaction_after ruling) (session_after session ruling left) m.sessions (after_changes session ruling left) differ
      ∙ sym (desk_tells m.kept m.sessions other);
}

goes_on : (ruling : Ruling) (before : List RowChange) → ruling.undoes ≡ false → transaction_after ruling before ≡ before ++ ruling.rows
goes_on ruling before is = ap (λ (b : Bool). if b then [] else before ++ ruling.rows) is

undone : (ruling : Ruling) (before : List RowChange) → ruling.undoes ≡ true → transaction_after ruling before ≡ []
undone ruling before is = ap (λ (b : Bool). if b then [] else before ++ ruling.rows) is

-- ---- they hold together with what is kept

-- the desk is that of what the statement is decided in
pub desk_is : (m : State) (session : Session) (x : Statement) (stamp : ℕ) → IsDeskIn (ground_of m session x stamp) (desk_in m)
desk_is m session x stamp = record { rows = refl; changes = λ client. desk_tells m.kept m.sessions client }

written_holds : OfTransactions → (m : State) (session : Session) (found : OpenSession) (ruling : Ruling) (left : Left) → IsLawfulState m → session_of m.sessions session.client ≡ Some found → session.client.0 ≢ 0
    → ruling.undoes ≡ false → CanBeWritten m.kept (desk_in m) session.client ruling.rows → HoldsTogether m.kept (desk_with m.kept (seats_after m session ruling left))
written_holds transactions m session found ruling left lawful is other goes can =
    transactions.written m.kept (desk_in m) (desk_with m.kept (seats_after m session ruling left)) session.client ruling.rows lawful.transactions other can.writable can.old can.keys can.sound refl refl
    (subst (λ (own : List RowChange). ChangesOne session.client own (open_of (desk_in m)) (open_of (desk_with m.kept (seats_after m session ruling left))))
    (goes_on ruling (open_of (desk_in m) session.client) goes) (after_one m session found ruling left is))

undone_holds : OfTransactions → (m : State) (session : Session) (found : OpenSession) (ruling : Ruling) (left : Left) → IsLawfulState m → session_of m.sessions session.client ≡ Some found
    → ruling.undoes ≡ true → HoldsTogether m.kept (desk_with m.kept (seats_after m session ruling left))
undone_holds transactions m session found ruling left lawful is undoes =
    transactions.ended m.kept (desk_in m) (desk_with m.kept (seats_after m session ruling left)) session.client lawful.transactions refl refl
    (subst (λ (own : List RowChange). ChangesOne session.client own (open_of (desk_in m)) (open_of (desk_with m.kept (seats_after m session ruling left))))
    (undone ruling (open_of (desk_in m) session.client) undoes) (after_one m session found ruling left is))

by_kind : OfTransactions → (m : State) (session : Session) (found : OpenSession) (x : Statement) (stamp : ℕ) (r : Ruling) (left : Left) (kind : StatementKind) → IsLawfulState m
    → session_of m.sessions session.client ≡ Some found → session.client.0 ≢ 0 → commits_by_kind kind ≡ false → ComesAs kind (ground_of m session x stamp) x r
    → CanBeWritten m.kept (desk_in m) session.client r.rows → HoldsTogether m.kept (desk_with m.kept (seats_after m session r left))
by_kind transactions m session found x stamp r left OnRows lawful is other none (plan, of_plan, same) can =
    written_holds transactions m session found r left lawful is other (ap (λ (some : Ruling). some.undoes) same) can
by_kind transactions m session found x stamp r left Rollback lawful is other none same can =
    undone_holds transactions m session found r left lawful is (ap (λ (some : Ruling). some.undoes) same)
by_kind transactions m session found x stamp r left Commit lawful is other none same can = absurd (let e : true ≡ false = none in cc)
by_kind transactions m session found x stamp r left Definition lawful is other none same can = absurd (let e : true ≡ false = none in cc)
by_kind transactions m session found x stamp r left Administration lawful is other none same can = absurd (let e : true ≡ false = none in cc)

-- ---- the step

-- the state after it
abbrev pub written_state : State → Session → ℕ → Ruling → Left → State
written_state m session stamp r left = after_statement m session stamp r left (recorded left)

pub writing_lawful : OfRulings → OfRecords → OfTransactions → (m : State) (session : Session) (found : OpenSession) (x : Statement) (text : List ℕ) (stamp : ℕ) (r : Ruling) (left : Left) → IsReady m stamp
    → IsDecided m session x text stamp r → session_of m.sessions session.client ≡ Some found → session.client.0 ≢ 0 → commits_by_kind (kind_of x) ≡ false → IsLeftSound left
    → IsLawfulStep m stamp (recorded left) (written_state m session stamp r left)
writing_lawful rulings records transactions m session found x text stamp r left ready decided is other none sound =
    recorded_step transactions m (written_state m session stamp r left) stamp left ready sound.told sound.few refl
    (by_kind transactions m session found x stamp r left (kind_of x) ready.lawful is other none decided.comes
    (rulings.rows (ground_of m session x stamp) x r (desk_in m) ready.lawful.transactions (desk_is m session x stamp) (basis m session x text stamp r decided) decided.reads.sound decided.comes))
    (after_lawful (kept_after m.kept stamp (recorded left)) session r left m.sessions (records.forgotten r.forgets) sound.ordered.session
    (seats_stay m.kept (kept_after m.kept stamp (recorded left)) m.sessions (λ who there. there) ready.lawful.sessions))
    (clients_stay (session_after session r left) m.sessions (after_stays session r left) ready.lawful.clients) ready.lawful.drawn sound.ordered.instance
