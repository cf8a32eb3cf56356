-- The step of a statement is lawful.
use Rattle.std.proofs.Common.{◌≡◌, ◌≢◌, ◌∙◌, ℕ, Bool, true, false, List, [], map, refl, ap, ap₂, inl, inr}
use Rattle.std.specs.Prelude.{IsUtf8, None, Some, Option, MatchOption, if◌then◌else◌}
use Rattle.au_base.specs.Codes.{NOT_LOGGED_ON}
use Rattle.au_base.specs.declared.numbers.Stamp.{Stamp}
use Rattle.au_base.specs.declared.reply.Reply.{Reply}
use Rattle.au_entries.specs.declared.change.Change.{Change}
use Rattle.au_kept.specs.Staging.{final_change}
use Rattle.au_recording.specs.declared.left.Left.{Left}
use Rattle.au_ruling.specs.declared.ruling.Ruling.{Ruling}
use Rattle.au_ruling.specs.Kinds.{commits, kind_of}
use Rattle.au_ruling.specs.Rulings.{Comes}
use Rattle.au_txn.specs.declared.finals.Final.{Final}
use Rattle.sql_ast.specs.declared.statement.Statement.{Statement}
use Rattle.au_step.specs.declared.session.Session.{Session}
use Rattle.au_step.specs.Lawful.{IsLawfulSession}
use Rattle.au_step.specs.Reading.{ReadsSoundly}
use Rattle.au_step.specs.State.{OpenSession, State}
use Rattle.au_step.specs.Step.{AreFinalsOf, CodeStep, Logged, ReadStep, SessionStep, after_statement, committed, ground_of, recorded, session_of, statement_left}
use Rattle.au_step.proofs.Commits.{committed_firm, committing_lawful}
use Rattle.au_step.proofs.Decided.{IsDecided, ready_firm, statement_sound}
use Rattle.au_step.proofs.Given.{Below}
use Rattle.au_step.proofs.Endings.{keeps_all}
use Rattle.au_step.proofs.Seats.{IsLawfulSeat}
use Rattle.au_step.proofs.Stepping.{IsLawfulStep, IsReady, at_outcome, code_lawful}
use Rattle.au_step.proofs.Writes.{writing_lawful}

-- the state in which a statement is decided, by whether it commits first
abbrev between : Bool → State → Session → State
between first m session = if first then committed session.client m else m

-- what it leaves
abbrev leaves : Bool → Session → List Final → Ruling → Left → Logged
leaves first session finals r left = record {
  commits = if first then Some session.client else None;
  rows = map final_change finals;
  changes = r.changes;
  purge = r.purge;
  records = left.records;
}

-- where it doesn't commit, it leaves its records alone
records_alone : (session : Session) (finals : List Final) (r : Ruling) (left : Left) → finals ≡ [] → r.changes ≡ [] → r.purge ≡ None → leaves false session finals r left ≡ recorded left
records_alone session finals r left none same kept =
    ap (λ (list : List Final). leaves false session list r left) none
    ∙ ap₂ (λ (changes : List Change) (purge : Option (Option Stamp)). let l : Logged = record { commits = None; rows = []; changes = changes; purge = purge; records = left.records } in l) same kept

module _ (below : Below) (m : State) (session : Session) (found : OpenSession) (x : Statement) (text : List ℕ) (stamp : ℕ) (r : Ruling) (finals : List Final)
    (ready : IsReady m stamp) (is : session_of m.sessions session.client ≡ Some found) (other : session.client.0 ≢ 0) (own : IsLawfulSession m.kept session)
    (reads : ReadsSoundly text x) (utf8 : IsUtf8 text) where
  writing : Comes (ground_of m session x stamp) x r → IsDecided m session x text stamp r
  writing comes = record { firm = ready_firm m stamp ready; own = own; reads = reads; utf8 = utf8; comes = comes }

  committing : AreFinalsOf true m session.client finals → Comes (ground_of (committed session.client m) session x stamp) x r → IsDecided (committed session.client m) session x text stamp r
  committing are comes = record {
    firm = committed_firm below.commits m session.client finals stamp ready are;
    own = record { user = own.user; there = own.there; some = own.some; number = own.number; results = own.results };
    reads = reads;
    utf8 = utf8;
    comes = comes;
  }

  -- by whether it commits first
  decided_lawful : (first : Bool) → commits x ≡ first → AreFinalsOf first m session.client finals → Comes (ground_of (between first m session) session x stamp) x r
      → IsLawfulStep m stamp (leaves first session finals r (statement_left (between first m session) session stamp x text r))
      (after_statement (between first m session) session stamp r (statement_left (between first m session) session stamp x text r)
      (leaves first session finals r (statement_left (between first m session) session stamp x text r)))
  decided_lawful true first are comes =
      let decided = committing are comes in
      let left = statement_left (committed session.client m) session stamp x text r in
      committing_lawful below.rulings below.commits below.transactions m session x text stamp r finals ready are decided first left
      (statement_sound below.rulings below.texts below.records (committed session.client m) session x text stamp r decided) below.records
  decided_lawful false first are comes =
      let left = statement_left m session stamp x text r in
      let none = keeps_all (kind_of x) (ground_of m session x stamp) x r first comes in
      let same = records_alone session finals r left are none.0 none.1 in
      at_outcome m stamp (leaves false session finals r left) (recorded left) _ _ same (ap (after_statement m session stamp r left) same)
      (writing_lawful below.rulings below.records below.transactions m session found x text stamp r left ready (writing comes) is other first
      (statement_sound below.rulings below.texts below.records m session x text stamp r (writing comes)))

read_lawful : Below → (m : State) (session : Session) (found : OpenSession) (text : List ℕ) (stamp : ℕ) (reply : Reply) (logged : Logged) (n : State)
    → ReadStep m session text stamp reply logged n → IsUtf8 text → IsReady m stamp → session_of m.sessions session.client ≡ Some found → session.client.0 ≢ 0 → IsLawfulSession m.kept session
    → IsLawfulStep m stamp logged n
read_lawful below m session found text stamp reply logged n read utf8 ready is other own =
    let step = read.step in
    let x = read.statement in
    at_outcome m stamp logged _ n _ step.logs
    (step.next ∙ ap (λ (l : Logged). after_statement (between (commits x) m session) session stamp step.ruling (statement_left (between (commits x) m session) session stamp x text step.ruling) l) step.logs)
    (decided_lawful below m session found x text stamp step.ruling step.finals ready is other own read.reads utf8 (commits x) refl step.are_finals step.comes)

session_lawful : Below → (m : State) (session : Session) (found : OpenSession) (text : List ℕ) (stamp : ℕ) (reply : Reply) (logged : Logged) (n : State)
    → SessionStep m session text stamp reply logged n → IsUtf8 text → IsReady m stamp → session_of m.sessions session.client ≡ Some found → session.client.0 ≢ 0 → IsLawfulSession m.kept session
    → IsLawfulStep m stamp logged n
session_lawful below m session found text stamp reply logged n (inl read) utf8 ready is other own = read_lawful below m session found text stamp reply logged n read utf8 ready is other own
session_lawful below m session found text stamp reply logged n (inr unread) utf8 ready is other own = code_lawful m unread.0 stamp reply logged n unread.2 ready

-- the step of a text of a client, where this is the client's session
pub sql_lawful : Below → (m : State) (text : List ℕ) (stamp : ℕ) (reply : Reply) (logged : Logged) (n : State) (found : Option OpenSession)
    → MatchOption found (CodeStep m NOT_LOGGED_ON reply logged n) (λ seat. SessionStep m seat.session text stamp reply logged n)
    → ((seat : OpenSession) → found ≡ Some seat → IsLawfulSeat m.kept seat × (session_of m.sessions seat.session.client ≡ Some seat) × (seat.session.client.0 ≢ 0)) → IsUtf8 text → IsReady m stamp
    → IsLawfulStep m stamp logged n
sql_lawful below m text stamp reply logged n None step own utf8 ready = code_lawful m NOT_LOGGED_ON stamp reply logged n step ready
sql_lawful below m text stamp reply logged n (Some seat) step own utf8 ready =
    let of = own seat refl in
    session_lawful below m seat.session seat text stamp reply logged n step utf8 ready of.1 of.2 of.0
