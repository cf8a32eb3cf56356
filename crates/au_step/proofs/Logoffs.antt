-- The step of a logoff is lawful, and a state stays lawful when a session ends that isn't asked to.
use Rattle.std.proofs.Common.{◌≡◌, ◌∙◌, ℕ, [], refl, sym, arith}
use Rattle.std.specs.Prelude.{None, Some, Option, MatchOption}
use Rattle.au_audit.specs.Statements.{logoff_facts}
use Rattle.au_base.specs.Codes.{DONE, NOT_LOGGED_ON}
use Rattle.au_base.specs.declared.numbers.ClientNo.{ClientNo}
use Rattle.au_base.specs.declared.reply.Reply.{Reply}
use Rattle.au_catalog.specs.Settling.{catalog_of}
use Rattle.au_kept.specs.Keeping.{HoldsTogether}
use Rattle.au_recording.specs.declared.left.Left.{Left}
use Rattle.au_recording.specs.Writing.{CanBeRecorded}
use Rattle.au_txn.specs.Desks.{open_of}
use Rattle.au_txn.specs.Keys.{ChangesOne}
use Rattle.au_step.specs.declared.session.Session.{Session}
use Rattle.au_step.specs.Abandoning.{abandoned, sessions_without}
use Rattle.au_step.specs.Lawful.{IsLawfulSession, IsLawfulState, desk_in}
use Rattle.au_step.specs.State.{OpenSession, State}
use Rattle.au_step.specs.Step.{CodeStep, EndStep, Logged, after_logoff, kept_after, logoff_left, logoff_place, recorded}
use Rattle.au_step.proofs.Desks.{desk_tells, desk_with, without_other, without_own}
use Rattle.au_step.proofs.Given.{OfRecords, OfTransactions}
use Rattle.au_step.proofs.Places.{policies_named}
use Rattle.au_step.proofs.Recorded.{IsLeftSound, event_sound}
use Rattle.au_step.proofs.Seats.{IsLawfulSeat, IsOther, seats_stay, without_all}
use Rattle.au_step.proofs.Stepping.{IsLawfulStep, IsReady, at_outcome, code_lawful, recorded_step}

-- ---- the end of a session

-- the client's transaction is lost, and the others are as they were
ends_one : (m : State) (client : ClientNo) → ChangesOne client [] (open_of (desk_in m)) (open_of (desk_with m.kept (sessions_without client m.sessions)))
ends_one m client = record {
  own_are = desk_tells m.kept (sessions_without client m.sessions) client ∙ without_own client m.sessions;
  others_are = λ other differ.
      desk_tells m.kept (sessions_without client m.sessions) other ∙ without_other client other m.sessions differ ∙ sym (desk_tells m.kept m.sessions other);
}

ended_holds : OfTransactions → (m : State) (client : ClientNo) → IsLawfulState m → HoldsTogether m.kept (desk_with m.kept (sessions_without client m.sessions))
ended_holds transactions m client lawful =
    transactions.ended m.kept (desk_in m) (desk_with m.kept (sessions_without client m.sessions)) client lawful.transactions refl refl (ends_one m client)

pub abandoned_lawful : OfTransactions → (m : State) (client : ClientNo) → IsLawfulState m → IsLawfulState (abandoned client m)
abandoned_lawful transactions m client lawful = record {
  kept = lawful.kept;
  sessions = without_all (IsLawfulSeat m.kept) client m.sessions lawful.sessions;
  clients = without_all IsOther client m.sessions lawful.clients;
  transactions = ended_holds transactions m client lawful;
  drawn = lawful.drawn;
  results = lawful.results;
}

-- ---- a logoff

logoff_recorded : (m : State) (session : Session) (stamp : ℕ) → IsLawfulSession m.kept session → IsReady m stamp
    → CanBeRecorded (catalog_of m.kept) (logoff_facts session.user DONE) (logoff_place session stamp) []
logoff_recorded m session stamp own ready = record {
  policies = policies_named m.kept ready.lawful.kept;
  facts = record { user = own.user; action = omega arith; code = omega arith };
  place = record { session = own.number; statement = omega arith; stamp = ready.moment; object = tt; sql = tt };
  fired = tt;
}

logoff_sound : OfRecords → (m : State) (session : Session) (stamp : ℕ) → IsLawfulSession m.kept session → IsReady m stamp → IsLeftSound (logoff_left m session stamp)
logoff_sound records m session stamp own ready =
    event_sound records m session.results (logoff_facts session.user DONE) (logoff_place session stamp) [] []
    (logoff_recorded m session stamp own ready) (record { session = own.results; instance = ready.lawful.results }) (omega arith)

logoff_at : OfTransactions → (m : State) (client : ClientNo) (stamp : ℕ) (left : Left) → IsReady m stamp → IsLeftSound left → IsLawfulStep m stamp (recorded left) (after_logoff m client stamp left)
logoff_at transactions m client stamp left ready sound =
    recorded_step transactions m (after_logoff m client stamp left) stamp left ready sound.told sound.few refl (ended_holds transactions m client ready.lawful)
    (seats_stay m.kept (kept_after m.kept stamp (recorded left)) (sessions_without client m.sessions) (λ who there. there)
    (without_all (IsLawfulSeat m.kept) client m.sessions ready.lawful.sessions))
    (without_all IsOther client m.sessions ready.lawful.clients) ready.lawful.drawn sound.ordered.instance

end_lawful : OfRecords → OfTransactions → (m : State) (session : Session) (client : ClientNo) (stamp : ℕ) (reply : Reply) (logged : Logged) (n : State) → EndStep m session client stamp reply logged n
    → IsLawfulSession m.kept session → IsReady m stamp → IsLawfulStep m stamp logged n
end_lawful records transactions m session client stamp reply logged n step own ready =
    let left = logoff_left m session stamp in
    at_outcome m stamp logged (recorded left) n (after_logoff m client stamp left) step.logs step.next
    (logoff_at transactions m client stamp left ready (logoff_sound records m session stamp own ready))

-- the step of a logoff of a client, where this is the client's session
pub logoff_lawful : OfRecords → OfTransactions → (m : State) (found : Option OpenSession) (client : ClientNo) (stamp : ℕ) (reply : Reply) (logged : Logged) (n : State)
    → MatchOption found (CodeStep m NOT_LOGGED_ON reply logged n) (λ seat. EndStep m seat.session client stamp reply logged n)
    → ((seat : OpenSession) → found ≡ Some seat → IsLawfulSeat m.kept seat) → IsReady m stamp → IsLawfulStep m stamp logged n
logoff_lawful records transactions m None client stamp reply logged n step own ready = code_lawful m NOT_LOGGED_ON stamp reply logged n step ready
logoff_lawful records transactions m (Some seat) client stamp reply logged n step own ready = end_lawful records transactions m seat.session client stamp reply logged n step (own seat refl) ready
