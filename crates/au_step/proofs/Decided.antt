-- What a statement comes to in a state in which it is decided, and what auditing leaves of it.
use Rattle.std.proofs.Common.{ℕ, ◌≤◌, List, arith}
use Rattle.std.specs.Prelude.{IsTrue, IsUtf8}
use Rattle.std.specs.List.{AllByRecursion}
use Rattle.au_audit.specs.Conditions.{result_before}
use Rattle.au_audit.specs.Statements.{object_of, statement_facts}
use Rattle.au_base.specs.Limits.{INSTANCE_SESSIONS, LAST_MOMENT}
use Rattle.au_base.specs.Order.{is_in_order}
use Rattle.au_catalog.specs.Settling.{catalog_of}
use Rattle.au_policy.specs.Asking.{AreInOrder}
use Rattle.au_recording.specs.Writing.{CanBeRecorded}
use Rattle.au_ruling.specs.declared.ruling.Ruling.{Ruling}
use Rattle.au_ruling.specs.Rulings.{Comes}
use Rattle.au_ruling.specs.Sound.{IsSoundGround}
use Rattle.sql_ast.specs.declared.statement.Statement.{Statement}
use Rattle.au_step.specs.declared.session.Session.{Session}
use Rattle.au_step.specs.Lawful.{IsLawful, IsLawfulSession}
use Rattle.au_step.specs.Reading.{ReadsSoundly}
use Rattle.au_step.specs.Replaying.{EndsWell}
use Rattle.au_step.specs.State.{State}
use Rattle.au_step.specs.Step.{ground_of, results_seen, statement_left, statement_place}
use Rattle.au_step.proofs.Given.{OfRecords, OfRulings, OfTexts}
use Rattle.au_step.proofs.Places.{action_some, object_named, policies_named}
use Rattle.au_step.proofs.Recorded.{IsLeftSound, event_sound}
use Rattle.au_step.proofs.Seats.{IsLawfulSeat, IsOther}
use Rattle.au_step.proofs.Stepping.{IsReady}
use Rattle.au_step.proofs.Texts.{recorded_written}

-- what is so of a state in which a statement is decided at this stamp
pub record IsFirm (d : State) (stamp : ℕ) : Type 0 where
  pub kept : IsLawful d.kept
  pub ends : EndsWell d.kept
  pub moment : stamp ≤ LAST_MOMENT
  pub sessions : AllByRecursion (IsLawfulSeat d.kept) d.sessions
  pub clients : AllByRecursion IsOther d.sessions
  pub drawn : d.drawn ≤ INSTANCE_SESSIONS
  pub results : IsTrue (is_in_order result_before d.results)

-- a state from which steps go is one
pub ready_firm : (m : State) (stamp : ℕ) → IsReady m stamp → IsFirm m stamp
ready_firm m stamp ready = record {
  kept = ready.lawful.kept;
  ends = ready.ends;
  moment = ready.moment;
  sessions = ready.lawful.sessions;
  clients = ready.lawful.clients;
  drawn = ready.lawful.drawn;
  results = ready.lawful.results;
}

-- a lawful session of it is sound ground
pub sound_ground : (d : State) (session : Session) (x : Statement) (stamp : ℕ) → IsFirm d stamp → IsLawfulSession d.kept session → IsSoundGround (ground_of d session x stamp)
sound_ground d session x stamp firm own =
    record { kept = firm.kept; system = firm.ends; user = own.there; named = own.user; number = own.number; stamp = firm.moment }

-- what is so of a statement that is read and decided there
pub record IsDecided (d : State) (session : Session) (x : Statement) (text : List ℕ) (stamp : ℕ) (r : Ruling) : Type 0 where
  pub firm : IsFirm d stamp
  pub own : IsLawfulSession d.kept session
  pub reads : ReadsSoundly text x
  pub utf8 : IsUtf8 text
  pub comes : Comes (ground_of d session x stamp) x r

pub basis : (d : State) (session : Session) (x : Statement) (text : List ℕ) (stamp : ℕ) (r : Ruling) → IsDecided d session x text stamp r → IsSoundGround (ground_of d session x stamp)
basis d session x text stamp r is = sound_ground d session x stamp is.firm is.own

-- ---- what auditing leaves of it

statement_recorded : OfRulings → OfTexts → (d : State) (session : Session) (x : Statement) (text : List ℕ) (stamp : ℕ) (r : Ruling) → IsDecided d session x text stamp r
    → CanBeRecorded (catalog_of d.kept) (statement_facts session.user x r.used r.code) (statement_place session stamp x text) r.fired
statement_recorded rulings texts d session x text stamp r is =
    let g = ground_of d session x stamp in
    let told = rulings.told g x r is.comes in
    record {
      policies = policies_named d.kept is.firm.kept;
      facts = record { user = is.own.user; action = action_some x; code = told.0 };
      place = record {
        session = is.own.number;
        statement = omega arith;
        stamp = is.firm.moment;
        object = object_named (object_of session.user x) (rulings.object session.user x is.own.user is.reads.sound);
        sql = recorded_written texts text x is.utf8 is.reads.reads is.reads.placed;
      };
      fired = rulings.fired g x r (basis d session x text stamp r is) is.comes;
    }

-- the results before it stand in order
seen_ordered : (d : State) (session : Session) (stamp : ℕ) → IsFirm d stamp → IsLawfulSession d.kept session → AreInOrder (results_seen d session.results)
seen_ordered d session stamp firm own = record { session = own.results; instance = firm.results }

pub statement_sound : OfRulings → OfTexts → OfRecords → (d : State) (session : Session) (x : Statement) (text : List ℕ) (stamp : ℕ) (r : Ruling) → IsDecided d session x text stamp r
    → IsLeftSound (statement_left d session stamp x text r)
statement_sound rulings texts records d session x text stamp r is =
    event_sound records d session.results (statement_facts session.user x r.used r.code) (statement_place session stamp x text) r.fired r.forgets
    (statement_recorded rulings texts d session x text stamp r is)
    (seen_ordered d session stamp is.firm is.own)
    (rulings.few (ground_of d session x stamp) x r (basis d session x text stamp r is) is.reads.sound is.comes).1
