-- The step of a logon is lawful.
use Rattle.std.proofs.Common.{◌≡◌, ◌≢◌, ◌∙◌, ℕ, ◌≤◌, ◌<◌, ◌+◌, ◌*◌, Bool, true, false, ◌==◌, [], ◌∷◌, ◌++◌, length, refl, sym, ap, subst, arith}
use Rattle.std.specs.Prelude.{IsTrue, MatchBool, nat_le, if◌then◌else◌}
use Rattle.std.specs.List.{AllByRecursion}
use Rattle.std.proofs.lemmas.Bool.{leb-false, or_parts}
use Rattle.std.proofs.lemmas.Bool.Decides.{nat_tests}
use Rattle.au_audit.specs.Statements.{logon_facts}
use Rattle.au_base.specs.BuiltIn.{sys}
use Rattle.au_base.specs.Codes.{DONE, SESSION_PRESENT}
use Rattle.au_base.specs.Limits.{INSTANCE_SESSIONS, INSTANCES, OPEN_SESSIONS}
use Rattle.au_base.specs.declared.code.Code.{Code}
use Rattle.au_base.specs.declared.numbers.ClientNo.{ClientNo}
use Rattle.au_base.specs.declared.reply.Reply.{Reply}
use Rattle.au_catalog.specs.Settling.{catalog_of}
use Rattle.au_entries.specs.declared.kept.Kept.{Kept}
use Rattle.au_entries.specs.Replaying.{has_user}
use Rattle.au_kept.specs.Keeping.{HoldsTogether}
use Rattle.au_logon.specs.declared.admission.Admission.{Admission}
use Rattle.au_logon.specs.Admitting.{IsLocal}
use Rattle.au_recording.specs.declared.left.Left.{Left}
use Rattle.au_recording.specs.Writing.{CanBeRecorded}
use Rattle.au_step.specs.Lawful.{IsLawfulSession, IsLawfulState, desk_in}
use Rattle.au_step.specs.State.{State}
use Rattle.au_step.specs.Step.{AdmittedStep, CodeStep, Logged, OpensStep, after_logon, is_crowded, kept_after, logon_left, logon_number, logon_place, new_session, next_number, opened, recorded, sessions_after_logon, transaction_of}
use Rattle.au_step.proofs.Desks.{desk_tells, desk_with, joined_same}
use Rattle.au_step.proofs.Given.{OfAdmission, OfRecords, OfTransactions}
use Rattle.au_step.proofs.Places.{policies_named}
use Rattle.au_step.proofs.Recorded.{IsLeftSound, event_sound}
use Rattle.au_step.proofs.Seats.{IsLawfulSeat, IsOther, joined_all, seats_stay}
use Rattle.au_step.proofs.Stepping.{IsLawfulStep, IsReady, at_outcome, code_lawful, recorded_step}

-- ---- the number of the session

-- there is one more number where not all are drawn
not_drawn : (m : State) → is_crowded m ≡ false → m.drawn < INSTANCE_SESSIONS
not_drawn m free = leb-false INSTANCE_SESSIONS m.drawn (or_parts (nat_le OPEN_SESSIONS (length m.sessions)) (nat_le INSTANCE_SESSIONS m.drawn) free).1

number_capped : (instance drawn : ℕ) → instance ≤ INSTANCES → drawn < INSTANCE_SESSIONS → instance * 1000000000 + (drawn + 1) ≤ 999_999_999_999_999_999
number_capped instance drawn few more = omega arith

-- a code of 0 is that of what is done
done_code : (code : Code) → (code.0 == 0) ≡ true → code ≡ DONE
done_code code is = let zero : code.0 ≡ 0 = grind (arith, nat_tests) in ap (λ (n : ℕ). let c : Code = record { 0 = n } in c) zero

-- the number of a logon has up to 18 digits
number_at : (m : State) (admission : Admission) (stamp : ℕ) (admitted : Bool) → (admission.code.0 == 0) ≡ admitted → OfAdmission m.kept (is_crowded m) admission → IsReady m stamp
    → (if admitted then next_number m else record { 0 = 0 }).0 ≤ 999_999_999_999_999_999
number_at m admission stamp true is of ready =
    number_capped m.kept.instance m.drawn ready.lawful.kept.lawful.instance (not_drawn m (of.open_to (done_code admission.code is)))
number_at m admission stamp false is of ready = omega arith

-- LOCAL's user is SYS, who is a user
pub local_there : (kept : Kept) (crowded : Bool) (admission : Admission) → IsTrue (has_user kept sys) → IsLocal crowded admission → IsTrue (has_user kept admission.user)
local_there kept crowded admission there is = subst (λ (a : Admission). IsTrue (has_user kept a.user)) (sym is) there

-- ---- what auditing leaves of it

logon_recorded : (m : State) (stamp : ℕ) (admission : Admission) → OfAdmission m.kept (is_crowded m) admission → IsReady m stamp
    → CanBeRecorded (catalog_of m.kept) (logon_facts admission.user admission.used admission.code) (logon_place (logon_number m admission) stamp) []
logon_recorded m stamp admission of ready = record {
  policies = policies_named m.kept ready.lawful.kept;
  facts = record { user = of.named; action = omega arith; code = of.told.0 };
  place = record { session = number_at m admission stamp (admission.code.0 == 0) refl of ready; statement = omega arith; stamp = ready.moment; object = tt; sql = tt };
  fired = tt;
}

logon_sound : OfRecords → (m : State) (stamp : ℕ) (admission : Admission) → OfAdmission m.kept (is_crowded m) admission → IsReady m stamp → IsLeftSound (logon_left m stamp admission)
logon_sound records m stamp admission of ready =
    event_sound records m [] (logon_facts admission.user admission.used admission.code) (logon_place (logon_number m admission) stamp) [] []
    (logon_recorded m stamp admission of ready) (record { session = refl; instance = ready.lawful.results }) (omega arith)

-- ---- the step

-- the session that begins
new_lawful : (m : State) (client : ClientNo) (stamp : ℕ) (admission : Admission) (left : Left) → admission.code ≡ DONE → OfAdmission m.kept (is_crowded m) admission → IsReady m stamp → IsLeftSound left
    → IsLawfulSession (kept_after m.kept stamp (recorded left)) (new_session m client admission left)
new_lawful m client stamp admission left done of ready is = record {
  user = of.named;
  there = of.there done;
  some = omega arith;
  number = number_capped m.kept.instance m.drawn ready.lawful.kept.lawful.instance (not_drawn m (of.open_to done));
  results = is.ordered.session;
}

logon_seats : (m : State) (client : ClientNo) (stamp : ℕ) (admission : Admission) (left : Left) (admitted : Bool) → (admission.code.0 == 0) ≡ admitted → OfAdmission m.kept (is_crowded m) admission
    → IsReady m stamp → IsLeftSound left
    → AllByRecursion (IsLawfulSeat (kept_after m.kept stamp (recorded left))) (if admitted then m.sessions ++ opened (new_session m client admission left) ∷ [] else m.sessions)
logon_seats m client stamp admission left true is of ready sound =
    joined_all (IsLawfulSeat (kept_after m.kept stamp (recorded left))) (opened (new_session m client admission left)) m.sessions
    (seats_stay m.kept (kept_after m.kept stamp (recorded left)) m.sessions (λ who there. there) ready.lawful.sessions)
    (new_lawful m client stamp admission left (done_code admission.code is) of ready sound)
logon_seats m client stamp admission left false is of ready sound =
    seats_stay m.kept (kept_after m.kept stamp (recorded left)) m.sessions (λ who there. there) ready.lawful.sessions

logon_clients : (m : State) (client : ClientNo) (admission : Admission) (left : Left) (admitted : Bool) → client.0 ≢ 0 → AllByRecursion IsOther m.sessions
    → AllByRecursion IsOther (if admitted then m.sessions ++ opened (new_session m client admission left) ∷ [] else m.sessions)
logon_clients m client admission left true other all = joined_all IsOther (opened (new_session m client admission left)) m.sessions all other
logon_clients m client admission left false other all = all

logon_drawn : (m : State) (stamp : ℕ) (admission : Admission) (admitted : Bool) → (admission.code.0 == 0) ≡ admitted → OfAdmission m.kept (is_crowded m) admission → IsReady m stamp
    → (if admitted then m.drawn + 1 else m.drawn) ≤ INSTANCE_SESSIONS
logon_drawn m stamp admission true is of ready = let more = not_drawn m (of.open_to (done_code admission.code is)) in omega (arith, more)
logon_drawn m stamp admission false is of ready = ready.lawful.drawn

-- no transaction is another
logon_same : (m : State) (client : ClientNo) (admission : Admission) (left : Left) (admitted : Bool) (other : ClientNo)
    → transaction_of (if admitted then m.sessions ++ opened (new_session m client admission left) ∷ [] else m.sessions) other ≡ transaction_of m.sessions other
logon_same m client admission left true other = joined_same (new_session m client admission left) m.sessions other
logon_same m client admission left false other = refl

logon_holds : OfTransactions → (m : State) (client : ClientNo) (admission : Admission) (left : Left) → IsLawfulState m → HoldsTogether m.kept (desk_with m.kept (sessions_after_logon m client admission left))
logon_holds transactions m client admission left lawful =
    transactions.same m.kept (desk_in m) (desk_with m.kept (sessions_after_logon m client admission left)) lawful.transactions refl refl (λ other.
    desk_tells m.kept (sessions_after_logon m client admission left) other ∙ logon_same m client admission left (admission.code.0 == 0) other ∙ sym (desk_tells m.kept m.sessions other))

logon_at : OfTransactions → (m : State) (client : ClientNo) (stamp : ℕ) (admission : Admission) (left : Left) → OfAdmission m.kept (is_crowded m) admission → IsReady m stamp → client.0 ≢ 0 → IsLeftSound left
    → IsLawfulStep m stamp (recorded left) (after_logon m client stamp admission left)
logon_at transactions m client stamp admission left of ready other sound =
    recorded_step transactions m (after_logon m client stamp admission left) stamp left ready sound.told sound.few refl (logon_holds transactions m client admission left ready.lawful)
    (logon_seats m client stamp admission left (admission.code.0 == 0) refl of ready sound)
    (logon_clients m client admission left (admission.code.0 == 0) other ready.lawful.clients)
    (logon_drawn m stamp admission (admission.code.0 == 0) refl of ready) sound.ordered.instance

admitted_lawful : OfRecords → OfTransactions → (m : State) (client : ClientNo) (stamp : ℕ) (admission : Admission) (reply : Reply) (logged : Logged) (n : State)
    → AdmittedStep m client stamp admission reply logged n → OfAdmission m.kept (is_crowded m) admission → IsReady m stamp → client.0 ≢ 0 → IsLawfulStep m stamp logged n
admitted_lawful records transactions m client stamp admission reply logged n step of ready other =
    let left = logon_left m stamp admission in
    at_outcome m stamp logged (recorded left) n (after_logon m client stamp admission left) step.logs step.next
    (logon_at transactions m client stamp admission left of ready other (logon_sound records m stamp admission of ready))

-- the step of a logon that is decided so, where the client has a session or none
pub logon_lawful : OfRecords → OfTransactions → (Is : Admission → Type 0) (m : State) (client : ClientNo) (stamp : ℕ) (reply : Reply) (logged : Logged) (n : State) (stands : Bool)
    → ((admission : Admission) → Is admission → OfAdmission m.kept (is_crowded m) admission)
    → MatchBool stands (CodeStep m SESSION_PRESENT reply logged n) (OpensStep Is m client stamp reply logged n)
    → IsReady m stamp → client.0 ≢ 0 → IsLawfulStep m stamp logged n
logon_lawful records transactions Is m client stamp reply logged n true of step ready other = code_lawful m SESSION_PRESENT stamp reply logged n step ready
logon_lawful records transactions Is m client stamp reply logged n false of step ready other =
    admitted_lawful records transactions m client stamp step.0 reply logged n step.2 (of step.0 step.1) ready other
