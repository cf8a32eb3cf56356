-- No client comes to have two sessions.
use Rattle.std.proofs.Common.{◌≡◌, ◌∙◌, ℕ, Bool, true, false, not, cond, ◌==◌, List, [], ◌∷◌, ◌++◌, map, refl, sym, ap, subst, arith, inl, inr}
use Rattle.std.specs.Prelude.{Option, Some, None, MatchOption, is_some, MatchBool, if◌then◌else◌}
use Rattle.std.proofs.lemmas.Bool.Decides.{nat_tests}
use Rattle.au_base.specs.Codes.{NOT_LOGGED_ON, SESSION_PRESENT}
use Rattle.au_base.specs.declared.ask.Ask.{Ask}
use Rattle.au_base.specs.declared.ask.Ask.TheVariants.{Local, Logon, Sql, Logoff}
use Rattle.au_base.specs.declared.numbers.ClientNo.{ClientNo}
use Rattle.au_base.specs.declared.reply.Reply.{Reply}
use Rattle.au_logon.specs.declared.admission.Admission.{Admission}
use Rattle.au_logon.specs.Admitting.{Admits, IsLocal}
use Rattle.au_recording.specs.declared.left.Left.{Left}
use Rattle.au_ruling.specs.declared.ruling.Ruling.{Ruling}
use Rattle.au_ruling.specs.Kinds.{commits}
use Rattle.au_step.specs.declared.session.Session.{Session}
use Rattle.au_step.specs.Abandoning.{sessions_without}
use Rattle.au_step.specs.Sessions.{HaveOneEach, IsOff}
use Rattle.au_step.specs.State.{OpenSession, State}
use Rattle.au_step.specs.Step.{CodeStep, EndStep, Logged, LoggedStep, OpensStep, ReadStep, SessionStep, committed, decided_in, is_crowded, logon_left, new_session, opened, session_after, session_of, settled, statement_left}

-- ---- who has no session

-- the session is the client's
abbrev pub is_of : ClientNo → OpenSession → Bool
is_of client seat = seat.session.client.0 == client.0

-- a client who has none of these is that of no one of them
off_parts_at : (client : ClientNo) (s : OpenSession) (found : Option OpenSession) (own : Bool) → is_of client s ≡ own → (cond own (Some s) found) ≡ None → (is_of client s ≡ false) × (found ≡ None)
off_parts_at client s found true is off = absurd (let e : Some s ≡ None = off in cc)
off_parts_at client s found false is off = (is, off)

off_parts : (client : ClientNo) (s : OpenSession) (sessions : List OpenSession) → IsOff (s ∷ sessions) client → (is_of client s ≡ false) × IsOff sessions client
off_parts client s sessions off = off_parts_at client s (session_of sessions client) (is_of client s) refl off

off_from_at : (s : OpenSession) (found : Option OpenSession) (own : Bool) → own ≡ false → found ≡ None → (cond own (Some s) found) ≡ None
off_from_at s found true own off = absurd (let e : true ≡ false = own in cc)
off_from_at s found false own off = off

off_from : (client : ClientNo) (s : OpenSession) (sessions : List OpenSession) → is_of client s ≡ false → IsOff sessions client → IsOff (s ∷ sessions) client
off_from client s sessions own off = off_from_at s (session_of sessions client) (is_of client s) own off

other_way : (a b : OpenSession) → is_of a.session.client b ≡ false → is_of b.session.client a ≡ false
other_way a b is = grind (arith, nat_tests)

-- ---- a session more

off_joined : (client : ClientNo) (s : OpenSession) (sessions : List OpenSession) → IsOff sessions client → is_of client s ≡ false → IsOff (sessions ++ s ∷ []) client
off_joined client s [] off own = off_from client s [] own refl
off_joined client s (t ∷ sessions) off own =
    let parts = off_parts client t sessions off in off_from client t (sessions ++ s ∷ []) parts.0 (off_joined client s sessions parts.1 own)

joined_one : (s : OpenSession) (sessions : List OpenSession) → HaveOneEach sessions → IsOff sessions s.session.client → HaveOneEach (sessions ++ s ∷ [])
joined_one s [] one off = (refl, tt)
joined_one s (t ∷ sessions) one off =
    let parts = off_parts s.session.client t sessions off in
    (off_joined t.session.client s sessions one.0 (other_way s t parts.0), joined_one s sessions one.1 parts.1)

-- ---- the sessions of the other clients

off_without_at : (client : ClientNo) (s : OpenSession) (rest : List OpenSession) (stays : Bool) → is_of client s ≡ false → IsOff rest client → IsOff (cond stays (s ∷ rest) rest) client
off_without_at client s rest true own off = off_from client s rest own off
off_without_at client s rest false own off = off

off_without : (client other : ClientNo) (sessions : List OpenSession) → IsOff sessions client → IsOff (sessions_without other sessions) client
off_without client other [] off = refl
off_without client other (s ∷ sessions) off =
    let parts = off_parts client s sessions off in
    off_without_at client s (sessions_without other sessions) (not (is_of other s)) parts.0 (off_without client other sessions parts.1)

without_one_at : (s : OpenSession) (rest : List OpenSession) (stays : Bool) → IsOff rest s.session.client → HaveOneEach rest → HaveOneEach (cond stays (s ∷ rest) rest)
without_one_at s rest true off one = (off, one)
without_one_at s rest false off one = one

pub without_one : (client : ClientNo) (sessions : List OpenSession) → HaveOneEach sessions → HaveOneEach (sessions_without client sessions)
without_one client [] one = tt
without_one client (s ∷ sessions) one =
    without_one_at s (sessions_without client sessions) (not (is_of client s)) (off_without s.session.client client sessions one.0) (without_one client sessions one.1)

without_off_at : (client : ClientNo) (s : OpenSession) (rest : List OpenSession) (own : Bool) → is_of client s ≡ own → IsOff rest client → IsOff (cond (not own) (s ∷ rest) rest) client
without_off_at client s rest true is off = off
without_off_at client s rest false is off = off_from client s rest is off

pub without_off : (client : ClientNo) (sessions : List OpenSession) → IsOff (sessions_without client sessions) client
without_off client [] = refl
without_off client (s ∷ sessions) = without_off_at client s (sessions_without client sessions) (is_of client s) refl (without_off client sessions)

-- ---- the sessions after a statement

-- each session stays that of its client
abbrev pub StaysOf : (OpenSession → OpenSession) → Type 0
StaysOf f = (s : OpenSession) → (f s).session.client ≡ s.session.client

settled_at : (own : Bool) (s : OpenSession) → (if own then record s { transaction = [] } else s).session.client ≡ s.session.client
settled_at true s = refl
settled_at false s = refl

pub settled_stays : (client : ClientNo) → StaysOf (settled client)
settled_stays client s = settled_at (is_of client s) s

after_at : (own : Bool) (s t u : OpenSession) → t.session.client ≡ s.session.client → u.session.client ≡ s.session.client → (if own then t else u).session.client ≡ s.session.client
after_at true s t u own other = own
after_at false s t u own other = other

pub after_stays : (session : Session) (ruling : Ruling) (left : Left) → StaysOf (session_after session ruling left)
after_stays session ruling left s = after_at (is_of session.client s) s _ _ refl refl

off_same : (client : ClientNo) (s t : OpenSession) (sessions : List OpenSession) → t.session.client ≡ s.session.client → is_of client s ≡ false → IsOff sessions client → IsOff (t ∷ sessions) client
off_same client s t sessions same own off = off_from client t sessions (ap (λ (c : ClientNo). c.0 == client.0) same ∙ own) off

off_mapped : (client : ClientNo) (f : OpenSession → OpenSession) (sessions : List OpenSession) → StaysOf f → IsOff sessions client → IsOff (map f sessions) client
off_mapped client f [] same off = refl
off_mapped client f (s ∷ sessions) same off =
    let parts = off_parts client s sessions off in off_same client s (f s) (map f sessions) (same s) parts.0 (off_mapped client f sessions same parts.1)

mapped_one : (f : OpenSession → OpenSession) (sessions : List OpenSession) → StaysOf f → HaveOneEach sessions → HaveOneEach (map f sessions)
mapped_one f [] same one = tt
mapped_one f (s ∷ sessions) same one =
    (subst (λ (c : ClientNo). IsOff (map f sessions) c) (sym (same s)) (off_mapped s.session.client f sessions same one.0), mapped_one f sessions same one.1)

-- ---- steps

same_one : (m n : State) → n ≡ m → HaveOneEach m.sessions → HaveOneEach n.sessions
same_one m n is one = subst (λ (x : State). HaveOneEach x.sessions) (sym is) one

decided_one : (m : State) (client : ClientNo) (first : Bool) → HaveOneEach m.sessions → HaveOneEach (if first then committed client m else m).sessions
decided_one m client true one = mapped_one (settled client) m.sessions (settled_stays client) one
decided_one m client false one = one

read_one : (m : State) (session : Session) (text : List ℕ) (stamp : ℕ) (reply : Reply) (logged : Logged) (n : State) → ReadStep m session text stamp reply logged n → HaveOneEach m.sessions → HaveOneEach n.sessions
read_one m session text stamp reply logged n read one =
    let left = statement_left (decided_in m session.client read.statement) session stamp read.statement text read.step.ruling in
    subst (λ (x : State). HaveOneEach x.sessions) (sym read.step.next)
    (mapped_one (session_after session read.step.ruling left) (decided_in m session.client read.statement).sessions (after_stays session read.step.ruling left)
    (decided_one m session.client (commits read.statement) one))

session_one : (m : State) (session : Session) (text : List ℕ) (stamp : ℕ) (reply : Reply) (logged : Logged) (n : State) → SessionStep m session text stamp reply logged n → HaveOneEach m.sessions → HaveOneEach n.sessions
session_one m session text stamp reply logged n (inr unread) one = same_one m n unread.2.same one
session_one m session text stamp reply logged n (inl read) one = read_one m session text stamp reply logged n read one

sql_one : (m : State) (found : Option OpenSession) (text : List ℕ) (stamp : ℕ) (reply : Reply) (logged : Logged) (n : State)
    → MatchOption found (CodeStep m NOT_LOGGED_ON reply logged n) (λ seat. SessionStep m seat.session text stamp reply logged n) → HaveOneEach m.sessions → HaveOneEach n.sessions
sql_one m None text stamp reply logged n step one = same_one m n step.same one
sql_one m (Some seat) text stamp reply logged n step one = session_one m seat.session text stamp reply logged n step one

none_of : (found : Option OpenSession) → is_some found ≡ false → found ≡ None
none_of None is = refl
none_of (Some s) is = absurd (let e : true ≡ false = is in cc)

opened_one : (m : State) (client : ClientNo) (admission : Admission) (left : Left) (admitted : Bool) → IsOff m.sessions client → HaveOneEach m.sessions
    → HaveOneEach (if admitted then m.sessions ++ opened (new_session m client admission left) ∷ [] else m.sessions)
opened_one m client admission left true off one = joined_one (opened (new_session m client admission left)) m.sessions one off
opened_one m client admission left false off one = one

logon_one : (Is : Admission → Type 0) (m : State) (client : ClientNo) (stamp : ℕ) (reply : Reply) (logged : Logged) (n : State) (stands : Bool) → is_some (session_of m.sessions client) ≡ stands
    → MatchBool stands (CodeStep m SESSION_PRESENT reply logged n) (OpensStep Is m client stamp reply logged n) → HaveOneEach m.sessions → HaveOneEach n.sessions
logon_one Is m client stamp reply logged n true is step one = same_one m n step.same one
logon_one Is m client stamp reply logged n false is step one =
    subst (λ (x : State). HaveOneEach x.sessions) (sym step.2.next)
    (opened_one m client step.0 (logon_left m stamp step.0) (step.0.code.0 == 0) (none_of (session_of m.sessions client) is) one)

logoff_one : (m : State) (found : Option OpenSession) (client : ClientNo) (stamp : ℕ) (reply : Reply) (logged : Logged) (n : State)
    → MatchOption found (CodeStep m NOT_LOGGED_ON reply logged n) (λ seat. EndStep m seat.session client stamp reply logged n) → HaveOneEach m.sessions → HaveOneEach n.sessions
logoff_one m None client stamp reply logged n step one = same_one m n step.same one
logoff_one m (Some seat) client stamp reply logged n step one = subst (λ (x : State). HaveOneEach x.sessions) (sym step.next) (without_one client m.sessions one)

pub step_one : (m n : State) (client : ClientNo) (ask : Ask) (stamp : ℕ) (reply : Reply) (logged : Logged) → HaveOneEach m.sessions → LoggedStep m client ask stamp reply logged n → HaveOneEach n.sessions
step_one m n client Local stamp reply logged one step = logon_one (IsLocal (is_crowded m)) m client stamp reply logged n (is_some (session_of m.sessions client)) refl step one
step_one m n client (Logon user password) stamp reply logged one step =
    logon_one (Admits m.kept.users m.kept.grants (is_crowded m) user password) m client stamp reply logged n (is_some (session_of m.sessions client)) refl step one
step_one m n client (Sql text) stamp reply logged one step = sql_one m (session_of m.sessions client) text stamp reply logged n step one
step_one m n client Logoff stamp reply logged one step = logoff_one m (session_of m.sessions client) client stamp reply logged n step one

-- after a logoff
off_at : (m : State) (found : Option OpenSession) (client : ClientNo) (stamp : ℕ) (reply : Reply) (logged : Logged) (n : State) → session_of m.sessions client ≡ found
    → MatchOption found (CodeStep m NOT_LOGGED_ON reply logged n) (λ seat. EndStep m seat.session client stamp reply logged n) → IsOff n.sessions client
off_at m None client stamp reply logged n is step = subst (λ (x : State). IsOff x.sessions client) (sym step.same) is
off_at m (Some seat) client stamp reply logged n is step = subst (λ (x : State). IsOff x.sessions client) (sym step.next) (without_off client m.sessions)

pub logoff_off : (m n : State) (client : ClientNo) (stamp : ℕ) (reply : Reply) (logged : Logged) → LoggedStep m client Logoff stamp reply logged n → IsOff n.sessions client
logoff_off m n client stamp reply logged step = off_at m (session_of m.sessions client) client stamp reply logged n refl step
