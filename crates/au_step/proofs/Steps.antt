-- Each step from a lawful state is sound.
use Rattle.std.proofs.Common.{◌≡◌, ◌≢◌, ℕ, sym, subst}
use Rattle.std.specs.Prelude.{Some, is_some}
use Rattle.au_base.specs.declared.ask.Ask.{Ask}
use Rattle.au_base.specs.declared.ask.Ask.TheVariants.{Local, Logon, Sql, Logoff}
use Rattle.au_base.specs.declared.numbers.ClientNo.{ClientNo}
use Rattle.au_base.specs.declared.reply.Reply.{Reply}
use Rattle.au_logon.specs.Admitting.{Admits, IsLocal}
use Rattle.au_step.specs.Framing.{IsText}
use Rattle.au_step.specs.Lawful.{IsLawfulState}
use Rattle.au_step.specs.Replaying.{EndsWell}
use Rattle.au_step.specs.descent.SoundSteps.{IsSoundStep}
use Rattle.au_step.specs.State.{IsStampOf, OpenSession, State}
use Rattle.au_step.specs.Step.{Logged, LoggedStep, is_crowded, session_of}
use Rattle.au_step.proofs.Busy.{one_client}
use Rattle.au_step.proofs.Desks.{found_is}
use Rattle.au_step.proofs.Given.{Below}
use Rattle.au_step.proofs.Logoffs.{logoff_lawful}
use Rattle.au_step.proofs.Logons.{logon_lawful}
use Rattle.au_step.proofs.Seats.{IsLawfulSeat, IsOther, found_holds}
use Rattle.au_step.proofs.Statements.{sql_lawful}
use Rattle.au_step.proofs.Stepping.{IsLawfulStep, IsReady, ready, step_sound}

-- the session that is found of a client is the client's
pub its_own : (m : State) (client : ClientNo) (seat : OpenSession) → session_of m.sessions client ≡ Some seat → session_of m.sessions seat.session.client ≡ Some seat
its_own m client seat is = subst (λ (c : ClientNo). session_of m.sessions c ≡ Some seat) (sym (one_client seat.session.client client (found_is client m.sessions seat is))) is

own_lawful : (m : State) (client : ClientNo) → IsLawfulState m → (seat : OpenSession) → session_of m.sessions client ≡ Some seat → IsLawfulSeat m.kept seat
own_lawful m client lawful seat is = found_holds (IsLawfulSeat m.kept) client m.sessions lawful.sessions seat is

pub own_other : (m : State) (client : ClientNo) → IsLawfulState m → (seat : OpenSession) → session_of m.sessions client ≡ Some seat → seat.session.client.0 ≢ 0
own_other m client lawful seat is = found_holds IsOther client m.sessions lawful.clients seat is

step_lawful : Below → (m : State) (client : ClientNo) (ask : Ask) (stamp : ℕ) (reply : Reply) (logged : Logged) (n : State) → IsReady m stamp → IsText ask → client.0 ≢ 0
    → LoggedStep m client ask stamp reply logged n → IsLawfulStep m stamp logged n
step_lawful below m client Local stamp reply logged n from text other step =
    logon_lawful below.records below.transactions (IsLocal (is_crowded m)) m client stamp reply logged n (is_some (session_of m.sessions client))
    (λ admission is. below.logons.«local» m.kept (is_crowded m) admission from.ends is) step from other
step_lawful below m client (Logon user password) stamp reply logged n from text other step =
    logon_lawful below.records below.transactions (Admits m.kept.users m.kept.grants (is_crowded m) user password) m client stamp reply logged n (is_some (session_of m.sessions client))
    (λ admission is. below.logons.logon m.kept (is_crowded m) user password admission text.0 is) step from other
step_lawful below m client (Sql text) stamp reply logged n from utf8 other step =
    sql_lawful below m text stamp reply logged n (session_of m.sessions client) step
    (λ seat is. (own_lawful m client from.lawful seat is, its_own m client seat is, own_other m client from.lawful seat is)) utf8 from
step_lawful below m client Logoff stamp reply logged n from text other step =
    logoff_lawful below.records below.transactions m (session_of m.sessions client) client stamp reply logged n step (own_lawful m client from.lawful) from

pub each_sound : Below → (m n : State) (client : ClientNo) (ask : Ask) (stamp : ℕ) (reply : Reply) (logged : Logged)
    → IsLawfulState m → EndsWell m.kept → IsStampOf m stamp → IsText ask → client.0 ≢ 0 → LoggedStep m client ask stamp reply logged n → IsSoundStep m stamp logged n
each_sound below m n client ask stamp reply logged lawful ends stamped text other step =
    step_sound m stamp logged n (step_lawful below m client ask stamp reply logged n (ready m stamp lawful ends stamped) text other step)
