-- Steps in a turn, and sessions that are over.
use Rattle.std.proofs.Common.{◌≡◌, inl, inr, ⊎_elim, ℕ, true, false, List, ◌++◌, Some, None, refl, sym, ap, subst}
use Rattle.std.specs.Prelude.{Option, MatchOption, is_some}
use Rattle.au_base.specs.Codes.{DONE, NOT_LOGGED_ON}
use Rattle.au_base.specs.declared.ask.Ask.{Ask}
use Rattle.au_base.specs.declared.ask.Ask.TheVariants.{Logoff}
use Rattle.au_base.specs.declared.numbers.ClientNo.{ClientNo}
use Rattle.au_base.specs.declared.reply.Reply.{Reply}
use Rattle.au_base.specs.declared.reply.Said.{Said}
use Rattle.au_base.specs.declared.reply.Said.TheVariants.{Replied, Disk, Full, Memory}
use Rattle.au_io.specs.Disk.{Meaning}
use Rattle.au_io.specs.Time.{Ticking}
use Rattle.au_step.specs.Sessions.{IsOff}
use Rattle.au_step.specs.State.{OpenSession, State, stamp_of}
use Rattle.au_step.specs.Step.{CodeStep, EndStep, Logged, LoggedStep, session_of}
use Rattle.au_store.specs.declared.entry.Entry.{Entry}
use Rattle.au_store.specs.History.{Fails, HistoryGoesOn, StandsFor, Tells, TriedTells}
use Rattle.au_store.specs.Steps.{StepsBy, event_at}
use Rattle.au_store.specs.Stored.{Stored}
use Rattle.au_session.specs.Entries.{IsEnding, IsReply, Leaves}
use Rattle.au_session.specs.Entries.IsEnding.{replied}

-- the entries of a step that was tried are those of a step
tells_tried : (client : ClientNo) (ask : Ask) (reading : ℕ) (answer : Said) (made : List Entry) → TriedTells client ask reading answer made → Tells client ask reading answer made
tells_tried client ask reading (Replied reply) made tells = tells
tells_tried client ask reading Disk made tells = inl tells
tells_tried client ask reading (Full needed limit) made tells = tells
tells_tried client ask reading Memory made tells = tells

-- and so is the one of a step that couldn't mend
tells_unmended : (client : ClientNo) (ask : Ask) (reading : ℕ) (answer : Said) (made : List Entry) → answer ≡ Disk → Fails client ask None made → Tells client ask reading answer made
tells_unmended client ask reading answer made failed fails = subst (λ (a : Said). Tells client ask reading a made) (sym failed) (inr fails)

-- a list goes on by what a deed tells of the step
pub deed_goes_on : {D C : Type 0} (told : Type 0) (meaning : D → Meaning) (faults : D → ℕ) (ticking : C → Option Ticking) (client : ClientNo) (ask : Ask) (old new : Stored D C) (answer : Said) (reading : ℕ) (entries : List Entry)
    → HistoryGoesOn told meaning faults ticking client ask old new answer → reading ≡ new.reading → StandsFor told meaning faults old entries
    → (made : List Entry) × Tells client ask reading answer made × StandsFor told meaning faults new (entries ++ made)
deed_goes_on told meaning faults ticking client ask old new answer reading entries (inl tries) is stands =
    let on = tries.1 entries stands in
    (on.0, subst (λ (n : ℕ). Tells client ask n answer on.0) (sym is) (tells_tried client ask new.reading answer on.0 on.1), on.2)
deed_goes_on told meaning faults ticking client ask old new answer reading entries (inr tries) is stands =
    let on = tries.1 entries stands in
    (on.0, tells_unmended client ask reading answer on.0 tries.0.failed on.1, on.2)

-- a step leaves the entries that it tells
pub leaves_told : (client : ClientNo) (ask : Ask) (reading : ℕ) (answer : Said) (made : List Entry) → Tells client ask reading answer made → Leaves client ask answer made
leaves_told client ask reading (Replied reply) made tells = (reading, tells)
leaves_told client ask reading Disk made tells = ⊎_elim (λ tried. (Some reading, tried)) (λ unmended. (None, unmended)) tells
leaves_told client ask reading (Full needed limit) made tells = (reading, tells)
leaves_told client ask reading Memory made tells = tells

pub none_of : {X : Type 0} (o : Option X) → is_some o ≡ false → o ≡ None
none_of None e = refl
none_of (Some x) e = absurd (cc e)

-- the law of logoffs, of the model
abbrev pub EndsSessions : Type 0
EndsSessions = (m n : State) (client : ClientNo) (stamp : ℕ) (reply : Reply) (logged : Logged) → LoggedStep m client Logoff stamp reply logged n → IsOff n.sessions client

-- a client whose LOGOFF was replied to has no session
pub off_replied : EndsSessions → (m n : State) (client : ClientNo) (reading : ℕ) (answer : Said) → StepsBy m (event_at client Logoff reading) answer n → IsReply answer → IsOff n.sessions client
off_replied law m n client reading answer step is =
    let logged = subst (λ (a : Said). StepsBy m (event_at client Logoff reading) a n) is.1 step in
    law m n client (stamp_of m reading) is.0 logged.0 logged.1

done_where : (found : Option OpenSession) → is_some found ≡ true → (m n : State) (client : ClientNo) (stamp : ℕ) (reply : Reply) (logged : Logged)
    → MatchOption found (CodeStep m NOT_LOGGED_ON reply logged n) (λ seat. EndStep m seat.session client stamp reply logged n) → reply.code ≡ DONE
done_where None is m n client stamp reply logged step = absurd (cc is)
done_where (Some seat) is m n client stamp reply logged step = ap (λ r. r.code) step.replies

-- the LOGOFF of a client that has a session is done where it is replied to, and what it left ends the session
pub ending_replied : (m n : State) (client : ClientNo) (reading : ℕ) (answer : Said) (made : List Entry) → is_some (session_of m.sessions client) ≡ true
    → StepsBy m (event_at client Logoff reading) answer n → Leaves client Logoff answer made → IsReply answer → IsEnding client made
ending_replied m n client reading answer made on step leaves is =
    let logged = subst (λ (a : Said). StepsBy m (event_at client Logoff reading) a n) is.1 step in
    let stepped = subst (λ (a : Said). Leaves client Logoff a made) is.1 leaves in
    subst (λ (l : List Entry). IsEnding client l) (sym stepped.1)
    (replied stepped.0 is.0 (done_where (session_of m.sessions client) on m n client (stamp_of m reading) is.0 logged.0 logged.1))
