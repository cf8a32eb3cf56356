-- What is so of a step from a lawful state, of one that only leaves records, and of one that leaves nothing.
use Rattle.std.proofs.Common.{◌≡◌, ◌∙◌, ℕ, ◌≤◌, ◌<◌, ◌^◌, false, List, [], length, refl, sym, ap, subst, arith}
use Rattle.std.specs.Prelude.{IsTrue, Some, None}
use Rattle.std.specs.List.{AllByRecursion}
use Rattle.std.proofs.lemmas.List.{append-nil}
use Rattle.au_audit.specs.Conditions.{result_before}
use Rattle.au_base.specs.Limits.{INSTANCE_SESSIONS, LAST_MOMENT}
use Rattle.au_base.specs.Order.{is_in_order}
use Rattle.au_base.specs.declared.code.Code.{Code}
use Rattle.au_base.specs.declared.numbers.Stamp.{Stamp}
use Rattle.au_base.specs.declared.reply.Reply.{Reply}
use Rattle.au_entries.specs.declared.kept.Kept.{Kept}
use Rattle.au_entries.specs.declared.trail_record.Record.{Record}
use Rattle.au_entries.specs.Changing.{changed_all}
use Rattle.au_entries.specs.Frames.{after_parts}
use Rattle.au_entries.specs.Lawful.{IsWhole}
use Rattle.au_entries.specs.Replaying.{AllGoOn}
use Rattle.au_kept.specs.Keeping.{Contents, HoldsTogether, desk_of}
use Rattle.au_kept.specs.Staging.{CanSettle, IsFree, IsLogged, IsOfRow}
use Rattle.au_recording.specs.declared.left.Left.{Left}
use Rattle.au_replay.specs.Reading.{conditions}
use Rattle.au_ruling.specs.Sound.{IsTimelyPurge}
use Rattle.rec_codec.specs.Records.{trail_record}
use Rattle.au_step.specs.Lawful.{IsLawfulState, desk_in}
use Rattle.au_step.specs.Replaying.{EndsWell}
use Rattle.au_step.specs.Sound.{HoldsOfKeepings}
use Rattle.au_step.specs.descent.SoundSteps.{CanBeKept, IsSoundStep, kept_through}
use Rattle.au_step.specs.State.{IsStampOf, State}
use Rattle.au_step.specs.Step.{CodeStep, Logged, all_changes, kept_after, last_after, nothing_logged, recorded}
use Rattle.au_step.proofs.Desks.{contents_with, desk_with}
use Rattle.au_step.proofs.Given.{OfTransactions}
use Rattle.au_step.proofs.KeptLawful.{last_moment}
use Rattle.au_step.proofs.Seats.{IsLawfulSeat, IsOther}

-- what is so of a state from which steps go: it is lawful, SYS is a user, and the stamp is that of an event
pub record IsReady (m : State) (stamp : ℕ) : Type 0 where
  pub lawful : IsLawfulState m
  pub ends : EndsWell m.kept
  pub later : m.kept.last.0 ≤ stamp
  pub moment : stamp ≤ LAST_MOMENT

pub ready : (m : State) (stamp : ℕ) → IsLawfulState m → EndsWell m.kept → IsStampOf m stamp → IsReady m stamp
ready m stamp lawful ends (reading, is) =
    let before = lawful.kept.lawful.last in
    record { lawful = lawful; ends = ends; later = omega (arith, is, before); moment = omega (arith, is, before) }

-- what is so of a step: what it leaves can be kept, and what becomes of what was kept holds together with the transactions;
-- and the next state is lawful beside that
pub record IsLawfulStep (m : State) (stamp : ℕ) (logged : Logged) (n : State) : Type 0 where
  pub can : CanBeKept m.kept stamp (all_changes logged) logged.records
  pub timely : IsTimelyPurge logged.purge
  pub rowless : AllByRecursion (λ change. ¬ IsOfRow change) logged.changes
  pub free : HoldsOfKeepings m (λ contents. AllByRecursion (IsFree logged.commits (desk_of contents)) logged.changes)
  pub is_logged : HoldsOfKeepings m (λ contents. IsLogged logged.commits contents logged.changes (all_changes logged))
  pub kept : n.kept ≡ kept_through m.kept stamp logged
  pub transactions : HoldsTogether n.kept (desk_in n)
  pub sessions : AllByRecursion (IsLawfulSeat n.kept) n.sessions
  pub clients : AllByRecursion IsOther n.sessions
  pub drawn : n.drawn ≤ INSTANCE_SESSIONS
  pub results : IsTrue (is_in_order result_before n.results)

-- what can be kept can be settled
pub can_settle : (kept : Kept) (contents : Contents) (stamp : ℕ) (logged : Logged) (last : Stamp) → contents.kept ≡ kept → CanBeKept kept stamp (all_changes logged) logged.records → last.0 ≤ LAST_MOMENT
    → IsLogged logged.commits contents logged.changes (all_changes logged) → AllByRecursion (IsFree logged.commits (desk_of contents)) logged.changes
    → CanSettle contents logged.commits logged.changes logged.records last
can_settle kept contents stamp logged last is can moment is_logged free = record {
  logged = all_changes logged;
  is_logged = is_logged;
  go_on = subst (λ (k : Kept). AllGoOn conditions false k (all_changes logged)) (sym is) can.goes;
  whole = subst (λ (k : Kept). IsWhole (changed_all conditions.tree (all_changes logged) k)) (sym is) can.whole;
  moment = moment;
  spelled = can.written;
  told = can.told;
  settled = free;
}

-- ---- a step that only leaves records

-- what only leaves records can be kept where they can be written
can_record : (m : State) (stamp : ℕ) (records : List Record) → IsReady m stamp → AllByRecursion trail_record.IsSpellable records → length records < 2 ^ 32
    → CanBeKept m.kept stamp [] records
can_record m stamp records ready told few = record {
  later = ready.later;
  moment = ready.moment;
  goes = tt;
  whole = ready.lawful.kept.whole;
  ends = ready.ends;
  written = tt;
  told = told;
  few_changes = omega arith;
  few_records = few;
}

-- the records are kept, and the transactions are those of the next sessions
settles_records : OfTransactions → (m n : State) (stamp : ℕ) (left : Left) → IsReady m stamp → AllByRecursion trail_record.IsSpellable left.records → length left.records < 2 ^ 32
    → n.kept ≡ kept_after m.kept stamp (recorded left) → HoldsTogether m.kept (desk_with m.kept n.sessions) → HoldsTogether n.kept (desk_in n)
settles_records transactions m n stamp left ready told few is holds =
    let last = last_after m.kept.last stamp (recorded left) in
    let contents = contents_with m.kept n.sessions in
    transactions.settled contents None [] [] left.records last None n.kept (desk_in n) holds
    (can_settle m.kept contents stamp (recorded left) last refl (can_record m stamp left.records ready told few)
    (last_moment m.kept stamp (recorded left) ready.lawful.kept.lawful.last ready.moment) refl tt)
    tt refl is refl refl (λ client commits. absurd (let e : None ≡ Some client = commits in cc)) (λ client other. refl)

pub recorded_step : OfTransactions → (m n : State) (stamp : ℕ) (left : Left) → IsReady m stamp → AllByRecursion trail_record.IsSpellable left.records → length left.records < 2 ^ 32
    → n.kept ≡ kept_after m.kept stamp (recorded left) → HoldsTogether m.kept (desk_with m.kept n.sessions)
    → AllByRecursion (IsLawfulSeat n.kept) n.sessions → AllByRecursion IsOther n.sessions → n.drawn ≤ INSTANCE_SESSIONS → IsTrue (is_in_order result_before n.results)
    → IsLawfulStep m stamp (recorded left) n
recorded_step transactions m n stamp left ready told few is holds sessions clients drawn results = record {
  can = can_record m stamp left.records ready told few;
  timely = tt;
  rowless = tt;
  free = λ contents same tells. tt;
  is_logged = λ contents same tells. refl;
  kept = is;
  transactions = settles_records transactions m n stamp left ready told few is holds;
  sessions = sessions;
  clients = clients;
  drawn = drawn;
  results = results;
}

-- ---- a step that leaves nothing

idle_step : (m : State) (stamp : ℕ) → IsReady m stamp → IsLawfulStep m stamp nothing_logged m
idle_step m stamp ready = record {
  can = can_record m stamp [] ready tt (omega arith);
  timely = tt;
  rowless = tt;
  free = λ contents same tells. tt;
  is_logged = λ contents same tells. refl;
  kept = sym (ap (λ (t : List Record). record m.kept { trail = t }) (append-nil m.kept.trail));
  transactions = ready.lawful.transactions;
  sessions = ready.lawful.sessions;
  clients = ready.lawful.clients;
  drawn = ready.lawful.drawn;
  results = ready.lawful.results;
}

-- a step with this outcome is one with another of the same value
pub at_outcome : (m : State) (stamp : ℕ) (a b : Logged) (n o : State) → a ≡ b → n ≡ o → IsLawfulStep m stamp b o → IsLawfulStep m stamp a n
at_outcome m stamp a b n o is goes h = subst (λ (x : State). IsLawfulStep m stamp a x) (sym goes) (subst (λ (l : Logged). IsLawfulStep m stamp l o) (sym is) h)

-- a code alone
pub code_lawful : (m : State) (code : Code) (stamp : ℕ) (reply : Reply) (logged : Logged) (n : State) → CodeStep m code reply logged n → IsReady m stamp → IsLawfulStep m stamp logged n
code_lawful m code stamp reply logged n step ready = at_outcome m stamp logged nothing_logged n m step.logs step.same (idle_step m stamp ready)

-- ---- all that is so of a step

next_ends : (m : State) (stamp : ℕ) (logged : Logged) (n : State) → IsLawfulStep m stamp logged n → EndsWell n.kept
next_ends m stamp logged n step = subst (λ (k : Kept). EndsWell k) (sym step.kept) step.can.ends

pub step_sound : (m : State) (stamp : ℕ) (logged : Logged) (n : State) → IsLawfulStep m stamp logged n → IsSoundStep m stamp logged n
step_sound m stamp logged n step = record {
  can = step.can;
  timely = step.timely;
  rowless = step.rowless;
  free = step.free;
  is_logged = step.is_logged;
  kept = step.kept;
  ends = next_ends m stamp logged n step;
  lawful = record {
    kept = step.transactions.kept_is;
    sessions = step.sessions;
    clients = step.clients;
    transactions = step.transactions;
    drawn = step.drawn;
    results = step.results;
  };
}

-- what it leaves can be settled over what is kept, with any room
pub sound_settles : (m : State) (stamp : ℕ) (logged : Logged) (n : State) → IsSoundStep m stamp logged n
    → HoldsOfKeepings m (λ contents. CanSettle contents logged.commits logged.changes logged.records n.kept.last)
sound_settles m stamp logged n sound contents same tells =
    can_settle m.kept contents stamp logged n.kept.last same sound.can sound.lawful.kept.lawful.last (sound.is_logged contents same tells) (sound.free contents same tells)

-- and becomes of what is kept
pub sound_leaves : (m : State) (stamp : ℕ) (logged : Logged) (n : State) → IsSoundStep m stamp logged n
    → n.kept ≡ after_parts conditions.tree n.kept.last logged.purge (all_changes logged) logged.records m.kept
sound_leaves m stamp logged n sound =
    sound.kept ∙ ap (λ (last : Stamp). after_parts conditions.tree last logged.purge (all_changes logged) logged.records m.kept) (sym (ap (λ (k : Kept). k.last) sound.kept))
