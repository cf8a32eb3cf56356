-- Histories: what a store did since it was opened, entry by entry, and what it stands for.
use Rattle.std.specs.Prelude.{◌≡◌, ◌≢◌, ◌⊎◌, ◌<◌, ⊤, ℕ, Bool, true, false, List, [], ◌∷◌, ◌++◌, Option, Some, None}
use Rattle.std.specs.List.{AllByRecursion}
use Rattle.au_base.specs.declared.ask.Ask.{Ask}
use Rattle.au_base.specs.declared.numbers.ClientNo.{ClientNo}
use Rattle.au_base.specs.declared.reply.Reply.{Reply}
use Rattle.au_base.specs.declared.reply.Said.{Said}
use Rattle.au_base.specs.declared.reply.Said.TheVariants as said
use Rattle.au_entries.specs.declared.kept.Kept.{Kept}
use Rattle.au_io.specs.Areas.{Areas}
use Rattle.au_io.specs.Disk.{Meaning}
use Rattle.au_io.specs.Faults.{HasRisen}
use Rattle.au_io.specs.Time.{Ticking}
use Rattle.au_journal.specs.declared.doubt.Doubt.{Doubt}
use Rattle.au_journal.specs.declared.doubt.Doubt.TheVariants.{Settled}
use Rattle.rec_codec.specs.declared.frame.Frame.{Frame}
use Rattle.au_step.specs.Abandoning.{abandoned}
use Rattle.au_step.specs.State.{State}
use Rattle.au_step.specs.Step.{Event, Step}
use Rattle.au_store.specs.declared.deed.Deed.{Deed}
use Rattle.au_store.specs.declared.deed.Deed.TheVariants as deed
use Rattle.au_store.specs.declared.entry.Entry.{Entry}
use Rattle.au_store.specs.declared.entry.Entry.TheVariants.{Opened, Stepped, Abandoned, Faulted, Filled}
use Rattle.au_store.specs.Doubts.{EventWrites, IsAfter, IsStoodOn}
use Rattle.au_store.specs.Kinds.{FitsWithin, IsFree, needed_by, used_by}
use Rattle.au_store.specs.Recovery.{RecoversTo}
use Rattle.au_store.specs.Steps.{IsTried, IsUnmended, event_at}
use Rattle.au_store.specs.Stored.{Stored}

-- where a history leads: the state, the used length, the limit, and the count of faults that was named last
pub record Reached : Type 0 where
  pub state : State
  pub used : ℕ
  pub limit : ℕ
  pub faults : ℕ

-- where a store is, whose disk has failed so often
abbrev pub reached_of : {D C : Type 0} → (D → ℕ) → Stored D C → Reached
reached_of faults store = record { state = store.state; used = store.seat.used; limit = store.seat.limit; faults = faults store.disk }

-- the event was given this reply: its frame is free of the limit or ends within it, and the used length is the one after it
pub record IsStepped (p : Reached) (event : Event) (reply : Reply) (q : Reached) : Type 0 where
  pub step : Step p.state event reply q.state
  pub frame : Option Frame
  pub writes : EventWrites p.state event q.state frame
  pub within : FitsWithin p.used p.limit frame
  pub used : q.used ≡ used_by p.used q.state.kept frame
  pub limit : q.limit ≡ p.limit
  pub faults : q.faults ≡ p.faults

-- the client's session was ended, and nothing else was done
pub record IsEnded (p : Reached) (client : ClientNo) (q : Reached) : Type 0 where
  pub state : q.state ≡ abandoned client p.state
  pub used : q.used ≡ p.used
  pub limit : q.limit ≡ p.limit
  pub faults : q.faults ≡ p.faults

-- the event has a frame to write, which is free of the limit or ends within it
pub record HasToWrite (p : Reached) (event : Event) : Type 0 where
  pub after : State
  pub frame : Frame
  pub writes : EventWrites p.state event after (Some frame)
  pub within : FitsWithin p.used p.limit (Some frame)

-- the disk failed, as a count shows that rose, and the rest is as it was
pub record IsFaulted (p : Reached) (count : ℕ) (q : Reached) : Type 0 where
  pub state : q.state ≡ p.state
  pub used : q.used ≡ p.used
  pub limit : q.limit ≡ p.limit
  pub rose : HasRisen p.faults count
  pub faults : q.faults ≡ count

-- all is as it was
pub record IsUnchanged (p q : Reached) : Type 0 where
  pub state : q.state ≡ p.state
  pub used : q.used ≡ p.used
  pub limit : q.limit ≡ p.limit
  pub faults : q.faults ≡ p.faults

-- the event has a frame that isn't free of the limit and with one gate behind it needs so much, over the limit
pub record IsFilled (p : Reached) (event : Event) (needed : ℕ) : Type 0 where
  pub after : State
  pub frame : Frame
  pub writes : EventWrites p.state event after (Some frame)
  pub charged : IsFree frame → ⊥
  pub needs : needed ≡ needed_by p.used frame
  pub exceeds : p.limit < needed

-- the entry takes p to q
abbrev pub GoesBy : Reached → Entry → Reached → Type 0
GoesBy p (Opened m used limit faults doubtful) q = ⊥
GoesBy p (Stepped client ask reading reply) q = IsStepped p (event_at client ask reading) reply q
GoesBy p (Abandoned client) q = IsEnded p client q
GoesBy p (Faulted client ask (Some reading) count) q = HasToWrite p (event_at client ask reading) × IsFaulted p count q
GoesBy p (Faulted client ask None count) q = IsFaulted p count q
GoesBy p (Filled client ask reading needed) q = IsFilled p (event_at client ask reading) needed × IsUnchanged p q

-- the entries, one after another, take p to q
abbrev pub GoesOver : Reached → List Entry → Reached → Type 0
GoesOver p [] q = q ≡ p
GoesOver p (entry ∷ entries) q = (between : Reached) × GoesBy p entry between × GoesOver between entries q

-- the list begins with an opening, and leads here
abbrev pub Leads : List Entry → Reached → Type 0
Leads (Opened m used limit faults doubtful ∷ entries) q = GoesOver (record { state = m; used = used; limit = limit; faults = faults }) entries q
Leads _ q = ⊥

-- the list is legal: it leads somewhere
abbrev pub IsLegal : List Entry → Type 0
IsLegal entries = (q : Reached) × Leads entries q

-- no step was tried: a session was ended, or a step failed to mend what an earlier one left in doubt
abbrev pub IsQuiet : Entry → Type 0
IsQuiet (Opened m used limit faults doubtful) = ⊥
IsQuiet (Stepped client ask reading reply) = ⊥
IsQuiet (Abandoned client) = ⊤
IsQuiet (Faulted client ask (Some reading) count) = ⊥
IsQuiet (Faulted client ask None count) = ⊤
IsQuiet (Filled client ask reading needed) = ⊥

-- The list leaves this event in doubt, in the place to which the list before it leads: the last step that was tried failed.
pub record LeavesInDoubt (entries : List Entry) (place : Reached) (event : Event) : Type 0 where
  pub before : List Entry
  pub count : ℕ
  pub since : List Entry
  pub split : entries ≡ before ++ Faulted event.client event.ask (Some event.reading) count ∷ since
  pub quiet : AllByRecursion IsQuiet since
  pub leads : Leads before place

-- the list begins with a store that was in doubt, and no step was tried since
abbrev pub BeginsInDoubt : List Entry → Type 0
BeginsInDoubt (Opened m used limit faults doubtful ∷ since) = (doubtful ≡ true) × AllByRecursion IsQuiet since
BeginsInDoubt _ = ⊥

-- the list leaves a step in doubt: one of its own, or the one with which it begins
abbrev pub IsLeftInDoubt : List Entry → Type 0
IsLeftInDoubt entries = ((place : Reached) × (event : Event) × LeavesInDoubt entries place event) ⊎ BeginsInDoubt entries

-- a step fails to mend only where the list before it leaves a step in doubt
abbrev pub MendsDoubts : List Entry → Type 0
MendsDoubts entries = (before rest : List Entry) (client : ClientNo) (ask : Ask) (count : ℕ)
    → entries ≡ before ++ Faulted client ask None count ∷ rest → IsLeftInDoubt before

-- a step that the list leaves in doubt is the one of the store: a crash leaves what is kept, or what is kept after that step
pub record IsDoubtIn {D C : Type 0} (told : Type 0) (meaning : D → Meaning) (store : Stored D C) (entries : List Entry) : Type 0 where
  pub place : Reached
  pub event : Event
  pub left : LeavesInDoubt entries place event
  pub stood : told → (doubted : Kept) × IsAfter place.state event doubted × IsStoodOn store.state.kept doubted (meaning store.disk) store.seat

-- what a crash leaves by the list alone: it recovers to what is kept, or to what is kept after the step that the list leaves in doubt
abbrev pub ListLeaves : List Entry → Kept → Areas → Type 0
ListLeaves entries kept all = RecoversTo kept all
    ⊎ ((place : Reached) × (event : Event) × (doubted : Kept) × LeavesInDoubt entries place event × IsAfter place.state event doubted × RecoversTo doubted all)

-- The store, whose disk means this and has failed so often, is where the list leads. Where a step is in doubt, it is the one
-- that the list leaves in doubt.
pub record StandsFor {D C : Type 0} (told : Type 0) (meaning : D → Meaning) (faults : D → ℕ) (store : Stored D C) (entries : List Entry) : Type 0 where
  pub leads : Leads entries (reached_of faults store)
  pub mends : MendsDoubts entries
  pub in_doubt : store.seat.doubt ≢ Settled → IsDoubtIn told meaning store entries ⊎ BeginsInDoubt entries

-- whether a step is in doubt
abbrev pub is_doubtful : Doubt → Bool
is_doubtful Settled = false
is_doubtful _ = true

-- the one entry with which a history begins: the store as it is
abbrev pub first_of : {D C : Type 0} → (D → ℕ) → Stored D C → List Entry
first_of faults store = Opened store.state store.seat.used store.seat.limit (faults store.disk) (is_doubtful store.seat.doubt) ∷ []

-- the one entry of a step at which the disk failed
abbrev pub Fails : ClientNo → Ask → Option ℕ → List Entry → Type 0
Fails client ask reading made = (count : ℕ) × (made ≡ Faulted client ask reading count ∷ [])

-- the entries of a step that was tried at this reading, by what was said to the client's ask
abbrev pub TriedTells : ClientNo → Ask → ℕ → Said → List Entry → Type 0
TriedTells client ask reading (said.Replied reply) made = made ≡ Stepped client ask reading reply ∷ []
TriedTells client ask reading said.Disk made = Fails client ask (Some reading) made
TriedTells client ask reading (said.Full needed limit) made = made ≡ Filled client ask reading needed ∷ []
TriedTells client ask reading said.Memory made = made ≡ []

-- the entries of a step, by what was said: where the disk failed the step was tried, or an earlier one couldn't be mended
abbrev pub Tells : ClientNo → Ask → ℕ → Said → List Entry → Type 0
Tells client ask reading (said.Replied reply) made = made ≡ Stepped client ask reading reply ∷ []
Tells client ask reading said.Disk made = Fails client ask (Some reading) made ⊎ Fails client ask None made
Tells client ask reading (said.Full needed limit) made = made ≡ Filled client ask reading needed ∷ []
Tells client ask reading said.Memory made = made ≡ []

-- the entries of what a holder did
abbrev pub DeedTells : Deed → List Entry → Type 0
DeedTells deed.Nothing made = made ≡ []
DeedTells (deed.Stepped client ask answer reading) made = Tells client ask.now reading answer.now made
DeedTells (deed.Abandoned client) made = made ≡ Abandoned client ∷ []

-- a list for which the old store stands goes on by such entries, and the new one stands for it
abbrev pub ListGoesOn : {D C : Type 0} → Type 0 → (D → Meaning) → (D → ℕ) → (old new : Stored D C) → (List Entry → Type 0) → Type 0
ListGoesOn told meaning faults old new tells =
    (entries : List Entry) → StandsFor told meaning faults old entries
    → (made : List Entry) × tells made × StandsFor told meaning faults new (entries ++ made)

-- a list goes on by the step: it was tried, at the clock's reading; or an earlier one couldn't be mended, and there is none
abbrev pub HistoryGoesOn : {D C : Type 0} → Type 0 → (D → Meaning) → (D → ℕ) → (C → Option Ticking) → ClientNo → Ask → (old new : Stored D C) → Said → Type 0
HistoryGoesOn told meaning faults ticking client ask old new answer =
    (IsTried told meaning ticking (event_at client ask new.reading) old new answer × ListGoesOn told meaning faults old new (TriedTells client ask new.reading answer))
    ⊎ (IsUnmended told meaning old new answer × ListGoesOn told meaning faults old new (Fails client ask None))
