-- What a step of a store does, by what it answers.
use Rattle.std.specs.Prelude.{◌≡◌, ◌≢◌, ◌⊎◌, ◌≤◌, ◌<◌, ⊤, ℕ, ◌+◌, Option, Some}
use Rattle.au_base.specs.declared.ask.Ask.{Ask}
use Rattle.au_base.specs.declared.numbers.ClientNo.{ClientNo}
use Rattle.au_base.specs.declared.reply.Said.{Said}
use Rattle.au_base.specs.declared.reply.Said.TheVariants as said
use Rattle.au_entries.specs.declared.kept.Kept.{Kept}
use Rattle.au_io.specs.Areas.{Areas}
use Rattle.au_io.specs.Disk.{Meaning}
use Rattle.au_io.specs.Faults.{HasRisen}
use Rattle.au_journal.specs.declared.seat.Seat.{Seat}
use Rattle.au_journal.specs.Seats.{mend_bytes}
use Rattle.rec_codec.specs.declared.frame.Frame.{Frame}
use Rattle.au_step.specs.State.{State}
use Rattle.au_step.specs.Step.{Event, Step}
use Rattle.au_io.specs.Moments.{LeavesSince}
use Rattle.au_io.specs.Time.{Reads, Ticking}
use Rattle.au_journal.specs.declared.doubt.Doubt.TheVariants.{Settled}
use Rattle.au_store.specs.Recovery.{RecoversTo, RecoversToEither}
use Rattle.au_store.specs.Doubts.{EventWrites, IsAfter, IsStoodOn}
use Rattle.au_store.specs.Kinds.{FitsWithin, GoesOnSeat, IsFree, cost_by, needed_by}
use Rattle.au_store.specs.Stored.{Stored}

-- at a reply the state is that after the event; at any other answer it stays
abbrev pub StepsBy : State → Event → Said → State → Type 0
StepsBy m event (said.Replied reply) n = Step m event reply n
StepsBy m event said.Disk n = n ≡ m
StepsBy m event (said.Full needed limit) n = n ≡ m
StepsBy m event said.Memory n = n ≡ m

-- what is written is free of the limit, or fits under it, with one gate behind it
abbrev pub FitsUnder : Seat → Option Frame → Type 0
FitsUnder seat frame = FitsWithin seat.used seat.limit frame

-- the event writes a frame that isn't free of the limit and needs so much, over it
pub record Exceeds (m : State) (event : Event) (seat : Seat) (needed limit : ℕ) : Type 0 where
  pub after : State
  pub frame : Frame
  pub writes : EventWrites m event after (Some frame)
  pub charged : IsFree frame → ⊥
  pub needs : needed ≡ needed_by seat.used frame
  pub bound : limit ≡ seat.limit
  pub exceeds : limit < needed

-- the count of faults rose in the call where it answers that the disk failed, and nowhere else
abbrev pub StepCause : Said → ℕ → ℕ → Type 0
StepCause said.Disk before now = (before ≤ now) × HasRisen before now
StepCause (said.Replied reply) before now = now ≡ before
StepCause (said.Full needed limit) before now = now ≡ before
StepCause said.Memory before now = now ≡ before

-- at any moment of the step a crash leaves what was kept before, what the step in doubt would leave, or what this one does
abbrev pub StepLeaves : State → Event → Kept → Areas → Type 0
StepLeaves m event doubted all =
    RecoversTo m.kept all ⊎ (RecoversTo doubted all ⊎ ((kept : Kept) × IsAfter m event kept × RecoversTo kept all))

-- nothing was made of the ask, and the disk didn't fail: the journal is full, or there was no memory
abbrev pub IsLeftOut : Said → Type 0
IsLeftOut (said.Replied reply) = ⊥
IsLeftOut said.Disk = ⊥
IsLeftOut (said.Full needed limit) = ⊤
IsLeftOut said.Memory = ⊤

-- this step is in doubt
abbrev pub StepDoubts : State → Event → Meaning → Seat → Type 0
StepDoubts m event new seat = (kept : Kept) × IsAfter m event kept × IsStoodOn m.kept kept new seat

-- the event has a frame to write, which fits under the limit
abbrev pub HasFrameWithin : State → Seat → Event → Type 0
HasFrameWithin m seat event = (n : State) × (frame : Frame) × EventWrites m event n (Some frame) × FitsUnder seat (Some frame)

-- the step was tried: the clock was read, once nothing was in doubt; where the disk failed, there was a frame to write that
-- fits under the limit, and this step is in doubt
pub record IsTried {D C : Type 0} (told : Type 0) (meaning : D → Meaning) (ticking : C → Option Ticking) (event : Event) (old new : Stored D C) (answer : Said) : Type 0 where
  pub read : Reads (ticking old.clock) (ticking new.clock) new.reading
  pub wrote : answer ≡ said.Disk → HasFrameWithin old.state old.seat event
  pub doubts : told → answer ≡ said.Disk → StepDoubts old.state event (meaning new.disk) new.seat

-- an earlier step is in doubt, and its mend failed: the clock wasn't read, nothing but that mend was written, the same step
-- still is in doubt, and a crash leaves what it left before
pub record IsUnmended {D C : Type 0} (told : Type 0) (meaning : D → Meaning) (old new : Stored D C) (answer : Said) : Type 0 where
  pub failed : answer ≡ said.Disk
  pub stood : old.seat.doubt ≢ Settled
  pub seat : new.seat ≡ old.seat
  pub clock : new.clock ≡ old.clock
  pub reading : new.reading ≡ old.reading
  pub cost : (meaning new.disk).written ≤ (meaning old.disk).written + mend_bytes old.seat.doubt
  pub doubted : told → (doubted : Kept) → IsStoodOn old.state.kept doubted (meaning old.disk) old.seat → IsStoodOn old.state.kept doubted (meaning new.disk) new.seat
  pub any_moment : told → (doubted : Kept) → IsStoodOn old.state.kept doubted (meaning old.disk) old.seat
      → LeavesSince (RecoversToEither old.state.kept doubted) (meaning old.disk) (meaning new.disk)

-- what the event writes at most, of the disk's bytes written before and after, where its mend writes so many
abbrev pub EventCosts : State → Event → (mend before now : ℕ) → Type 0
EventCosts m event mend before now = (n : State) × (frame : Option Frame) × EventWrites m event n frame × (now ≤ before + (mend + cost_by n.kept frame))

-- what the step writes at most, by its answer: without a reply or a failed write nothing but the mend
abbrev pub StepCosts : State → Event → ℕ → Said → (before now : ℕ) → Type 0
StepCosts m event mend (said.Replied reply) before now = EventCosts m event mend before now
StepCosts m event mend said.Disk before now = (now ≤ before + mend) ⊎ EventCosts m event mend before now
StepCosts m event mend (said.Full needed limit) before now = now ≤ before + mend
StepCosts m event mend said.Memory before now = now ≤ before + mend

-- the used length grows by n; the area and its limit stay
pub record IsMovedTo (n : ℕ) (old new : Seat) : Type 0 where
  pub used : new.used ≡ old.used + n
  pub area : new.area ≡ old.area
  pub limit : new.limit ≡ old.limit

-- the event that took m to n was written: its frame is within the limit, and the journal went on by it
pub record IsWritten (m : State) (event : Event) (n : State) (old new : Seat) : Type 0 where
  pub frame : Option Frame
  pub of_event : EventWrites m event n frame
  pub within : FitsUnder old frame
  pub moved : GoesOnSeat n.kept frame old new

-- at a reply the event was written; at any other answer the used length stays
abbrev pub StepMoves : State → Event → State → Said → Seat → Seat → Type 0
StepMoves m event n (said.Replied reply) old new = IsWritten m event n old new
StepMoves m event n said.Disk old new = IsMovedTo 0 old new
StepMoves m event n (said.Full needed limit) old new = IsMovedTo 0 old new
StepMoves m event n said.Memory old new = IsMovedTo 0 old new

-- the client asks this at that reading
abbrev pub event_at : ClientNo → Ask → ℕ → Event
event_at client ask reading = record { client = client; ask = ask; reading = reading }
