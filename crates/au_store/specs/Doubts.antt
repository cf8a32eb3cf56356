-- The step that is in doubt, and what it would leave.
use Rattle.std.specs.Prelude.{◌≡◌, ◌≢◌, List, [], ◌∷◌, Option, Some}
use Rattle.au_base.specs.declared.numbers.ClientNo.{ClientNo}
use Rattle.au_base.specs.declared.reply.Reply.{Reply}
use Rattle.au_entries.specs.declared.kept.Kept.{Kept}
use Rattle.au_io.specs.Disk.{Meaning}
use Rattle.au_journal.specs.declared.doubt.Doubt.TheVariants.{Settled}
use Rattle.au_journal.specs.declared.seat.Seat.{Seat}
use Rattle.au_step.specs.Abandoning.{abandoned}
use Rattle.rec_codec.specs.declared.frame.Frame.{Frame}
use Rattle.au_step.specs.Framing.{IsFrameOf}
use Rattle.au_step.specs.State.{State, stamp_of}
use Rattle.au_step.specs.Step.{Event, Step}
use Rattle.au_store.specs.Recovery.{ReplayedTo}
use Rattle.au_journal.specs.Standing.{StandsOn}

-- the event writes this frame, or none, and the state is this one after it
abbrev pub EventWrites : State → Event → State → Option Frame → Type 0
EventWrites m event n frame = IsFrameOf m event.client event.ask (stamp_of m event.reading) n frame

-- the event has a frame to write
abbrev pub HasFrame : State → Event → Type 0
HasFrame m event = (n : State) × (frame : Frame) × EventWrites m event n (Some frame)

-- what is kept after the event
abbrev pub IsAfter : State → Event → Kept → Type 0
IsAfter m event kept = (n : State) × (reply : Reply) × Step m event reply n × (kept ≡ n.kept)

-- all that a crash may leave recovers to what is kept, or, where a step is in doubt, to what is kept after it
abbrev pub IsStoodOn : Kept → Kept → Meaning → Seat → Type 0
IsStoodOn kept doubted m seat = StandsOn (ReplayedTo kept) (ReplayedTo doubted) m seat

-- the state after the sessions of these clients were ended, that of the first of them last
abbrev pub all_abandoned : List ClientNo → State → State
all_abandoned [] m = m
all_abandoned (client ∷ clients) m = abandoned client (all_abandoned clients m)

-- the event of the step in doubt, which has a frame to write, and the state that it came from: since then sessions were
-- ended, and nothing else was done
pub record IsLeftBy (m : State) (doubted : Kept) : Type 0 where
  pub from : State
  pub event : Event
  pub gone : List ClientNo
  pub since : m ≡ all_abandoned gone from
  pub has_frame : HasFrame from event
  pub is_after : IsAfter from event doubted

-- nothing is in doubt, or one step is: a crash leaves what is kept, or what is kept after the event of that step
pub record IsAtRest (m : State) (meaning : Meaning) (seat : Seat) : Type 0 where
  pub doubted : Kept
  pub stood : IsStoodOn m.kept doubted meaning seat
  pub left : seat.doubt ≢ Settled → IsLeftBy m doubted
