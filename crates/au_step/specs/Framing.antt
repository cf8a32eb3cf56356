-- Which frame a step writes to the journal.
use Rattle.std.specs.Prelude.{◌≡◌, ⊤, ℕ, IsUtf8, List, if◌then◌else◌, Option, Some, None, option_map}
use Rattle.au_base.specs.declared.ask.Ask.{Ask}
use Rattle.au_base.specs.declared.ask.Ask.TheVariants.{Local, Logon, Sql, Logoff}
use Rattle.au_base.specs.declared.numbers.ClientNo.{ClientNo}
use Rattle.au_base.specs.declared.numbers.Stamp.{Stamp}
use Rattle.au_base.specs.declared.reply.Reply.{Reply}
use Rattle.au_entries.specs.declared.change.Change.{Change}
use Rattle.au_entries.specs.declared.trail_record.Record.{Record}
use Rattle.rec_codec.specs.declared.frame.Frame.{Frame}
use Rattle.rec_codec.specs.declared.frame.Frame.TheVariants.{Image, Event, Purge}
use Rattle.rec_codec.specs.Frames.{IsSpellable, framed}
use Rattle.au_step.specs.State.{State}
use Rattle.au_step.specs.Step.{Logged, LoggedStep, all_changes, is_idle}

-- an event or, where it purges, a purge
abbrev pub frame_by : Option (Option Stamp) → Stamp → List Change → List Record → Frame
frame_by None stamp changes records = Event stamp changes records
frame_by (Some before) stamp changes records = Purge stamp before changes records

-- the frame at this stamp with the changes, the purge and the records; none where there is none of them
abbrev pub event_of : ℕ → Logged → Option Frame
event_of stamp logged =
    if is_idle logged then None else Some (frame_by logged.purge (record { 0 = stamp }) (all_changes logged) logged.records)

-- the step of the client's ask at this stamp, which takes the state from m to n, writes the frame, or none
abbrev pub IsFrameOf : State → ClientNo → Ask → ℕ → State → Option Frame → Type 0
IsFrameOf m client ask stamp n frame =
    (reply : Reply) × (logged : Logged) × LoggedStep m client ask stamp reply logged n × (frame ≡ event_of stamp logged)

-- the texts that are asked are UTF-8
abbrev pub IsText : Ask → Type 0
IsText Local = ⊤
IsText (Logon user password) = IsUtf8 user × IsUtf8 password
IsText (Sql text) = IsUtf8 text
IsText Logoff = ⊤

-- the records of a frame
abbrev pub records_in : Frame → List Record
records_in (Image last changes records) = records
records_in (Event stamp changes records) = records
records_in (Purge stamp before changes records) = records

-- the frame, where there is one, has a body
abbrev pub IsWritable : Option Frame → Type 0
IsWritable None = ⊤
IsWritable (Some frame) = IsSpellable frame

-- a frame as the journal takes it, where there is one
abbrev pub framed_option : Option Frame → Option (List ℕ)
framed_option frame = option_map framed frame

-- the bytes are the framed body of what the step writes; there are none where it writes nothing
pub record Writes (m : State) (client : ClientNo) (ask : Ask) (stamp : ℕ) (n : State) (bytes : Option (List ℕ)) : Type 0 where
  pub frame : Option Frame
  pub of_step : IsFrameOf m client ask stamp n frame
  pub writable : IsWritable frame
  pub bytes_are : bytes ≡ framed_option frame
