-- What a step that is worked out writes.
use Rattle.std.proofs.Common.{◌≡◌, ℕ, List, refl, ap}
use Rattle.std.specs.Prelude.{Option, Some, None, if◌then◌else◌}
use Rattle.std.proofs.lemmas.List.{take-append-drop}
use Rattle.au_base.specs.declared.ask.Ask.{Ask}
use Rattle.au_base.specs.declared.numbers.ClientNo.{ClientNo}
use Rattle.au_base.specs.declared.numbers.Stamp.{Stamp}
use Rattle.au_entries.specs.declared.change.Change.{Change}
use Rattle.au_step.specs.Framing.{IsFrameOf, IsWritable, Writes, event_of, frame_by, framed_option}
use Rattle.au_step.specs.State.{State}
use Rattle.au_step.specs.Step.{LoggedStep, is_nothing}
use Rattle.rec_codec.specs.declared.frame.Frame.{Frame}
use Rattle.au_engine.specs.declared.outcome.Outcome.{Outcome}
use Rattle.au_engine.specs.Prepared.{logged_by, made_of}

-- the event of the step is the frame that it writes
pub frame_of : (m : State) (client : ClientNo) (ask : Ask) (stamp : ℕ) (p : Outcome) → LoggedStep m client ask stamp p.reply (logged_by p) (made_of p m) → IsFrameOf m client ask stamp (made_of p m) (event_of stamp (logged_by p))
frame_of m client ask stamp p step = (p.reply, logged_by p, step, refl)

-- the step with the framed bytes writes what the step writes
pub step_writes : (m : State) (client : ClientNo) (ask : Ask) (stamp : ℕ) (p : Outcome) (bytes : Option (List ℕ)) → LoggedStep m client ask stamp p.reply (logged_by p) (made_of p m)
    → IsWritable (event_of stamp (logged_by p)) → bytes ≡ framed_option (event_of stamp (logged_by p)) → Writes m client ask stamp (made_of p m) bytes
step_writes m client ask stamp p bytes step can written = record {
  frame = event_of stamp (logged_by p);
  of_step = frame_of m client ask stamp p step;
  writable = can;
  bytes_are = written;
}

abbrev frame_if : Stamp → List Change → Outcome → Option Frame
frame_if stamp cs p = if is_nothing cs p.purge p.records then None else Some (frame_by p.purge stamp cs p.records)

-- the frame of all its changes, where there is something to be kept
pub event_is : (stamp : Stamp) (p : Outcome) → event_of stamp.0 (logged_by p) ≡ (if is_nothing p.changes p.purge p.records then None else Some (frame_by p.purge stamp p.changes p.records))
event_is stamp p = ap (λ (cs : List Change). frame_if stamp cs p) (take-append-drop p.finals p.changes)
