-- The frame of a step, and that with which an instance begins.
use Rattle.std.proofs.Common.{◌≢◌, ℕ, ◌+◌, ◌<◌, inr, Bool, true, false, List, refl, sym, ap, subst, arith}
use Rattle.std.specs.Prelude.{Option, Some, None, if◌then◌else◌}
use Rattle.std.proofs.lemmas.List.{append-nil}
use Rattle.au_base.specs.Limits.{INSTANCES}
use Rattle.au_base.specs.declared.ask.Ask.{Ask}
use Rattle.au_base.specs.declared.numbers.ClientNo.{ClientNo}
use Rattle.au_entries.specs.declared.change.Change.TheVariants.{Start}
use Rattle.au_entries.specs.declared.kept.Kept.{Kept}
use Rattle.au_entries.specs.declared.trail_record.Record.{Record}
use Rattle.au_entries.specs.Changing.{changed}
use Rattle.au_entries.specs.Lawful.{IsWhole}
use Rattle.au_replay.specs.Reading.{conditions}
use Rattle.au_ruling.specs.Sound.{IsTimelyPurge}
use Rattle.rec_codec.specs.declared.frame.Frame.{Frame}
use Rattle.rec_codec.specs.Changes.{change}
use Rattle.rec_codec.specs.Frames.{IsSpellable, body}
use Rattle.au_step.specs.Framing.{IsFrameOf, IsText, IsWritable}
use Rattle.au_step.specs.Lawful.{IsLawful, IsLawfulState}
use Rattle.au_step.specs.Replaying.{EndsWell}
use Rattle.au_step.specs.Returning.{LeadsTo, start_frame}
use Rattle.au_step.specs.Sound.{HoldsOfSteps}
use Rattle.au_step.specs.descent.SoundSteps.{CanBeKept, IsSoundStep}
use Rattle.au_step.specs.State.{IsStampOf, State, start}
use Rattle.au_step.specs.Step.{Logged, all_changes, is_idle}
use Rattle.au_step.proofs.KeptLawful.{frame_at, frame_written, leads_at, stamp_written}

-- ---- the frame of a step

pub step_leads : HoldsOfSteps IsSoundStep → (m n : State) (client : ClientNo) (ask : Ask) (stamp : ℕ) (frame : Option Frame) → IsFrameOf m client ask stamp n frame → IsText ask → IsLawfulState m → IsStampOf m stamp
    → EndsWell m.kept → client.0 ≢ 0 → LeadsTo m.kept frame n.kept
step_leads sound m n client ask stamp frame (reply, logged, step, is) text lawful stamped ends other =
    let h = sound m n client ask stamp reply logged lawful ends stamped text other step in
    subst (λ (f : Option Frame). LeadsTo m.kept f n.kept) (sym is)
    (subst (λ (k : Kept). LeadsTo m.kept (if is_idle logged then None else Some (frame_at stamp logged)) k) (sym h.kept)
    (leads_at m.kept stamp logged (is_idle logged) refl h.can))

pub step_ends : HoldsOfSteps IsSoundStep → (m n : State) (client : ClientNo) (ask : Ask) (stamp : ℕ) (frame : Option Frame) → IsFrameOf m client ask stamp n frame → IsText ask → IsLawfulState m → IsStampOf m stamp
    → EndsWell m.kept → client.0 ≢ 0 → EndsWell n.kept
step_ends sound m n client ask stamp frame (reply, logged, step, is) text lawful stamped ends other = (sound m n client ask stamp reply logged lawful ends stamped text other step).ends

writable_at : (kept : Kept) (stamp : ℕ) (logged : Logged) (idle : Bool) → IsTimelyPurge logged.purge → CanBeKept kept stamp (all_changes logged) logged.records → IsWritable (if idle then None else Some (frame_at stamp logged))
writable_at kept stamp logged true timely can = tt
writable_at kept stamp logged false timely can = frame_written kept stamp logged.purge (all_changes logged) logged.records timely can

pub step_writable : HoldsOfSteps IsSoundStep → (m n : State) (client : ClientNo) (ask : Ask) (stamp : ℕ) (frame : Option Frame) → IsFrameOf m client ask stamp n frame → IsText ask → IsLawfulState m → IsStampOf m stamp
    → EndsWell m.kept → client.0 ≢ 0 → IsWritable frame
step_writable sound m n client ask stamp frame (reply, logged, step, is) text lawful stamped ends other =
    let h = sound m n client ask stamp reply logged lawful ends stamped text other step in
    subst (λ (f : Option Frame). IsWritable f) (sym is) (writable_at m.kept stamp logged (is_idle logged) h.timely h.can)

-- ---- the event with which an instance begins

start_whole : (kept : Kept) (instance : ℕ) → IsWhole kept → IsWhole (changed conditions.tree (Start instance) kept)
start_whole kept instance whole = record {
  fits = whole.fits;
  keys = whole.keys;
  few = record {
    users = whole.few.users;
    roles = whole.few.roles;
    tables = whole.few.tables;
    policies = whole.few.policies;
    fga = whole.few.fga;
    grants = whole.few.grants;
    columns = whole.few.columns;
    rows = whole.few.rows;
  };
}

pub start_leads : (kept : Kept) (reading : ℕ) → IsLawful kept → kept.instance < INSTANCES → EndsWell kept → LeadsTo kept (Some (start_frame kept reading)) (start kept reading).kept
start_leads kept reading lawful more ends = (
  record { stamped = omega arith; go_on = ((omega arith, inr (omega arith)), tt); sys = ends; whole = start_whole kept (kept.instance + 1) lawful.whole },
  ap (λ (t : List Record). record kept { trail = t; last = (start kept reading).kept.last; instance = kept.instance + 1 }) (append-nil kept.trail),
)

pub start_writable : (kept : Kept) (reading : ℕ) → IsLawful kept → kept.instance < INSTANCES → IsSpellable (start_frame kept reading)
unfolding body change
start_writable kept reading lawful more =
    let before = lawful.lawful.last in
    (stamp_written (start kept reading).kept.last (omega arith), ((omega arith, (omega arith, tt)), (omega arith, tt)))
