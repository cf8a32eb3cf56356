-- A run from the disk that is handed in to the one that is handed back.
use Rattle.std.proofs.Common.{◌≡◌, inl, inr, ℕ, List, sym}
use Rattle.std.specs.Prelude.{Option}
use Rattle.au_io.specs.Disk.{Meaning, Passes}
use Rattle.au_io.specs.Moments.{LeavesSince, both_calls, weaker_since}
use Rattle.au_io.specs.Time.{Reads}
use Rattle.au_store.specs.History.{Reached, reached_of}
use Rattle.au_store.specs.Starting.{IsOpened, IsSeated, IsStarted, NoneIsBare, OpenLeaves}
use Rattle.au_store.specs.Stored.{Stored}
use Rattle.au_main.specs.declared.status.Status.{Status}
use Rattle.au_main.specs.declared.status.Status.TheVariants.{Done, Usage, ReadFault, WriteFault, DiskFault, Unformatted, Formatted, Damaged, BadLine, TooLong, LobbyFault, Memory, Worn}
use Rattle.au_main.specs.Answers.{Answer}
use Rattle.au_main.specs.Means.{Means}
use Rattle.au_main.specs.OnDisk.{IsOnDisk, RecoversAlong}
use Rattle.au_main.specs.Ran.{HasRun, RanTo, RunLeaves}
use Rattle.au_main.proofs.OnDisk.{after_all}

module _ {D C : Type 0} (means : Means D C) (left now : Option (List ℕ)) (o m : Stored D C) (answers : List Answer) (g h : Option (List ℕ)) where
  -- what the run did on the disk, at any end
  on_disk_of : (status : Status) → RanTo means status left now o m answers g h → means.told → IsOnDisk (reached_of means.faults o) m.state answers (means.meaning o.disk) (means.meaning m.disk) m.seat
  on_disk_of Done ran = ran.ran.on_disk
  on_disk_of (BadLine n) ran = ran.ran.on_disk
  on_disk_of ReadFault ran = ran.ran.on_disk
  on_disk_of WriteFault ran = ran.ran.on_disk
  on_disk_of TooLong ran = ran.ran.on_disk
  on_disk_of Memory ran = ran.ran.on_disk
  on_disk_of Usage ran = absurd ran
  on_disk_of DiskFault ran = absurd ran
  on_disk_of Unformatted ran = absurd ran
  on_disk_of Formatted ran = absurd ran
  on_disk_of (Damaged area at) ran = absurd ran
  on_disk_of LobbyFault ran = absurd ran
  on_disk_of Worn ran = absurd ran

-- the moments of the opening, and then those of the steps
moments_of : (reading : ℕ) (o : Reached) (answers : List Answer) (old mid new : Meaning) → Passes old mid → Passes mid new
    → LeavesSince (OpenLeaves old reading) old mid → LeavesSince (RecoversAlong o answers) mid new → LeavesSince (RunLeaves old reading o answers) old new
moments_of reading o answers old mid new before after opens runs =
    both_calls (RunLeaves old reading o answers) old mid new before after
    (weaker_since (OpenLeaves old reading) (RunLeaves old reading o answers) old mid (λ c leaves. inl leaves) opens)
    (weaker_since (RecoversAlong o answers) (RunLeaves old reading o answers) mid new (λ c along. inr along) runs)

pub has_run : {D C : Type 0} (means : Means D C) (status : Status) (left now : Option (List ℕ)) (disk last : D) (clock clocked : C) (g h : Option (List ℕ)) (o m : Stored D C)
    → IsStarted o.reading o.state
    → (means.told → IsOpened (means.meaning disk).reads o.reading o.state)
    → (means.told → IsSeated (means.meaning disk).reads o.reading o.seat)
    → Reads (means.ticking clock) (means.ticking o.clock) o.reading
    → means.faults o.disk ≡ means.faults disk
    → Passes (means.meaning disk) (means.meaning o.disk)
    → (means.told → NoneIsBare (means.meaning disk) → LeavesSince (OpenLeaves (means.meaning disk) o.reading) (means.meaning disk) (means.meaning o.disk))
    → (answers : List Answer) × RanTo means status left now o m answers g h
    → last ≡ m.disk → clocked ≡ m.clock
    → HasRun means status left now disk last clock clocked g h
has_run means status left now disk last clock clocked g h o m starts begins seated read well time opens ran disk_is clock_is =
    let on_disk = on_disk_of means left now o m ran.0 g h status ran.1 in
    record {
      opened = o;
      closed = m;
      answers = ran.0;
      starts = starts;
      begins = begins;
      seated = seated;
      read = read;
      well = well;
      ran = ran.1;
      disk_is = sym disk_is;
      clock_is = sym clock_is;
      any_moment = λ told gated. rw disk_is
          (moments_of o.reading (reached_of means.faults o) ran.0 (means.meaning disk) (means.meaning o.disk) (means.meaning m.disk) time (on_disk told).time (opens told gated) (on_disk told).any_moment);
      at_last = λ told. rw disk_is (after_all (reached_of means.faults o) m.state ran.0 (means.meaning o.disk) (means.meaning m.disk) m.seat (on_disk told));
    }
