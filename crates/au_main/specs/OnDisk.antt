-- What a crash leaves of a run.
use Rattle.std.specs.Prelude.{◌≡◌, ◌≢◌, ◌⊎◌, ℕ, List, [], ◌∷◌, ◌++◌, flat_map}
use Rattle.au_base.specs.declared.ask.Ask.{Ask}
use Rattle.au_base.specs.declared.numbers.ClientNo.{ClientNo}
use Rattle.au_base.specs.declared.reply.Said.{Said}
use Rattle.au_base.specs.declared.reply.Said.TheVariants.{Disk}
use Rattle.au_entries.specs.declared.kept.Kept.{Kept}
use Rattle.au_io.specs.Areas.{Areas}
use Rattle.au_io.specs.Disk.{Meaning, Passes}
use Rattle.au_io.specs.Moments.{LeavesSince}
use Rattle.au_journal.specs.declared.doubt.Doubt.TheVariants.{Settled}
use Rattle.au_journal.specs.declared.seat.Seat.{Seat}
use Rattle.au_step.specs.State.{State}
use Rattle.au_step.specs.Step.{Event}
use Rattle.au_store.specs.History.{GoesOver, Reached}
use Rattle.au_store.specs.Recovery.{RecoversTo, RecoversToEither}
use Rattle.au_store.specs.Doubts.{HasFrame, IsAfter, IsStoodOn}
use Rattle.au_store.specs.Steps.{StepDoubts, StepLeaves, event_at}
use Rattle.au_store.specs.Stored.{IsKeptOn}
use Rattle.au_main.specs.Answers.{Answer, AreUnmended, Made, Unmended, steps_of}

-- the first step that is still to come is tried, and this is kept after its event
abbrev pub IsNextTried : State → List Answer → Kept → Type 0
IsNextTried m [] kept = ⊥
IsNextTried m (Made client ask reading said ∷ answers) kept = IsAfter m (event_at client ask reading) kept
IsNextTried m (Unmended client ask ∷ answers) kept = ⊥

-- a run that began here came by this: it is kept before some step or after the last one, where the replies before it lead,
-- or after the event of a step that was tried
pub record CameBy (opened : Reached) (answers : List Answer) (kept : Kept) : Type 0 where
  pub before : List Answer
  pub rest : List Answer
  pub split : answers ≡ before ++ rest
  pub here : Reached
  pub reached : GoesOver opened (flat_map steps_of before) here
  pub is : (kept ≡ here.state.kept) ⊎ IsNextTried here.state rest kept

-- the areas recover to something that the run came by
abbrev pub RecoversAlong : Reached → List Answer → Areas → Type 0
RecoversAlong opened answers all = (kept : Kept) × CameBy opened answers kept × RecoversTo kept all

-- a step is in doubt, and this is kept after its event: it was tried with a frame to write, the disk failed, and no step
-- since could mend that
pub record IsUncertain (m : State) (answers : List Answer) (kept : Kept) : Type 0 where
  pub before : List Answer
  pub client : ClientNo
  pub ask : Ask
  pub reading : ℕ
  pub since : List Answer
  pub split : answers ≡ before ++ Made client ask reading Disk ∷ since
  pub unmended : AreUnmended since
  pub has_frame : HasFrame m (event_at client ask reading)
  pub is_after : IsAfter m (event_at client ask reading) kept

-- the areas recover to what is kept in m, or, where a step is in doubt, to what is kept after it
abbrev pub RecoversAfter : State → List Answer → Areas → Type 0
RecoversAfter m answers all = RecoversTo m.kept all ⊎ ((kept : Kept) × IsUncertain m answers kept × RecoversTo kept all)

-- the journal stands for what is kept in m, and perhaps for the step in doubt
pub record RestsOn (m : State) (answers : List Answer) (meaning : Meaning) (seat : Seat) : Type 0 where
  pub doubted : Kept
  pub stood : IsStoodOn m.kept doubted meaning seat
  pub which : (doubted ≡ m.kept) ⊎ IsUncertain m answers doubted

-- a run that began here and came to n, over these answers: each image of a moment recovers to what the run came by, each
-- image of the last to what is kept in n or after the step in doubt
pub record IsOnDisk (opened : Reached) (n : State) (answers : List Answer) (old new : Meaning) (seat : Seat) : Type 0 where
  pub time : Passes old new
  pub any_moment : LeavesSince (RecoversAlong opened answers) old new
  pub stands : RestsOn n answers new seat

-- what a step does on the disk, by what is said
pub record MakesOnDisk (m n : State) (event : Event) (said : Said) (old new : Meaning) (before after : Seat) : Type 0 where
  pub settled : said ≢ Disk → after.doubt ≡ Settled
  pub kept : said ≢ Disk → IsKeptOn n.kept new after
  pub wrote : said ≡ Disk → HasFrame m event
  pub doubts : said ≡ Disk → StepDoubts m event new after
  pub any_moment : (doubted : Kept) → IsStoodOn m.kept doubted old before → LeavesSince (StepLeaves m event doubted) old new

-- what a step does that couldn't mend an earlier one's doubt
pub record StaysOnDisk (m : State) (old new : Meaning) (before after : Seat) : Type 0 where
  pub doubted : (doubted : Kept) → IsStoodOn m.kept doubted old before → IsStoodOn m.kept doubted new after
  pub any_moment : (doubted : Kept) → IsStoodOn m.kept doubted old before → LeavesSince (RecoversToEither m.kept doubted) old new

abbrev pub StepsOnDisk : (m n : State) → Answer → (old new : Meaning) (before after : Seat) → Type 0
StepsOnDisk m n (Made client ask reading said) old new before after = MakesOnDisk m n (event_at client ask reading) said old new before after
StepsOnDisk m n (Unmended client ask) old new before after = StaysOnDisk m old new before after
