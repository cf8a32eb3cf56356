-- Frames that lead from what was kept to what is kept.
use Rattle.std.specs.Prelude.{◌≡◌, ℕ, ◌+◌, [], ◌∷◌, Option, Some, None}
use Rattle.au_entries.specs.declared.change.Change.TheVariants.{Start}
use Rattle.au_entries.specs.declared.kept.Kept.{Kept}
use Rattle.rec_codec.specs.declared.frame.Frame.{Frame}
use Rattle.rec_codec.specs.declared.frame.Frame.TheVariants.{Event}
use Rattle.au_step.specs.Replaying.{IsReplayable, after_frame}
use Rattle.au_step.specs.State.{start}

-- the frame goes on from what is kept before and gives what is kept after; without a frame both are the same
abbrev pub LeadsTo : Kept → Option Frame → Kept → Type 0
LeadsTo before None after = after ≡ before
LeadsTo before (Some frame) after = IsReplayable before frame × (after_frame before frame ≡ after)

-- the event with which the next instance over what is kept begins, at this reading of the clock
abbrev pub start_frame : Kept → ℕ → Frame
start_frame kept reading = Event (start kept reading).kept.last (Start (kept.instance + 1) ∷ []) []
