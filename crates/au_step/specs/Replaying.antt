-- When a frame of the journal goes on from what is kept, and what it makes of it, by the product's conditions.
use Rattle.std.specs.Prelude.{IsTrue}
use Rattle.au_base.specs.BuiltIn.{sys}
use Rattle.au_entries.specs.declared.kept.Kept.{Kept}
use Rattle.au_entries.specs.Replaying.{has_user}
use Rattle.au_kept.specs.Frames as frames
pub use Rattle.au_kept.specs.Frames.{IsImage}
use Rattle.au_replay.specs.Reading.{conditions}
use Rattle.rec_codec.specs.declared.frame.Frame.{Frame}

-- SYS is a user, as after each frame that goes on
abbrev pub EndsWell : Kept → Type 0
EndsWell kept = IsTrue (has_user kept sys)

-- the frame goes on from what is kept
abbrev pub IsReplayable : Kept → Frame → Type 0
IsReplayable kept frame = frames.IsReplayable conditions kept frame

-- what is kept after the frame
abbrev pub after_frame : Kept → Frame → Kept
after_frame kept frame = frames.after_frame conditions.tree kept frame
