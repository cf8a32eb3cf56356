-- What is kept on a disk: the frames that stand in its selected area, replayed from nothing.
use Rattle.std.specs.Prelude.{◌≡◌, ℕ, List, [], ◌∷◌}
use Rattle.au_io.specs.declared.disk.Area.{Area}
use Rattle.au_io.specs.Areas.{Areas}
use Rattle.au_entries.specs.declared.kept.Kept.{Kept}
use Rattle.au_journal.specs.Frames.{Stands}
use Rattle.au_journal.specs.Images.{In}
use Rattle.rec_codec.specs.declared.frame.Frame.{Frame}
use Rattle.rec_codec.specs.Frames.{IsFrame}
use Rattle.au_entries.specs.Imaging.{nothing}
use Rattle.au_step.specs.Replaying.{IsReplayable, after_frame, IsImage}
use Rattle.au_journal.specs.Standing.{Holds, HoldsEither}

-- the bytes are the body of a frame that is no image and goes on from what is kept, and that is kept after it
pub record GoesOnBy (kept : Kept) (body : List ℕ) (after : Kept) : Type 0 where
  pub frame : Frame
  pub spelled : IsFrame body frame
  pub no_image : IsImage frame → ⊥
  pub replayable : IsReplayable kept frame
  pub makes : after ≡ after_frame kept frame

-- each body goes on from what the ones before it leave, and this is kept after the last
abbrev pub GoesOnTo : Kept → List (List ℕ) → Kept → Type 0
GoesOnTo kept [] after = after ≡ kept
GoesOnTo kept (body ∷ bodies) after = (next : Kept) × GoesOnBy kept body next × GoesOnTo next bodies after

-- the bytes are the body of an image that can be replayed from nothing, and that is kept after it
pub record BeginsBy (body : List ℕ) (after : Kept) : Type 0 where
  pub frame : Frame
  pub spelled : IsFrame body frame
  pub image : IsImage frame
  pub replayable : IsReplayable nothing frame
  pub makes : after ≡ after_frame nothing frame

-- The bodies are replayed from nothing, in order, and this is kept after the last. The first is an image, and no other.
abbrev pub Replayed : List (List ℕ) → Kept → Type 0
Replayed [] after = ⊥
Replayed (body ∷ bodies) after = (first : Kept) × BeginsBy body first × GoesOnTo first bodies after

-- the property of bodies that this is what they are replayed to
abbrev pub ReplayedTo : Kept → List (List ℕ) → Type 0
ReplayedTo kept bodies = Replayed bodies kept

-- the selected area holds bodies that are replayed to what is kept; it may end where they end
pub record ReadsAs (kept : Kept) (all : Areas) : Type 0 where
  pub area : Area
  pub limit : ℕ
  pub bodies : List (List ℕ)
  pub held : In area (Stands limit bodies) all
  pub so : Replayed bodies kept

-- the same, and a closed gate stands behind the bodies
abbrev pub RecoversTo : Kept → Areas → Type 0
RecoversTo kept all = Holds (ReplayedTo kept) all

-- it holds bodies that are replayed to the one or to the other
abbrev pub RecoversToEither : Kept → Kept → Areas → Type 0
RecoversToEither kept other all = HoldsEither (ReplayedTo kept) (ReplayedTo other) all
