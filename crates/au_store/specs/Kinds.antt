-- What each kind of frame does to a journal: an event is appended; a purge is a flip, which writes the image of what is kept
-- after it into the other area, free of the limit.
use Rattle.std.specs.Prelude.{◌≡◌, ◌⊎◌, ◌≤◌, ⊤, ℕ, length, Option, Some, None}
use Rattle.au_entries.specs.declared.kept.Kept.{Kept}
use Rattle.au_io.specs.declared.disk.Area.{Area}
use Rattle.au_journal.specs.Images.{other_of}
use Rattle.au_journal.specs.Lengths.{append_cost, flip_cost, needed_behind, new_length, used_behind}
use Rattle.au_journal.specs.declared.seat.Seat.{Seat}
use Rattle.rec_codec.specs.declared.frame.Frame.{Frame}
use Rattle.rec_codec.specs.declared.frame.Frame.TheVariants.{Image, Event, Purge}
use Rattle.rec_codec.specs.Frames.{framed}
use Rattle.au_image.specs.Image.{image_of}

-- a purge is free of the limit
abbrev pub IsFree : Frame → Type 0
IsFree (Image last changes records) = ⊥
IsFree (Event stamp changes records) = ⊥
IsFree (Purge stamp before changes records) = ⊤

-- the used length after the frame, where this is kept after it
abbrev pub used_after : ℕ → Kept → Frame → ℕ
used_after used kept (Image last changes records) = used_behind used (length (framed (Image last changes records)))
used_after used kept (Event stamp changes records) = used_behind used (length (framed (Event stamp changes records)))
used_after used kept (Purge stamp before changes records) = new_length (length (framed (image_of kept)))

-- the area in which the journal goes on
abbrev pub area_after : Area → Frame → Area
area_after area (Image last changes records) = area
area_after area (Event stamp changes records) = area
area_after area (Purge stamp before changes records) = other_of area

-- the bytes that are written at most: a frame and its gate, or a whole area and the byte of Head
abbrev pub cost_of : Kept → Frame → ℕ
cost_of kept (Image last changes records) = append_cost (length (framed (Image last changes records)))
cost_of kept (Event stamp changes records) = append_cost (length (framed (Event stamp changes records)))
cost_of kept (Purge stamp before changes records) = flip_cost (length (framed (image_of kept)))

-- the same where there may be no frame
abbrev pub used_by : ℕ → Kept → Option Frame → ℕ
used_by used kept None = used
used_by used kept (Some frame) = used_after used kept frame

abbrev pub area_by : Area → Option Frame → Area
area_by area None = area
area_by area (Some frame) = area_after area frame

abbrev pub cost_by : Kept → Option Frame → ℕ
cost_by kept None = 0
cost_by kept (Some frame) = cost_of kept frame

-- so many bytes are needed for a frame behind those that are used: it and one gate
abbrev pub needed_by : ℕ → Frame → ℕ
needed_by used frame = needed_behind used (length (framed frame))

-- what is written is free of the limit, or ends within it
abbrev pub FitsWithin : (used limit : ℕ) → Option Frame → Type 0
FitsWithin used limit None = ⊤
FitsWithin used limit (Some frame) = IsFree frame ⊎ (needed_by used frame ≤ limit)

-- the journal went on by what is written, and this is kept after it
pub record GoesOnSeat (kept : Kept) (frame : Option Frame) (old new : Seat) : Type 0 where
  pub used : new.used ≡ used_by old.used kept frame
  pub area : new.area ≡ area_by old.area frame
  pub limit : new.limit ≡ old.limit
