-- How a step that was prepared is written and made.
use Rattle.std.specs.Prelude.{◌≡◌, ◌≤◌, ⊤, ℕ, false, List, length, Option, Some, None}
use Rattle.au_base.specs.declared.ask.Ask.{Ask}
use Rattle.au_base.specs.declared.numbers.ClientNo.{ClientNo}
use Rattle.au_base.specs.declared.numbers.Stamp.{Stamp}
use Rattle.au_base.specs.declared.reply.Said.{Said}
use Rattle.au_base.specs.declared.reply.Said.TheVariants as said
use Rattle.au_entries.specs.declared.kept.Kept.{Kept}
use Rattle.au_entries.specs.Imaging.{nothing}
use Rattle.au_image.specs.Image.{image_of}
use Rattle.au_journal.specs.Images.{other_of}
use Rattle.au_journal.specs.Lengths.{append_cost, flip_cost, new_length}
use Rattle.au_journal.specs.declared.seat.Seat.{Seat}
use Rattle.au_journal.specs.Seats.{IsFramed, IsFullAt, needed_of}
use Rattle.rec_codec.specs.declared.frame.Frame.{Frame}
use Rattle.rec_codec.specs.declared.frame.Frame.TheVariants.{Image, Event, Purge}
use Rattle.rec_codec.specs.Frames.{IsSpellable, framed}
use Rattle.au_step.specs.Framing.{Writes}
use Rattle.au_step.specs.Replaying.{IsReplayable, after_frame, IsImage}
use Rattle.au_step.specs.Returning.{LeadsTo}
use Rattle.au_engine.specs.declared.prepared.Prepared.{Prepared}
use Rattle.au_engine.specs.Prepared.{after}
use Rattle.au_step.specs.State.{State}
use Rattle.au_store.specs.declared.ready.Ready.{Ready}
use Rattle.au_store.specs.Steps.{IsMovedTo}

-- the frame goes on from what is kept, and that is kept after it
pub record Carries (kept : Kept) (frame : Frame) (after : Kept) : Type 0 where
  pub spellable : IsSpellable frame
  pub no_image : IsImage frame → ⊥
  pub replayable : IsReplayable kept frame
  pub makes : after ≡ after_frame kept frame

-- what a step writes carries what is kept to what is kept after it; where it writes nothing, that stays
abbrev pub CarriesTo : Kept → Option (List ℕ) → Kept → Type 0
CarriesTo kept None after = after ≡ kept
CarriesTo kept (Some bytes) after = (frame : Frame) × (bytes ≡ framed frame) × Carries kept frame after

-- the state by the prepared step, which takes no memory: at a reply it is the one after it; at any other answer it stays
abbrev pub MakesBy : Prepared → State → Said → State → Type 0
MakesBy prepared m (said.Replied reply) n = (reply ≡ prepared.reply) × (n ≡ after prepared m)
MakesBy prepared m said.Disk n = n ≡ m
MakesBy prepared m (said.Full needed limit) n = n ≡ m
MakesBy prepared m said.Memory n = ⊥

-- how long the area grows by framed bytes, where there are some
abbrev pub growth : Option (List ℕ) → ℕ
growth None = 0
growth (Some bytes) = length bytes

-- the bytes that are written of them at most
abbrev pub written_by : Option (List ℕ) → ℕ
written_by None = 0
written_by (Some bytes) = append_cost (length bytes)

-- the area with the framed bytes and one gate behind them is within the limit
abbrev pub IsWithin : Seat → Option (List ℕ) → Type 0
IsWithin seat None = ⊤
IsWithin seat (Some bytes) = needed_of seat (length bytes) ≤ seat.limit

-- there are none, or they are the framed bytes of a body
abbrev pub AreFramed : Option (List ℕ) → Type 0
AreFramed None = ⊤
AreFramed (Some bytes) = (body : List ℕ) × IsFramed bytes body

-- the framed bytes are those of the image of what is kept, which gives it back from nothing
pub record Begins (image : List ℕ) (after : Kept) : Type 0 where
  pub bytes : image ≡ framed (image_of after)
  pub spellable : IsSpellable (image_of after)
  pub leads : LeadsTo nothing (Some (image_of after)) after

-- there is an image where records are purged, which begins what is kept after that, and none else
abbrev pub IsImageFor : Kept → Option (Option Stamp) → Option (List ℕ) → Type 0
IsImageFor after None image = image ≡ None
IsImageFor after (Some before) image = (bytes : List ℕ) × (image ≡ Some bytes) × Begins bytes after

-- what is written: framed bytes behind what stands, where there are some; or an image, which is all that stands then
pub data Written : Type 0 where
  Appends : Option (List ℕ) → Written
  Flips : List ℕ → Written

-- by the framed bytes of a frame, and the image that is written in its place, where one is
abbrev pub written_of : Option (List ℕ) → Option (List ℕ) → Written
written_of framed None = Appends framed
written_of framed (Some image) = Flips image

-- what is written carries what is kept to what is kept after it
abbrev pub WritesTo : Kept → Written → Kept → Type 0
WritesTo kept (Appends framed) after = CarriesTo kept framed after
WritesTo kept (Flips image) after = Begins image after

-- there is room for it: a flip is free of the limit
abbrev pub IsRoomFor : Seat → Written → Type 0
IsRoomFor seat (Appends framed) = IsWithin seat framed
IsRoomFor seat (Flips image) = ⊤

-- the bytes that are written at most
abbrev pub cost_of_written : Written → ℕ
cost_of_written (Appends framed) = written_by framed
cost_of_written (Flips image) = flip_cost (length image)

-- it is framed bytes, where there is something
abbrev pub IsFramedIn : Written → Type 0
IsFramedIn (Appends framed) = AreFramed framed
IsFramedIn (Flips image) = (body : List ℕ) × IsFramed image body

-- the journal goes on in the other area, behind n framed bytes of an image
pub record IsFlippedTo (n : ℕ) (old new : Seat) : Type 0 where
  pub used : new.used ≡ new_length n
  pub area : new.area ≡ other_of old.area
  pub limit : new.limit ≡ old.limit

-- where the journal goes on once it is written
abbrev pub IsMovedBy : Written → Seat → Seat → Type 0
IsMovedBy (Appends framed) old new = IsMovedTo (growth framed) old new
IsMovedBy (Flips image) old new = IsFlippedTo (length image) old new

-- the journal goes on by what is written at a reply, and stays at any other answer
abbrev pub IsMoved : Said → Written → Seat → Seat → Type 0
IsMoved (said.Replied reply) written old new = IsMovedBy written old new
IsMoved said.Disk written old new = IsMovedTo 0 old new
IsMoved (said.Full needed limit) written old new = IsMovedTo 0 old new
IsMoved said.Memory written old new = IsMovedTo 0 old new

-- something is to be appended, and needs so much, over the limit
abbrev pub IsFullFor : Seat → Written → ℕ → ℕ → Type 0
IsFullFor seat written needed limit = (bytes : List ℕ) × (written ≡ Appends (Some bytes)) × IsFullAt seat false (length bytes) needed limit

-- there is something to write
abbrev pub WritesSome : Written → Type 0
WritesSome (Appends None) = ⊥
WritesSome (Appends (Some bytes)) = ⊤
WritesSome (Flips image) = ⊤

-- what is written for a frame, after which this is kept: an event is appended, and of a purge the image is written
abbrev pub IsWrittenFor : Kept → Option Frame → Written → Type 0
IsWrittenFor kept None written = written ≡ Appends None
IsWrittenFor kept (Some (Image last changes records)) written = written ≡ Appends (Some (framed (Image last changes records)))
IsWrittenFor kept (Some (Event stamp changes records)) written = written ≡ Appends (Some (framed (Event stamp changes records)))
IsWrittenFor kept (Some (Purge stamp before changes records)) written = written ≡ Flips (framed (image_of kept))

-- what is written of the step that is ready
abbrev pub written_in : Ready → Written
written_in ready = written_of ready.prepared.framed ready.image

-- the step that is ready has a frame to write, or none, and what is written is that of it
pub record IsReady (m : State) (client : ClientNo) (ask : Ask) (stamp : ℕ) (ready : Ready) : Type 0 where
  pub writes : Writes m client ask stamp (after ready.prepared m) ready.prepared.framed
  pub suits : IsWrittenFor (after ready.prepared m).kept writes.frame (written_in ready)
