-- That what is written for a frame is as the frame's kind says.
use Rattle.std.proofs.Common.{◌≡◌, ℕ, Bool, true, false, if◌then◌else◌, List, [], ◌∷◌, length, Option, Some, None, inl, inr, refl, sym, ◌∙◌, ap, subst, arith}
use Rattle.au_entries.specs.declared.change.Change.{Change}
use Rattle.au_entries.specs.declared.kept.Kept.{Kept}
use Rattle.au_entries.specs.declared.trail_record.Record.{Record}
use Rattle.au_image.specs.Image.{image_of}
use Rattle.au_journal.specs.declared.seat.Seat.{Seat}
use Rattle.rec_codec.specs.declared.frame.Frame.{Frame}
use Rattle.rec_codec.specs.declared.frame.Frame.TheVariants.{Image, Event, Purge}
use Rattle.rec_codec.specs.Frames.{framed}
use Rattle.au_base.specs.declared.ask.Ask.{Ask}
use Rattle.au_base.specs.declared.numbers.ClientNo.{ClientNo}
use Rattle.au_base.specs.declared.numbers.Stamp.{Stamp}
use Rattle.au_base.specs.declared.reply.Reply.{Reply}
use Rattle.au_step.specs.Framing.{Writes, event_of, frame_by, framed_option}
use Rattle.au_step.specs.State.{State}
use Rattle.au_step.specs.Step.{Logged, LoggedStep, all_changes, is_nothing}
use Rattle.au_store.specs.Kinds.{GoesOnSeat, IsFree, cost_by}
use Rattle.au_store.specs.Steps.{FitsUnder, IsMovedTo}
use Rattle.au_store.specs.descent.Making.{Appends, CarriesTo, Flips, IsFlippedTo, IsImageFor, IsMovedBy, IsRoomFor, IsWithin, IsWrittenFor, WritesSome, WritesTo, Written, cost_of_written, growth, written_of}

-- what is written is within the limit, where there is room for it
appends_fits : (seat : Seat) (kept : Kept) (f : Frame) (written : Written) → written ≡ Appends (Some (framed f)) → IsRoomFor seat written → IsWithin seat (Some (framed f))
appends_fits seat kept f written is room = let P : Written → Type 0 = λ x. IsRoomFor seat x in subst P is room

pub fits_frame : (seat : Seat) (kept : Kept) (frame : Option Frame) (written : Written) → IsWrittenFor kept frame written → IsRoomFor seat written → FitsUnder seat frame
fits_frame seat kept None written is room = tt
fits_frame seat kept (Some (Image last changes records)) written is room = inr (appends_fits seat kept (Image last changes records) written is room)
fits_frame seat kept (Some (Event stamp changes records)) written is room = inr (appends_fits seat kept (Event stamp changes records) written is room)
fits_frame seat kept (Some (Purge stamp before changes records)) written is room = inl tt

-- the journal goes on by what is written
appends_moved : (o : Option (List ℕ)) (written : Written) (old new : Seat) → written ≡ Appends o → IsMovedBy written old new → IsMovedTo (growth o) old new
appends_moved o written old new is moved = let P : Written → Type 0 = λ x. IsMovedBy x old new in subst P is moved

flips_moved : (image : List ℕ) (written : Written) (old new : Seat) → written ≡ Flips image → IsMovedBy written old new → IsFlippedTo (length image) old new
flips_moved image written old new is moved = let P : Written → Type 0 = λ x. IsMovedBy x old new in subst P is moved

pub goes_on_seat : (kept : Kept) (frame : Option Frame) (written : Written) (old new : Seat) → IsWrittenFor kept frame written → IsMovedBy written old new → GoesOnSeat kept frame old new
goes_on_seat kept None written old new is by =
    let moved = appends_moved None written old new is by in
    record { used = omega (arith, moved.used); area = moved.area; limit = moved.limit }
goes_on_seat kept (Some (Image last changes records)) written old new is by =
    let moved = appends_moved (Some (framed (Image last changes records))) written old new is by in
    record { used = moved.used; area = moved.area; limit = moved.limit }
goes_on_seat kept (Some (Event stamp changes records)) written old new is by =
    let moved = appends_moved (Some (framed (Event stamp changes records))) written old new is by in
    record { used = moved.used; area = moved.area; limit = moved.limit }
goes_on_seat kept (Some (Purge stamp before changes records)) written old new is by =
    let moved = flips_moved (framed (image_of kept)) written old new is by in
    record { used = moved.used; area = moved.area; limit = moved.limit }

-- and so much is written
pub cost_frame : (kept : Kept) (frame : Option Frame) (written : Written) → IsWrittenFor kept frame written → cost_of_written written ≡ cost_by kept frame
cost_frame kept None written is = ap cost_of_written is
cost_frame kept (Some (Image last changes records)) written is = ap cost_of_written is
cost_frame kept (Some (Event stamp changes records)) written is = ap cost_of_written is
cost_frame kept (Some (Purge stamp before changes records)) written is = ap cost_of_written is

-- what is appended is a frame, which isn't free of the limit
pub frame_appended : (kept : Kept) (frame : Option Frame) (written : Written) (bytes : List ℕ) → IsWrittenFor kept frame written → written ≡ Appends (Some bytes)
    → (f : Frame) × (frame ≡ Some f) × (bytes ≡ framed f) × (IsFree f → ⊥)
frame_appended kept None written bytes is appended = absurd (let no : Appends None ≡ Appends (Some bytes) = sym is ∙ appended in cc)
frame_appended kept (Some (Image last changes records)) written bytes is appended =
    let same : Appends (Some (framed (Image last changes records))) ≡ Appends (Some bytes) = sym is ∙ appended in
    (Image last changes records, refl, cc, λ free. free)
frame_appended kept (Some (Event stamp changes records)) written bytes is appended =
    let same : Appends (Some (framed (Event stamp changes records))) ≡ Appends (Some bytes) = sym is ∙ appended in
    (Event stamp changes records, refl, cc, λ free. free)
frame_appended kept (Some (Purge stamp before changes records)) written bytes is appended =
    absurd (let no : Flips (framed (image_of kept)) ≡ Appends (Some bytes) = sym is ∙ appended in cc)

-- where something is written there is a frame
pub frame_written : (kept : Kept) (frame : Option Frame) (written : Written) → IsWrittenFor kept frame written → WritesSome written → (f : Frame) × (frame ≡ Some f)
frame_written kept None written is some = absurd (let P : Written → Type 0 = λ x. WritesSome x in subst P is some)
frame_written kept (Some f) written is some = (f, refl)

-- a step that purges isn't idle
not_nothing : (changes : List Change) (before : Option Stamp) (records : List Record) → is_nothing changes (Some before) records ≡ false
not_nothing [] before [] = refl
not_nothing [] before (entry ∷ records) = refl
not_nothing (change ∷ changes) before records = refl

-- what is written for an event
event_suits : (kept : Kept) (stamp : Stamp) (idle : Bool) (changes : List Change) (records : List Record) (frame : Option Frame) (o image : Option (List ℕ))
    → frame ≡ (if idle then None else Some (Event stamp changes records)) → o ≡ framed_option frame → image ≡ None → IsWrittenFor kept frame (written_of o image)
event_suits kept stamp true changes records frame o image of_step is none =
    let there : IsWrittenFor kept None (written_of o image) = ap (written_of o) none ∙ ap Appends (is ∙ ap framed_option of_step) in
    subst (λ (f : Option Frame). IsWrittenFor kept f (written_of o image)) (sym of_step) there
event_suits kept stamp false changes records frame o image of_step is none =
    let there : IsWrittenFor kept (Some (Event stamp changes records)) (written_of o image) = ap (written_of o) none ∙ ap Appends (is ∙ ap framed_option of_step) in
    subst (λ (f : Option Frame). IsWrittenFor kept f (written_of o image)) (sym of_step) there

-- and for a purge
purge_suits : (kept : Kept) (stamp : Stamp) (before : Option Stamp) (idle : Bool) (changes : List Change) (records : List Record) (frame : Option Frame) (o image : Option (List ℕ))
    → idle ≡ false → frame ≡ (if idle then None else Some (Purge stamp before changes records)) → IsImageFor kept (Some before) image → IsWrittenFor kept frame (written_of o image)
purge_suits kept stamp before true changes records frame o image some of_step begins = absurd (let no : true ≡ false = some in cc)
purge_suits kept stamp before false changes records frame o image some of_step begins =
    let there : IsWrittenFor kept (Some (Purge stamp before changes records)) (written_of o image) = ap (written_of o) begins.1 ∙ ap Flips begins.2.bytes in
    subst (λ (f : Option Frame). IsWrittenFor kept f (written_of o image)) (sym of_step) there

suits_by : (kept : Kept) (stamp : Stamp) (purge : Option (Option Stamp)) (changes : List Change) (records : List Record) (frame : Option Frame) (o image : Option (List ℕ))
    → frame ≡ (if is_nothing changes purge records then None else Some (frame_by purge stamp changes records)) → o ≡ framed_option frame → IsImageFor kept purge image
    → IsWrittenFor kept frame (written_of o image)
suits_by kept stamp None changes records frame o image of_step is none = event_suits kept stamp (is_nothing changes None records) changes records frame o image of_step is none
suits_by kept stamp (Some before) changes records frame o image of_step is begins =
    purge_suits kept stamp before (is_nothing changes (Some before) records) changes records frame o image (not_nothing changes before records) of_step begins

-- what is written for the frame of a step
pub frame_suits : (kept : Kept) (stamp : ℕ) (logged : Logged) (frame : Option Frame) (o image : Option (List ℕ)) → frame ≡ event_of stamp logged → o ≡ framed_option frame
    → IsImageFor kept logged.purge image → IsWrittenFor kept frame (written_of o image)
frame_suits kept stamp logged frame o image of_step is for =
    suits_by kept (record { 0 = stamp }) logged.purge (all_changes logged) logged.records frame o image of_step is for

-- what is written carries what is kept on, where the frame does
writes_by : (kept after : Kept) (purge : Option (Option Stamp)) (o image : Option (List ℕ)) → CarriesTo kept o after → IsImageFor after purge image → WritesTo kept (written_of o image) after
writes_by kept after None o image carries none = let P : Option (List ℕ) → Type 0 = λ x. WritesTo kept (written_of o x) after in subst P (sym none) carries
writes_by kept after (Some before) o image carries begins = let P : Option (List ℕ) → Type 0 = λ x. WritesTo kept (written_of o x) after in subst P (sym begins.1) begins.2

pub writes_on : (kept after : Kept) (purge : Option (Option Stamp)) (o image : Option (List ℕ)) → CarriesTo kept o after → IsImageFor after purge image → WritesTo kept (written_of o image) after
writes_on kept after purge o image carries for = writes_by kept after purge o image carries for

-- a step leaves one thing to be kept
abbrev pub OneLogged : Type 0
OneLogged = (m n k : State) (client : ClientNo) (ask : Ask) (stamp : ℕ) (a b : Reply) (l o : Logged)
    → LoggedStep m client ask stamp a l n → LoggedStep m client ask stamp b o k → (a ≡ b) × (l ≡ o) × (n ≡ k)

-- what is written for a step that is worked out
pub step_suits : (m n : State) (client : ClientNo) (ask : Ask) (stamp : ℕ) (reply : Reply) (logged : Logged) (o image : Option (List ℕ)) (w : Writes m client ask stamp n o)
    → OneLogged → LoggedStep m client ask stamp reply logged n → IsImageFor n.kept logged.purge image → IsWrittenFor n.kept w.frame (written_of o image)
step_suits m n client ask stamp reply logged o image w one step for =
    let same = one m n n client ask stamp w.of_step.0 reply w.of_step.1 logged w.of_step.2 step in
    frame_suits n.kept stamp logged w.frame o image (w.of_step.3 ∙ ap (event_of stamp) same.1) w.bytes_are for
