-- That a frame which goes on from what is kept is one more body of it.
use Rattle.std.proofs.Common.{◌≡◌, ◌<◌, ℕ, Bool, true, false, if◌then◌else◌, List, [], ◌∷◌, ◌++◌, length, Option, Some, None, Result, Ok, Err, IfOk, refl, sym, ◌∙◌, subst, arith}
use Rattle.au_base.specs.declared.ask.Ask.{Ask}
use Rattle.au_base.specs.declared.numbers.ClientNo.{ClientNo}
use Rattle.au_entries.specs.declared.change.Change.{Change}
use Rattle.au_entries.specs.declared.kept.Kept.{Kept}
use Rattle.au_entries.specs.declared.trail_record.Record.{Record}
use Rattle.au_journal.specs.Frames as journal
use Rattle.au_journal.specs.declared.seat.Seat.{Seat}
use Rattle.au_journal.specs.Seats.{IsFramed, needed_of}
use Rattle.rec_codec.specs.declared.frame.Frame.{Frame}
use Rattle.rec_codec.specs.declared.frame.Frame.TheVariants.{Image, Event, Purge}
use Rattle.rec_codec.specs.Frames.{spelled, framed}
use Rattle.au_base.specs.declared.numbers.Stamp.{Stamp}
use Rattle.au_step.specs.Framing.{IsFrameOf, IsWritable, Writes, frame_by, framed_option}
use Rattle.au_step.specs.Replaying.{IsImage}
use Rattle.au_step.specs.Returning.{LeadsTo}
use Rattle.au_step.specs.State.{State}
use Rattle.au_step.specs.Step.{all_changes, is_idle}
use Rattle.au_image.specs.Image.{image_of}
use Rattle.au_store.specs.Recovery.{GoesOnBy, GoesOnTo, Replayed}
use Rattle.au_store.specs.descent.Making.{AreFramed, Appends, Begins, Carries, CarriesTo, Flips, IsFramedIn, IsWithin, WritesTo, Written}

-- framed bytes are those of the journal
pub framed_is : (f : Frame) → framed f ≡ journal.framed_of (spelled f)
unfolding journal.spelled
framed_is f = refl

pub spelled_some : (f : Frame) → 0 < length (spelled f)
spelled_some (Image last changes records) = omega arith
spelled_some (Event moment changes records) = omega arith
spelled_some (Purge moment before changes records) = omega arith

pub is_framed : (bytes : List ℕ) (f : Frame) → bytes ≡ framed f → IsFramed bytes (spelled f)
is_framed bytes f is = record { is = is ∙ framed_is f; some = spelled_some f }

pub carried_by : (kept after : Kept) (f : Frame) → Carries kept f after → GoesOnBy kept (spelled f) after
carried_by kept after f carries = record {
  frame = f;
  spelled = record { spellable = carries.spellable; bytes_are = refl };
  no_image = carries.no_image;
  replayable = carries.replayable;
  makes = carries.makes;
}

-- one more body behind those that go on
goes_on_push : (bodies : List (List ℕ)) (kept mid after : Kept) (body : List ℕ) → GoesOnTo kept bodies mid → GoesOnBy mid body after → GoesOnTo kept (bodies ++ body ∷ []) after
goes_on_push [] kept mid after body is by = (after, subst (λ (k : Kept). GoesOnBy k body after) is by, refl)
goes_on_push (first ∷ bodies) kept mid after body on by = (on.0, on.1, goes_on_push bodies on.0 mid after body on.2 by)

pub replayed_push : (bodies : List (List ℕ)) (kept after : Kept) (body : List ℕ) → Replayed bodies kept → GoesOnBy kept body after → Replayed (bodies ++ body ∷ []) after
replayed_push [] kept after body none by = absurd none
replayed_push (first ∷ bodies) kept after body on by = (on.0, on.1, goes_on_push bodies on.0 kept after body on.2 by)

-- the frame that the bytes are
pub carried : (kept next : Kept) (o : Option (List ℕ)) (bytes : List ℕ) → Some bytes ≡ o → CarriesTo kept o next → (f : Frame) × (bytes ≡ framed f) × Carries kept f next
carried kept next o bytes is carries = let P : Option (List ℕ) → Type 0 = λ x. CarriesTo kept x next in subst P (sym is) carries

-- what is written is framed bytes
pub are_framed : (kept next : Kept) (o : Option (List ℕ)) → CarriesTo kept o next → AreFramed o
are_framed kept next None carries = tt
are_framed kept next (Some bytes) carries = (spelled carries.0, is_framed bytes carries.0 carries.1)

pub is_framed_in : (kept next : Kept) (written : Written) → WritesTo kept written next → IsFramedIn written
is_framed_in kept next (Appends framed) carries = are_framed kept next framed carries
is_framed_in kept next (Flips image) begins = (spelled (image_of next), is_framed image (image_of next) begins.bytes)

-- an image that begins what is kept is all that it is replayed from
pub replayed_image : (image : List ℕ) (next : Kept) → Begins image next → Replayed (spelled (image_of next) ∷ []) next
replayed_image image next begins = (
  next,
  record {
    frame = image_of next;
    spelled = record { spellable = begins.spellable; bytes_are = refl };
    image = tt;
    replayable = begins.leads.0;
    makes = sym begins.leads.1;
  },
  refl,
)

-- what isn't too long for the limit is within it
pub within_limit : (seat : Seat) (o : Option (List ℕ)) (bytes : List ℕ) → Some bytes ≡ o → (seat.limit < needed_of seat (length bytes) → ⊥) → IsWithin seat o
within_limit seat o bytes is never = let P : Option (List ℕ) → Type 0 = λ x. IsWithin seat x in subst P is (omega (arith, never))

-- the frame of a step is no image
kind_only : (purge : Option (Option Stamp)) (stamp : Stamp) (changes : List Change) (records : List Record) → IsImage (frame_by purge stamp changes records) → ⊥
kind_only None stamp changes records image = image
kind_only (Some before) stamp changes records image = image

event_only : (idle : Bool) (made f : Frame) → (IsImage made → ⊥) → Some f ≡ (if idle then None else Some made) → IsImage f → ⊥
event_only true made f never is image = absurd (let none : Some f ≡ None = is in cc)
event_only false made f never is image = never (let same : Some f ≡ Some made = is in let here : f ≡ made = cc in subst IsImage here image)

carries_frame : (m n : State) (client : ClientNo) (ask : Ask) (stamp : ℕ) (frame : Option Frame) → IsFrameOf m client ask stamp n frame → IsWritable frame
    → LeadsTo m.kept frame n.kept → CarriesTo m.kept (framed_option frame) n.kept
carries_frame m n client ask stamp None of_step writable leads = leads
carries_frame m n client ask stamp (Some f) of_step writable leads = (
  f,
  refl,
  record {
    spellable = writable;
    no_image = event_only (is_idle of_step.1) (frame_by of_step.1.purge (record { 0 = stamp }) (all_changes of_step.1) of_step.1.records) f
        (kind_only of_step.1.purge (record { 0 = stamp }) (all_changes of_step.1) of_step.1.records) of_step.3;
    replayable = leads.0;
    makes = sym leads.1;
  },
)

-- what a step writes carries what is kept on, where the frame of each step does
pub carries_on : (m n : State) (client : ClientNo) (ask : Ask) (stamp : ℕ) (o : Option (List ℕ)) → Writes m client ask stamp n o
    → ((frame : Option Frame) → IsFrameOf m client ask stamp n frame → LeadsTo m.kept frame n.kept) → CarriesTo m.kept o n.kept
carries_on m n client ask stamp o w leads =
    let P : Option (List ℕ) → Type 0 = λ x. CarriesTo m.kept x n.kept in
    subst P (sym w.bytes_are) (carries_frame m n client ask stamp w.frame w.of_step w.writable (leads w.frame w.of_step))

-- a fact on what succeeded
pub if_ok : {X E : Type 0} (r : Result X E) (P Q : X → Type 0) → IfOk r P → ((x : X) → P x → Q x) → IfOk r Q
if_ok (Ok x) P Q p to = to x p
if_ok (Err e) P Q p to = p
