-- That what is so of a store between two calls is so after each.
use Rattle.std.proofs.Common.{◌≡◌, inl, true, false, ◌∷◌, refl, ◌∙◌, ap}
use Rattle.au_io.specs.Disk.{Meaning}
use Rattle.au_entries.specs.declared.kept.Kept.{Kept}
use Rattle.au_journal.specs.declared.doubt.Doubt.TheVariants.{Settled}
use Rattle.au_journal.specs.declared.mended.Mended.{Mended}
use Rattle.au_journal.specs.declared.mended.Mended.TheVariants as mend
use Rattle.au_journal.specs.declared.seat.Seat.{Seat}
use Rattle.au_journal.specs.Seats.{mended}
use Rattle.au_base.specs.declared.numbers.ClientNo.{ClientNo}
use Rattle.au_step.specs.Abandoning.{abandoned}
use Rattle.au_step.specs.Replaying.{EndsWell}
use Rattle.au_step.specs.State.{State}
use Rattle.au_store.specs.Doubts.{IsStoodOn}
use Rattle.au_store.specs.Stored.{IsKeptOn, IsSound}
use Rattle.au_store.proofs.Keeping.{gated_after}

-- a settled journal
pub settled_sound : (told : Type 0) (m : Meaning) (seat : Seat) (state : State) → seat.ended ≡ true → seat.bare ≡ false → seat.doubt ≡ Settled → EndsWell state.kept
    → (told → IsKeptOn state.kept m seat) → IsSound told m seat state
settled_sound told m seat state ended gated settled ends is = record { ended = ended; gated = gated; ends = ends; stands = λ tells. record { doubted = state.kept; stood = inl (settled, is tells); left = λ unsettled. absurd (unsettled settled) } }

-- after a mend
pub mend_sound : (told : Type 0) (m n : Meaning) (old new : Seat) (state : State) (answer : Mended) → IsSound told m old state
    → (answer ≡ mend.Done → new ≡ mended old) → (answer ≡ mend.Disk → new ≡ old)
    → (told → answer ≡ mend.Done → IsKeptOn state.kept n new)
    → (told → (doubted : Kept) → IsStoodOn state.kept doubted m old → answer ≡ mend.Disk → IsStoodOn state.kept doubted n new)
    → IsSound told n new state
mend_sound told m n old new state mend.Done sound mends rests is doubted =
    let here = mends refl in
    settled_sound told n new state (ap (λ (s : Seat). s.ended) here ∙ sound.ended) (ap (λ (s : Seat). s.bare) here ∙ gated_after old.doubt old.bare sound.gated)
    (ap (λ (s : Seat). s.doubt) here) sound.ends (λ tells. is tells refl)
mend_sound told m n old new state mend.Disk sound mends rests is doubted =
    let here = rests refl in
    record {
      ended = ap (λ (s : Seat). s.ended) here ∙ sound.ended;
      gated = ap (λ (s : Seat). s.bare) here ∙ sound.gated;
      ends = sound.ends;
      stands = λ tells. let was = sound.stands tells in
          record { doubted = was.doubted; stood = doubted tells was.doubted was.stood refl; left = λ unsettled. was.left (λ is. unsettled (ap (λ (s : Seat). s.doubt) here ∙ is)) };
    }

-- after a session was ended
pub abandoned_sound : (told : Type 0) (m : Meaning) (seat : Seat) (state : State) (client : ClientNo) → IsSound told m seat state → IsSound told m seat (abandoned client state)
abandoned_sound told m seat state client sound = record {
  ended = sound.ended;
  gated = sound.gated;
  ends = sound.ends;
  stands = λ tells. let was = sound.stands tells in
      record {
        doubted = was.doubted;
        stood = was.stood;
        left = λ unsettled. let by = was.left unsettled in
            record { from = by.from; event = by.event; gone = client ∷ by.gone; since = ap (abandoned client) by.since; has_frame = by.has_frame; is_after = by.is_after };
      };
}
