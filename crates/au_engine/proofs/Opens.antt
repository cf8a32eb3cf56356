-- The image of what is kept goes on where nothing is kept.
use Rattle.std.proofs.Common.{◌≡◌, ◌↔◌, Bool, true, false, List, sym, subst}
use Rattle.std.specs.Prelude.{IsTrue}
use Rattle.au_base.specs.declared.numbers.Stamp.{Stamp}
use Rattle.au_entries.specs.declared.change.Change.{Change}
use Rattle.au_entries.specs.declared.kept.Kept.{Kept}
use Rattle.au_entries.specs.declared.trail_record.Record.{Record}
use Rattle.au_entries.specs.Frames.{PartsGoOn}
use Rattle.au_entries.specs.Imaging.{image_changes, nothing}
use Rattle.au_image.specs.Image.{image_of}
use Rattle.au_replay.specs.Reading.{conditions}
use Rattle.rec_codec.specs.declared.frame.Frame.TheVariants.{Image}
use Rattle.au_step.specs.Replaying.{IsReplayable}
use Rattle.au_step.specs.State.{State, resting}

pub opens : (kept : Kept) (m : State) (last : Stamp) (changes : List Change) (records : List Record) (goes : Bool) → m ≡ resting nothing → last ≡ kept.last → changes ≡ image_changes kept
    → IsReplayable nothing (image_of kept) → IsTrue goes ↔ IsReplayable m.kept (Image last changes records) → goes ≡ false → ⊥
opens kept m last changes records goes rests late made can rule refused =
    let from : PartsGoOn conditions true nothing last (image_changes kept) = subst (λ (s : Stamp). PartsGoOn conditions true nothing s (image_changes kept)) (sym late) can in
    let here : PartsGoOn conditions true nothing last changes = subst (λ (cs : List Change). PartsGoOn conditions true nothing last cs) (sym made) from in
    let told : goes ≡ true = rule.1 (subst (λ (s : State). PartsGoOn conditions true s.kept last changes) (sym rests) here) in
    cc
