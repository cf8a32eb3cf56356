-- Which frames can be replayed anew on what is kept.
use Rattle.std.proofs.Common.{◌≡◌, true, false, List}
use Rattle.std.specs.Prelude.{Option, Some, None}
use Rattle.au_base.specs.declared.numbers.Stamp.{Stamp}
use Rattle.au_entries.specs.declared.change.Change.{Change}
use Rattle.au_entries.specs.declared.kept.Kept.{Kept}
use Rattle.au_entries.specs.declared.trail_record.Record.{Record}
use Rattle.au_entries.specs.Imaging.{nothing}
use Rattle.au_kept.specs.Anew.{CanReplay}
use Rattle.au_kept.specs.Frames.{IsReplayable, after_frame}
use Rattle.au_kept.specs.Sound.{IsKept}
use Rattle.au_kept.proofs.Frames.{body_spellable, purge_spellable}
use Rattle.au_kept.proofs.Shortness.{all_short}
use Rattle.au_replay.specs.Reading.{conditions}
use Rattle.rec_codec.specs.declared.frame.Frame.{Frame}
use Rattle.rec_codec.specs.declared.frame.Frame.TheVariants.{Image, Event, Purge}
use Rattle.rec_codec.specs.Frames.{IsSpellable}

-- what is so of every keeping is so after each frame that goes on
abbrev pub OneFrame : Type 0
OneFrame = (kept : Kept) (frame : Frame) → IsKept conditions kept → IsSpellable frame → IsReplayable conditions kept frame → IsKept conditions (after_frame conditions.tree kept frame)

pub image_can : OneFrame → (kept : Kept) (last : Stamp) (changes : List Change) (records : List Record) → IsKept conditions kept → IsSpellable (Image last changes records) → kept ≡ nothing
    → CanReplay (record { image = true; stamp = last; purge = None; changes = changes; records = records }) kept
image_can keeps kept last changes records h can blank = record {
  short = all_short changes (body_spellable last changes records can).changes;
  first = λ _. blank;
  keeps = keeps kept (Image last changes records) h can;
}

pub event_can : OneFrame → (kept : Kept) (stamp : Stamp) (changes : List Change) (records : List Record) → IsKept conditions kept → IsSpellable (Event stamp changes records)
    → CanReplay (record { image = false; stamp = stamp; purge = None; changes = changes; records = records }) kept
event_can keeps kept stamp changes records h can = record {
  short = all_short changes (body_spellable stamp changes records can).changes;
  first = λ image. absurd (let e : false ≡ true = image in cc);
  keeps = keeps kept (Event stamp changes records) h can;
}

pub purge_can : OneFrame → (kept : Kept) (stamp : Stamp) (before : Option Stamp) (changes : List Change) (records : List Record) → IsKept conditions kept → IsSpellable (Purge stamp before changes records)
    → CanReplay (record { image = false; stamp = stamp; purge = Some before; changes = changes; records = records }) kept
purge_can keeps kept stamp before changes records h can = record {
  short = all_short changes (purge_spellable stamp before changes records can).changes;
  first = λ image. absurd (let e : false ≡ true = image in cc);
  keeps = keeps kept (Purge stamp before changes records) h can;
}
