-- The texts of the changes of a frame that has a spelling are short.
use Rattle.std.proofs.Common.{List, [], ◌∷◌}
use Rattle.std.specs.List.{AllByRecursion}
use Rattle.au_entries.specs.declared.change.Change.{Change}
use Rattle.au_kept.specs.Quick.{changes_in}
use Rattle.au_kept.proofs.Frames.{body_spellable, purge_spellable}
use Rattle.au_kept.proofs.Shortness.{short}
use Rattle.au_replay.specs.Reading.{HasShortText}
use Rattle.rec_codec.specs.Changes.{IsChangeSpellable}
use Rattle.rec_codec.specs.declared.frame.Frame.{Frame}
use Rattle.rec_codec.specs.declared.frame.Frame.TheVariants.{Image, Event, Purge}
use Rattle.rec_codec.specs.Frames.{IsSpellable}

all_short : (changes : List Change) → AllByRecursion IsChangeSpellable changes → AllByRecursion HasShortText changes
all_short [] can = tt
all_short (change ∷ changes) can = (short change can.0, all_short changes can.1)

pub frame_short : (frame : Frame) → IsSpellable frame → AllByRecursion HasShortText (changes_in frame)
frame_short (Image last changes records) can = all_short changes (body_spellable last changes records can).changes
frame_short (Event stamp changes records) can = all_short changes (body_spellable stamp changes records can).changes
frame_short (Purge stamp before changes records) can = all_short changes (purge_spellable stamp before changes records can).changes
