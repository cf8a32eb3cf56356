-- What is kept, but for its trail and its last stamp, and as a client sees it; and by which frame's bytes a step carries what is kept on.
use Rattle.std.specs.Prelude.{◌≡◌, ℕ, List, Option, Some, None}
use Rattle.au_base.specs.declared.numbers.ClientNo.{ClientNo}
use Rattle.au_base.specs.declared.numbers.Stamp.{Stamp}
use Rattle.au_catalog.specs.Settling.{catalog_of}
use Rattle.au_entries.specs.declared.kept.Kept.{Kept}
use Rattle.au_entries.specs.declared.trail_record.Record.{Record}
use Rattle.au_entries.specs.Imaging.{nothing}
use Rattle.au_image.specs.declared.told.Told.{Told}
use Rattle.au_image.specs.Image.{kept_as_told}
use Rattle.au_kept.specs.Keeping.{Contents, desk_of}
use Rattle.rec_codec.specs.declared.frame.Frame.{Frame}
use Rattle.rec_codec.specs.Frames.{IsFrame, IsSpellable, framed}
use Rattle.au_step.specs.Replaying.{IsImage}
use Rattle.au_step.specs.Returning.{LeadsTo}
use Rattle.au_txn.specs.Desks.{replayer}

-- what is kept, with another trail and another last stamp
abbrev pub told : List Record → Stamp → Kept → Kept
told trail last kept = record kept { trail = trail; last = last }

-- what is kept, with the rows as the client sees them, and with the trail and the last stamp that are told
abbrev pub seen_told : ClientNo → Told → Contents → Kept
seen_told client events contents = kept_as_told (catalog_of contents.kept) contents.kept.grants (desk_of contents) client events contents.kept.instance

-- as whom rows are seen that a client commits: as that client, or as client 0, which has no changes, where none does
abbrev pub sees_as : Option ClientNo → ClientNo
sees_as None = replayer
sees_as (Some client) = client

-- the bytes are the framed body of a frame other than an image, by which what is kept before leads to what is kept after;
-- where there are none it stays
abbrev pub LeadsBy : Kept → Option (List ℕ) → Kept → Type 0
LeadsBy before None after = after ≡ before
LeadsBy before (Some bytes) after = (frame : Frame) × (bytes ≡ framed frame) × IsSpellable frame × (¬ IsImage frame) × LeadsTo before (Some frame) after

-- the body is that of a frame by which what is kept leads to this; an image comes only where nothing is kept
pub record Takes (kept : Kept) (body : List ℕ) (next : Kept) : Type 0 where
  pub frame : Frame
  pub is : IsFrame body frame
  pub first : IsImage frame → kept ≡ nothing
  pub leads : LeadsTo kept (Some frame) next
