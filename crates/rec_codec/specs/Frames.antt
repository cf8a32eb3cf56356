-- The table of frames: their bodies, and which frames have one.
use Rattle.std.specs.Prelude.{◌≡◌, ℕ, List, [], ◌∷◌, ◌++◌, length, Option, Some, None}
use Rattle.std.specs.Int.{w32, w64, to_be_bytes}
use Rattle.au_base.specs.declared.numbers.Stamp.{Stamp}
use Rattle.au_entries.specs.declared.change.Change.{Change}
use Rattle.au_entries.specs.declared.trail_record.Record.{Record}
use Rattle.rec_codec.specs.declared.frame.Frame.{Frame}
use Rattle.rec_codec.specs.declared.frame.Frame.TheVariants.{Image, Event, Purge}
use Rattle.rec_parts.specs.Spelling.{Spelling, counted, number, option, pair}
use Rattle.rec_parts.specs.Parts.{stamp}
use Rattle.rec_codec.specs.Changes.{change}
use Rattle.rec_codec.specs.Records.{trail_record}

-- a stamp, changes and records
unfoldable pub body : Spelling (Stamp × (List Change × List Record))
body = pair stamp (pair (counted (number w32) change) (counted (number w32) trail_record))

-- a purge: its stamp, the moment before which records go, changes and records
unfoldable pub purge : Spelling (Stamp × (Option Stamp × (List Change × List Record)))
purge = pair stamp (pair (option stamp) (pair (counted (number w32) change) (counted (number w32) trail_record)))

-- the body of the frame: its kind, and what stands behind it
abbrev pub spelled : Frame → List ℕ
spelled (Image last changes records) = 1 ∷ body.spelled (last, (changes, records))
spelled (Event moment changes records) = 2 ∷ body.spelled (moment, (changes, records))
spelled (Purge moment before changes records) = 3 ∷ purge.spelled (moment, (before, (changes, records)))

-- the frame has a body
abbrev pub IsSpellable : Frame → Type 0
IsSpellable (Image last changes records) = body.IsSpellable (last, (changes, records))
IsSpellable (Event moment changes records) = body.IsSpellable (moment, (changes, records))
IsSpellable (Purge moment before changes records) = purge.IsSpellable (moment, (before, (changes, records)))

unfoldable pub frame : Spelling Frame
frame = record { spelled = spelled; IsSpellable = IsSpellable }

-- the bytes are the body of the frame
pub record IsFrame (bytes : List ℕ) (f : Frame) : Type 0 where
  pub spellable : IsSpellable f
  pub bytes_are : bytes ≡ spelled f

-- a frame as the journal takes it: the length of its body in eight bytes, the body, and a closed gate
abbrev pub framed : Frame → List ℕ
framed f = (to_be_bytes w64 (length (spelled f)) ++ spelled f) ++ 0 ∷ []

-- what reading gives: the frame whose body the bytes are, and nothing where they are no frame's
abbrev pub Reads : List ℕ → Option Frame → Type 0
Reads bytes (Some f) = IsFrame bytes f
Reads bytes None = (f : Frame) → ¬ (IsFrame bytes f)
