-- How frames are read: the kind, and what stands behind it.
use Rattle.std.specs.Prelude.{List, Option}
use Rattle.std.specs.Int.{w32}
use Rattle.au_base.specs.declared.numbers.Stamp.{Stamp}
use Rattle.au_entries.specs.declared.change.Change.{Change}
use Rattle.au_entries.specs.declared.trail_record.Record.{Record}
use Rattle.rec_parts.specs.descent.Reading.{Behind, Front, behind, counted_first, no_other, number_first, option_first, pair_first, tagged_first}
use Rattle.rec_parts.specs.descent.Parts.{stamp_first}
use Rattle.rec_codec.specs.declared.frame.Frame.{Frame}
use Rattle.rec_codec.specs.declared.frame.Frame.TheVariants.{Image, Event, Purge}
use Rattle.rec_codec.specs.descent.Changes.{change_first}
use Rattle.rec_codec.specs.descent.Records.{record_first}

unfoldable pub body_first : Front (Stamp × (List Change × List Record))
body_first = pair_first stamp_first (pair_first (counted_first (number_first w32) change_first) (counted_first (number_first w32) record_first))

unfoldable pub purge_first : Front (Stamp × (Option Stamp × (List Change × List Record)))
purge_first = pair_first stamp_first (pair_first (option_first stamp_first) (pair_first (counted_first (number_first w32) change_first) (counted_first (number_first w32) record_first)))

unfoldable pub frame_behind : Behind Frame
frame_behind =
    behind 1 body_first (λ x. Image x.0 x.1.0 x.1.1)
    (behind 2 body_first (λ x. Event x.0 x.1.0 x.1.1)
    (behind 3 purge_first (λ x. Purge x.0 x.1.0 x.1.1.0 x.1.1.1)
    no_other))

unfoldable pub frame_first : Front Frame
frame_first = tagged_first frame_behind
