-- A step that is worked out can be made ready and settled.
use Rattle.std.proofs.Common.{List, [], ◌∷◌}
use Rattle.std.specs.List.{AllByRecursion}
use Rattle.au_entries.specs.declared.change.Change.{Change}
use Rattle.au_replay.specs.Reading.{HasShortText}
use Rattle.rec_codec.specs.Changes.{IsChangeSpellable}

-- the texts of changes that have spellings are short
pub short : (changes : List Change) → ((change : Change) → IsChangeSpellable change → HasShortText change) → AllByRecursion IsChangeSpellable changes → AllByRecursion HasShortText changes
short [] each all = tt
short (change ∷ changes) each all = (each change all.0, short changes each all.1)
