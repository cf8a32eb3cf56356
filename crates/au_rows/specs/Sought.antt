-- What is sought under a key.
use Rattle.std.specs.Prelude.{◌≡◌, ℕ, List, Bool, true, false, not, ◌==◌, ◌&&◌, is_some, if◌then◌else◌, Option, None, Some, slice_index_or}
use Rattle.au_base.specs.declared.cell.Cell.{Cell}
use Rattle.au_base.specs.declared.numbers.ClientNo.{ClientNo}
use Rattle.au_rows.specs.declared.place.Place.{Place}
use Rattle.au_rows.specs.declared.sought.Sought.{Sought}
use Rattle.au_rows.specs.declared.sought.Sought.TheVariants.{Seen, Other, Locked}
use Rattle.au_rows.specs.declared.version.Version.{Version}
use Rattle.au_rows.specs.Chains.{is_slot}
use Rattle.au_rows.specs.Hash.{version_hash}
use Rattle.au_rows.specs.Held.{HasKey, is_by}
use Rattle.au_rows.specs.Kept.{place_in}

-- the slot of what the client sees of the place's row
abbrev pub slot_seen : ClientNo → Place → Option ℕ
slot_seen by place = if is_by by place.owner then place.newest else place.settled

-- the place's row is as it is sought
abbrev pub is_sought : Sought → ClientNo → ℕ → Option Place → Bool
is_sought sought by slot None = false
is_sought Seen by slot (Some place) = is_slot slot (slot_seen by place)
is_sought (Other row) by slot (Some place) = is_slot slot (slot_seen by place) && not (place.number.0 == row.0)
is_sought Locked by slot (Some place) = is_some place.owner && not (is_by by place.owner)

-- the version is of the table, has the key, and is as it is sought
abbrev pub IsMatch : Sought → List Place → ℕ → List ℕ → List Cell → ClientNo → ℕ → Version → Type 0
IsMatch sought places table key_places key by slot version =
    (version.table ≡ table) × HasKey key_places key (Some version.cells)
    × (is_sought sought by slot (place_in version.table version.number places) ≡ true)

-- each version of the table is indexed under the number of its key
abbrev pub IsIndexedBy : ℕ → List ℕ → List (Option Version) → Type 0
IsIndexedBy table key_places slots =
    (slot : ℕ) (version : Version) → slice_index_or slots slot None ≡ Some version → version.table ≡ table
    → version.hash ≡ version_hash version.table version.number.0 key_places version.cells
