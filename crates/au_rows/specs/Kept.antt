-- How rows are kept: places in order, which name versions in slots.
use Rattle.std.specs.Prelude.{◌≡◌, ℕ, List, [], ◌∷◌, Bool, true, false, not, ◌==◌, ◌&&◌, ◌||◌, nat_le, is_some, IsSome, slice_index_or, Option, None, Some, if◌then◌else◌, max}
use Rattle.std.specs.List.{list_all, list_any}
use Rattle.std.specs.Option.{option_and_then, option_map}
use Rattle.au_base.specs.declared.cell.Cell.{Cell}
use Rattle.au_base.specs.declared.table.TableName.{TableName}
use Rattle.au_base.specs.declared.numbers.RowNo.{RowNo}
use Rattle.au_base.specs.declared.numbers.ClientNo.{ClientNo}
use Rattle.au_rows.specs.Edits.{edited, found}
use Rattle.au_rows.specs.declared.ending.Ending.{Ending}
use Rattle.au_rows.specs.declared.ending.Ending.TheVariants.{Settle, Undo}
use Rattle.au_rows.specs.declared.place.Place.{Place}
use Rattle.au_rows.specs.declared.table.Table.{Table}
use Rattle.au_rows.specs.declared.unsettled.Unsettled.{Unsettled}
use Rattle.au_rows.specs.declared.version.Version.{Version}
use Rattle.au_rows.specs.Chains.{is_slot}
use Rattle.au_rows.specs.Hash.{name_hash, version_hash}
use Rattle.au_rows.specs.Held.{Held, Change, is_from, is_named, is_this, is_by, key_of, or_else}
use Rattle.au_rows.specs.Order.{in_order}

-- the content in a slot
abbrev pub content_at : List (Option Version) → Option ℕ → Option (List Cell)
content_at slots None = None
content_at slots (Some slot) = option_map (λ (version : Version). version.cells) (slice_index_or slots slot None)

-- the row that a place stands for
abbrev pub held_of : List (Option Version) → Place → Held
held_of slots place = record {
  table = place.table;
  number = place.number;
  settled = content_at slots place.settled;
  owner = place.owner;
  newest = content_at slots place.newest;
}

-- the change that is kept
abbrev pub change_of : List (Option Version) → Unsettled → Change
change_of slots change = record {
  by = change.by;
  table = change.table;
  number = change.number;
  content = content_at slots change.slot;
}

-- it is a version of the row
abbrev pub is_version : ℕ → ℕ → Option Version → Bool
is_version table number None = false
is_version table number (Some version) = (version.table == table) && (version.number.0 == number)

-- the slot that is named has a version of the row
abbrev pub is_kept : List (Option Version) → ℕ → ℕ → Option ℕ → Bool
is_kept slots table number None = true
is_kept slots table number (Some slot) = is_version table number (slice_index_or slots slot None)

-- they are not one slot
abbrev pub is_apart : Option ℕ → Option ℕ → Bool
is_apart None other = true
is_apart (Some slot) None = true
is_apart (Some slot) (Some other) = not (slot == other)

abbrev pub is_whole : List (Option Version) → Place → Bool
is_whole slots place =
    is_kept slots place.table place.number.0 place.settled
    && (is_kept slots place.table place.number.0 place.newest && is_apart place.settled place.newest)

-- the change's slot has a version of its row
abbrev pub is_logged : List (Option Version) → Unsettled → Bool
is_logged slots change = is_kept slots change.table change.number.0 change.slot

abbrev pub place_from : ℕ → RowNo → Place → Bool
place_from table number place = is_from table number place.table place.number

abbrev pub place_at : ℕ → RowNo → Place → Bool
place_at table number place = is_this table number place.table place.number

-- the place, where it is that of the row
abbrev pub place_if : ℕ → RowNo → Place → Option Place
place_if table number place = if place_at table number place then Some place else None

-- the place of the row, if there is one
abbrev pub place_in : ℕ → RowNo → List Place → Option Place
place_in table number places = found (place_from table number) (place_at table number) places

abbrev pub place_owner : Place → Option ClientNo
place_owner place = place.owner

-- the client with unsettled changes of the row
abbrev pub owner_in : ℕ → RowNo → List Place → Option ClientNo
owner_in table number places = option_and_then place_owner (place_in table number places)

-- the slot of the committed content
abbrev pub settled_slot : ℕ → RowNo → List Place → Option ℕ
settled_slot table number places = option_and_then (λ (place : Place). place.settled) (place_in table number places)

-- the place after a client names a slot at it
abbrev pub owned_place : ℕ → RowNo → ClientNo → Option ℕ → List Place → Place
owned_place table number by slot places =
    record { table = table; number = number; settled = settled_slot table number places; owner = Some by; newest = slot }

-- the places after a client names a slot at one of them
unfoldable pub with_place : ℕ → RowNo → ClientNo → Option ℕ → List Place → List Place
with_place table number by slot places =
    edited (place_from table number) (place_at table number) places (owned_place table number by slot places ∷ [])

-- the place after its owner's changes end
abbrev pub place_ended : Ending → Place → Place
place_ended Settle place = record { table = place.table; number = place.number; settled = place.newest; owner = None; newest = None }
place_ended Undo place = record { table = place.table; number = place.number; settled = place.settled; owner = None; newest = None }

-- the slot that nothing names after its owner's changes end
abbrev pub slot_ended : Ending → Place → Option ℕ
slot_ended Settle place = place.settled
slot_ended Undo place = None

-- versions of other rows stay
abbrev pub SameElsewhere : List (Option Version) → List (Option Version) → ℕ → ℕ → Type 0
SameElsewhere old new table number =
    (t n slot : ℕ) → ((t == table) && (n == number)) ≡ false → is_version t n (slice_index_or old slot None) ≡ true
    → slice_index_or new slot None ≡ slice_index_or old slot None

-- something of the row is left
abbrev pub place_left : Place → Bool
place_left place = is_some place.settled || is_some place.owner

-- the owner of the row, or each client where it has none, sees the row
abbrev pub place_shown : Place → Bool
place_shown place = if is_some place.owner then is_some place.newest else is_some place.settled

-- the place's table is open
abbrev pub place_open : List (Option Table) → Place → Bool
place_open tables place = is_some (slice_index_or tables place.table None)

-- the number of the place's row is at least 1
abbrev pub place_numbered : Place → Bool
place_numbered place = nat_le 1 place.number.0

-- the change's row is owned by its client
abbrev pub is_owned : List Place → Unsettled → Bool
is_owned places change = is_by change.by (owner_in change.table change.number places)

-- the change is another client's
abbrev pub unsettled_others : ClientNo → Unsettled → Bool
unsettled_others by change = not (change.by.0 == by.0)

-- the last of the changes of a row: its client and its slot
abbrev pub last_unsettled : ℕ → RowNo → List Unsettled → Option (ClientNo × Option ℕ)
last_unsettled table number [] = None
last_unsettled table number (change ∷ changes) =
    or_else (last_unsettled table number changes) (if is_this table number change.table change.number then Some (change.by, change.slot) else None)

-- the owner of a place's row, with the slot that it sees
abbrev pub place_owned : Place → Option (ClientNo × Option ℕ)
place_owned place = option_map (λ (by : ClientNo). (by, place.newest)) place.owner

-- the place is of the table
abbrev pub place_of : ℕ → Place → Bool
place_of table place = place.table == table

-- the place is of another table
abbrev pub place_elsewhere : ℕ → Place → Bool
place_elsewhere table place = not (place.table == table)

-- the largest of the numbers of the table's places, 0 where there is none
abbrev pub largest_in : ℕ → List Place → ℕ
largest_in table [] = 0
largest_in table (place ∷ places) = if place.table == table then max place.number.0 (largest_in table places) else largest_in table places

-- versions of rows of other tables stay
abbrev pub SameInOthers : ℕ → List (Option Version) → List (Option Version) → Type 0
SameInOthers table old new =
    (t n slot : ℕ) → (t == table) ≡ false → is_version t n (slice_index_or old slot None) ≡ true
    → slice_index_or new slot None ≡ slice_index_or old slot None

-- the change is of a row of another table
abbrev pub unsettled_elsewhere : ℕ → Unsettled → Bool
unsettled_elsewhere table change = not (change.table == table)

-- the client sees the row of the place
abbrev pub place_seen : ClientNo → Place → Bool
place_seen by place = if is_by by place.owner then is_some place.newest else is_some place.settled

abbrev pub found_seen : ClientNo → Option Place → Bool
found_seen by None = false
found_seen by (Some place) = place_seen by place

-- the committed content of the place's row is in the slot
abbrev pub place_names : ℕ → Place → Bool
place_names slot place = is_slot slot place.settled

-- the content of the change is in the slot
abbrev pub change_names : ℕ → Unsettled → Bool
change_names slot change = is_slot slot change.slot

-- the committed content of a row is in the slot, or that of an unsettled change
abbrev pub is_used : List Place → List Unsettled → ℕ → Bool
is_used places changes slot = list_any (place_names slot) places || list_any (change_names slot) changes

-- each slot that isn't vacant is used
abbrev pub AllUsed : List Place → List (Option Version) → List Unsettled → Type 0
AllUsed places slots changes = (slot : ℕ) → is_some (slice_index_or slots slot None) ≡ true → is_used places changes slot ≡ true

-- each version is indexed under the number of its key
abbrev pub IsIndexed : List (Option Table) → List (Option Version) → Type 0
IsIndexed tables slots =
    (slot : ℕ) (version : Version) → slice_index_or slots slot None ≡ Some version
    → version.hash ≡ version_hash version.table version.number.0 (key_of version.table tables) version.cells

-- no two tables have the same name
abbrev pub AreApart : List (Option Table) → Type 0
AreApart tables =
    (name : TableName) (t u : ℕ) → is_named name (slice_index_or tables t None) ≡ true → is_named name (slice_index_or tables u None) ≡ true → t ≡ u

-- the table's name has this number
abbrev pub has_number : ℕ → Option Table → Bool
has_number hash None = false
has_number hash (Some table) = name_hash table.name == hash

-- the index has an entry for the name of each table, so that a name without one is no table's
abbrev pub AreKnown : List (Option Table) → (ℕ → Option ℕ) → Type 0
AreKnown tables numbers = (at : ℕ) (table : Table) → slice_index_or tables at None ≡ Some table → IsSome (numbers (name_hash table.name))

-- how places, slots and unsettled changes stand to each other
pub record Sound (places : List Place) (slots : List (Option Version)) (changes : List Unsettled) : Type 0 where
  pub order : in_order places ≡ true
  pub whole : list_all (is_whole slots) places ≡ true
  pub left : list_all place_left places ≡ true
  pub numbered : list_all place_numbered places ≡ true
  pub logged : list_all (is_logged slots) changes ≡ true
  pub owned : list_all (is_owned places) changes ≡ true
  pub agrees : (table : ℕ) (number : RowNo) → option_and_then place_owned (place_in table number places) ≡ last_unsettled table number changes
  pub used : AllUsed places slots changes
