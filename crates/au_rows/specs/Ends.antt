-- What ends with a client's changes.
use Rattle.std.specs.Prelude.{◌≡◌, ℕ, ◌+◌, ◌≤◌, ◌⊎◌, List, Bool, true, false, not, ◌==◌, ◌&&◌, ◌||◌, Option, None, Some, filter, is_some, map, slice_index_or, ⊤}
use Rattle.std.specs.List.{list_all, list_any, count_by}
use Rattle.au_base.specs.declared.numbers.RowNo.{RowNo}
use Rattle.au_base.specs.declared.numbers.ClientNo.{ClientNo}
use Rattle.au_rows.specs.declared.ending.Ending.{Ending}
use Rattle.au_rows.specs.declared.place.Place.{Place}
use Rattle.au_rows.specs.declared.table.Table.{Table}
use Rattle.au_rows.specs.declared.unsettled.Unsettled.{Unsettled}
use Rattle.au_rows.specs.declared.version.Version.{Version}
use Rattle.au_rows.specs.Held.{all_ended, is_by, is_this}
use Rattle.au_rows.specs.Kept.{AllUsed, SameElsewhere, change_names, held_of, is_apart, is_used, is_version, is_whole, owner_in, place_in, place_names, place_numbered, place_open, place_shown, unsettled_others}
use Rattle.au_rows.specs.Order.{in_order}

-- the change is the client's
abbrev pub is_own : ClientNo → Unsettled → Bool
is_own by change = change.by.0 == by.0

-- the change is the client's, and of this row
abbrev pub is_own_of : ℕ → RowNo → ClientNo → Unsettled → Bool
is_own_of table number by change = is_this table number change.table change.number && is_own by change

-- the slot has a version of the row or is vacant
abbrev pub is_loose_version : ℕ → ℕ → Option Version → Bool
is_loose_version table number None = true
is_loose_version table number (Some version) = is_version table number (Some version)

abbrev pub is_loose_slot : List (Option Version) → ℕ → ℕ → Option ℕ → Bool
is_loose_slot slots table number None = true
is_loose_slot slots table number (Some slot) = is_loose_version table number (slice_index_or slots slot None)

abbrev pub is_loose : List (Option Version) → Unsettled → Bool
is_loose slots change = is_loose_slot slots change.table change.number.0 change.slot

-- no slot has another version than before
abbrev pub OnlyFrees : List (Option Version) → List (Option Version) → Type 0
OnlyFrees old new =
    (slot : ℕ) → (slice_index_or new slot None ≡ slice_index_or old slot None) ⊎ (slice_index_or new slot None ≡ None)

-- the committed content of a row of the table is in the slot
abbrev pub names_of : ℕ → ℕ → Place → Bool
names_of table slot place = (place.table == table) && place_names slot place

-- the committed contents of the table's rows are gone
abbrev pub IsFreed : ℕ → List Place → List (Option Version) → Type 0
IsFreed table places after = (slot : ℕ) → list_any (names_of table slot) places ≡ true → slice_index_or after slot None ≡ None

-- the place, where there is one, doesn't name the slot
abbrev pub is_clear : Option ℕ → Option Place → Bool
is_clear slot None = true
is_clear slot (Some place) = is_apart place.settled slot && is_apart place.newest slot

-- the slot, where one is named, is vacant, or the place names it
abbrev pub IsGone : Option ℕ → Option Place → List (Option Version) → Type 0
IsGone None place after = ⊤
IsGone (Some slot) place after = (slice_index_or after slot None ≡ None) ⊎ (is_clear (Some slot) place ≡ false)

-- there is no place, or it is that of a row without unsettled changes
abbrev pub is_bare : Option Place → Bool
is_bare None = true
is_bare (Some place) = not (is_some place.owner) && not (is_some place.newest)

-- a slot with a committed content before has one after, or is vacant
abbrev pub KeepsNames : List Place → List Place → List (Option Version) → Type 0
KeepsNames old new after =
    (slot : ℕ) → is_some (slice_index_or after slot None) ≡ true → list_any (place_names slot) old ≡ true → list_any (place_names slot) new ≡ true

-- no place has another content than before, nor has the version of another row changed
pub record SlotDropped (table : ℕ) (number : RowNo) (places : List Place) (before after : List (Option Version)) : Type 0 where
  pub whole : list_all (is_whole after) places ≡ true
  pub held : map (held_of after) places ≡ map (held_of before) places
  pub elsewhere : SameElsewhere before after table number.0
  pub frees : OnlyFrees before after

-- the changes of one client of one row have ended; the versions of other rows, and their places, are
-- as they were
pub record RowEnded (ending : Ending) (table : ℕ) (number : RowNo) (by : ClientNo) (old : List Place) (before : List (Option Version)) (new : List Place) (after : List (Option Version)) : Type 0 where
  pub order : in_order new ≡ true
  pub whole : list_all (is_whole after) new ≡ true
  pub open_tables : (tables : List (Option Table)) → list_all (place_open tables) old ≡ true → list_all (place_open tables) new ≡ true
  pub numbered : list_all place_numbered old ≡ true → list_all place_numbered new ≡ true
  pub rows : all_ended ending by (map (held_of after) new) ≡ all_ended ending by (map (held_of before) old)
  pub elsewhere : SameElsewhere before after table number.0
  pub frees : OnlyFrees before after
  pub others : (t : ℕ) (n : RowNo) → is_this table number t n ≡ false → place_in t n new ≡ place_in t n old
  pub here : (is_bare (place_in table number new) ≡ true) ⊎ ((is_by by (owner_in table number old) ≡ false) × (place_in table number new ≡ place_in table number old))
  pub shown : count_by place_shown new ≤ count_by place_shown old + 1
  pub keeps : KeepsNames old new after

-- each row that the client owns has one of the client's changes
abbrev pub IsCovered : ClientNo → List Place → List Unsettled → Type 0
IsCovered by places changes = (t : ℕ) (n : RowNo) → is_by by (owner_in t n places) ≡ true → list_any (is_own_of t n by) changes ≡ true

-- the row that isn't the client's stays, and the one that is may have ended
abbrev pub KeptOrEnded : Bool → Option Place → Option Place → Type 0
KeptOrEnded true old new = (new ≡ old) ⊎ (is_bare new ≡ true)
KeptOrEnded false old new = new ≡ old

-- the slot is used by a place, by one of the rest of the changes, or by another client's
abbrev pub is_used_still : ClientNo → List Unsettled → List Unsettled → List Place → ℕ → Bool
is_used_still by rest changes places slot =
    is_used places rest slot || list_any (change_names slot) (filter (unsettled_others by) changes)

-- the client's changes of the rows that come before the rest of the changes have ended
pub record EndedBefore (ending : Ending) (by : ClientNo) (rest : List Unsettled) (changes : List Unsettled) (old : List Place) (before : List (Option Version)) (new : List Place) (after : List (Option Version)) : Type 0 where
  pub order : in_order new ≡ true
  pub whole : list_all (is_whole after) new ≡ true
  pub open_tables : (tables : List (Option Table)) → list_all (place_open tables) old ≡ true → list_all (place_open tables) new ≡ true
  pub numbered : list_all place_numbered old ≡ true → list_all place_numbered new ≡ true
  pub rows : all_ended ending by (map (held_of after) new) ≡ all_ended ending by (map (held_of before) old)
  pub elsewhere : (t n slot : ℕ) → is_by by (owner_in t (record { 0 = n }) old) ≡ false → is_version t n (slice_index_or before slot None) ≡ true → slice_index_or after slot None ≡ slice_index_or before slot None
  pub frees : OnlyFrees before after
  pub others : (t : ℕ) (n : RowNo) → KeptOrEnded (is_by by (owner_in t n old)) (place_in t n old) (place_in t n new)
  pub ahead : IsCovered by new rest
  pub shown : count_by place_shown new + count_by (is_own by) rest ≤ count_by place_shown old + count_by (is_own by) changes
  pub within : (slot : ℕ) → list_any (change_names slot) (filter (unsettled_others by) rest) ≡ true → list_any (change_names slot) (filter (unsettled_others by) changes) ≡ true
  pub used : AllUsed old before changes → (slot : ℕ) → is_some (slice_index_or after slot None) ≡ true → is_used_still by rest changes new slot ≡ true
