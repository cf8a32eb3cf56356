-- Places in blocks of at most 512, one behind the other.
use Rattle.std.specs.Prelude.{◌≡◌, ℕ, zero, suc, ◌+◌, ◌-◌, ◌*◌, ◌<◌, ◌≤◌, ◌^◌, List, [], ◌∷◌, ◌++◌, Bool, true, false, not, ◌==◌, ◌&&◌, ◌||◌, if◌then◌else◌, nat_lt, length, take, drop, slice_index_or}
use Rattle.std.specs.List.{list_all, count_by, sum_by}
use Rattle.au_base.specs.declared.numbers.RowNo.{RowNo}
use Rattle.au_rows.specs.declared.place.Place.{Place}
use Rattle.au_rows.specs.Kept.{place_from, place_numbered, place_of}
use Rattle.au_rows.specs.Order.{in_order}

-- places in order, of how many new rows places are taken with no allocation, and of how many tables
-- the places are counted
pub record Counted : Type 0 where
  pub listed : List Place
  pub room : ℕ
  pub tables : ℕ

-- the places of all blocks
abbrev pub joined : List (List Place) → List Place
joined [] = []
joined (block ∷ blocks) = block ++ joined blocks

-- the place is of a row before this one
abbrev pub place_earlier : ℕ → RowNo → Place → Bool
place_earlier table number place = not (place_from table number place)

-- the place is of a row behind this one
abbrev pub place_past : ℕ → RowNo → Place → Bool
place_past table number place = nat_lt table place.table || ((place.table == table) && nat_lt number.0 place.number.0)

-- the block's first place is of a row behind this one
abbrev pub starts_past : ℕ → RowNo → List Place → Bool
starts_past table number [] = false
starts_past table number (place ∷ places) = place_past table number place

-- all places are of rows behind this one, where they are in order
abbrev pub goes_past : ℕ → RowNo → List Place → Bool
goes_past table number [] = true
goes_past table number (place ∷ places) = place_past table number place

-- the row's place stands in this block or in none
pub record IsHome (table : ℕ) (number : RowNo) (blocks : List (List Place)) (at : ℕ) : Type 0 where
  pub within : at < length blocks
  pub before : list_all (place_earlier table number) (joined (take at blocks)) ≡ true
  pub behind : goes_past table number (joined (drop (suc at) blocks)) ≡ true

abbrev pub has_places : List Place → Bool
has_places [] = false
has_places (place ∷ places) = true

abbrev pub has_none : List Place → Bool
has_none block = not (has_places block)

-- no block but the first is without places
abbrev pub is_filled : List (List Place) → Bool
is_filled [] = true
is_filled (block ∷ blocks) = list_all has_places blocks

-- no block has no places but the first and the one at the index
abbrev pub all_but : ℕ → List (List Place) → Bool
all_but at [] = true
all_but zero (block ∷ blocks) = list_all has_places blocks
all_but (suc at) (block ∷ blocks) = has_places block && all_but at blocks

abbrev pub is_filled_but : ℕ → List (List Place) → Bool
is_filled_but at [] = true
is_filled_but zero (block ∷ blocks) = list_all has_places blocks
is_filled_but (suc at) (block ∷ blocks) = all_but at blocks

-- the blocks with the one at the index in two parts
abbrev pub parted_at : ℕ → List (List Place) → List (List Place)
parted_at at blocks =
    take at blocks ++ take 384 (slice_index_or blocks at []) ∷ drop 384 (slice_index_or blocks at []) ∷ drop (suc at) blocks

-- the part in which the row stands
abbrev pub part_of : ℕ → RowNo → ℕ → List (List Place) → ℕ
part_of table number at blocks = if starts_past table number (drop 384 (slice_index_or blocks at [])) then at else suc at

-- how many places a block has over three quarters of what it holds
abbrev pub excess : List Place → ℕ
excess block = length block - 384

abbrev pub all_excess : List (List Place) → ℕ
all_excess blocks = sum_by excess blocks

-- each table's places are counted
abbrev pub IsCount : List ℕ → List Place → Type 0
IsCount counts places = (table : ℕ) → slice_index_or counts table 0 ≡ count_by (place_of table) places

-- blocks with places, blocks without, how many places there are, how many more they are sure to
-- take, and the tables' counts. A split takes one block without places and moves 128 places from what
-- is over three quarters of a block, so what is paid for stays paid for
pub record Housed (blocks fresh : List (List Place)) (len room : ℕ) (counts : List ℕ) : Type 0 where
  pub some : 0 < length blocks
  pub order : in_order (joined blocks) ≡ true
  pub filled : is_filled blocks ≡ true
  pub vacant : list_all has_none fresh ≡ true
  pub paid : room + all_excess blocks ≤ 128 * length fresh
  pub numbered : list_all place_numbered (joined blocks) ≡ true
  pub len_is : len ≡ length (joined blocks)
  pub bounded : len + room < 2 ^ 32
  pub counted : IsCount counts (joined blocks)
