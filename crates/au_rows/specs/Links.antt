-- The changes of open transactions in the order in which they were made, each naming its lane's change before it.
use Rattle.std.specs.Prelude.{◌≡◌, ◌<◌, ◌≤◌, ◌==◌, ◌++◌, ◌%◌, ℕ, Bool, true, false, List, [], ◌∷◌, Option, Some, None, slice_index_or}
use Rattle.au_base.specs.declared.numbers.ClientNo.{ClientNo}
use Rattle.au_rows.specs.declared.entry.Entry.{Entry}
use Rattle.au_rows.specs.declared.unsettled.Unsettled.{Unsettled}
use Rattle.au_rows.specs.Kept.{unsettled_elsewhere}

-- the changes, the oldest first, and how many more are taken with no allocation
pub record Listed : Type 0 where
  pub listed : List Unsettled
  pub room : ℕ

-- the changes that are still there
abbrev pub live : List (Option Entry) → List Unsettled
live [] = []
live (None ∷ entries) = live entries
live (Some entry ∷ entries) = entry.change ∷ live entries

-- the lane of a client, which it shares with clients whose numbers have the same rest
abbrev pub lane_in : ClientNo → ℕ
lane_in by = by.0 % 4096

abbrev pub lane_of : Entry → ℕ
lane_of entry = lane_in entry.change.by

-- of the first entries, a lane's newest one is named, and each names its lane's one before it
pub record Linked (entries : List (Option Entry)) (tops : ℕ → Option ℕ) (count : ℕ) : Type 0 where
  pub topped : (at : ℕ) (entry : Entry) → at < count → slice_index_or entries at None ≡ Some entry
      → (top : ℕ) × (tops (lane_of entry) ≡ Some top) × (at ≤ top)
  pub linked : (at under : ℕ) (entry other : Entry) → at < count → under < at
      → slice_index_or entries at None ≡ Some entry → slice_index_or entries under None ≡ Some other → lane_of other ≡ lane_of entry
      → (below : ℕ) × (entry.below ≡ Some below) × (under ≤ below)
  pub tops_there : (lane top : ℕ) → tops lane ≡ Some top
      → (top < count) × (entry : Entry) × (slice_index_or entries top None ≡ Some entry) × (lane_of entry ≡ lane)
  pub belows_there : (at below : ℕ) (entry : Entry) → at < count → slice_index_or entries at None ≡ Some entry → entry.below ≡ Some below
      → (below < at) × (other : Entry) × (slice_index_or entries below None ≡ Some other) × (lane_of other ≡ lane_of entry)

-- the entry at the index, where there is one, is of the client
abbrev pub is_own_entry : ClientNo → Option Entry → Bool
is_own_entry by None = false
is_own_entry by (Some entry) = entry.change.by.0 == by.0

-- the entry below it in its lane
abbrev pub below_in : Option Entry → Option ℕ
below_in None = None
below_in (Some entry) = entry.below

-- an entry, the one below it in its lane, which is the client's, and where they are kept
pub record Above (by : ClientNo) (entries : List (Option Entry)) (above : ℕ) : Type 0 where
  pub upper : Entry
  pub here : ℕ
  pub lower : Entry
  pub there : slice_index_or entries above None ≡ Some upper
  pub names : upper.below ≡ Some here
  pub below : slice_index_or entries here None ≡ Some lower
  pub own : (lower.change.by.0 == by.0) ≡ true

-- one change is gone, which is the client's, and the others keep their order
pub record Taken (by : ClientNo) (change : Unsettled) (old new : List Unsettled) : Type 0 where
  pub own : (change.by.0 == by.0) ≡ true
  pub front : List Unsettled
  pub back : List Unsettled
  pub before : old ≡ front ++ change ∷ back
  pub after : new ≡ front ++ back

-- the change, where it is still there, is of a row of another table
abbrev pub entry_elsewhere : ℕ → Option Entry → Bool
entry_elsewhere table None = true
entry_elsewhere table (Some entry) = unsettled_elsewhere table entry.change
