-- The rows of all tables: what is committed of each, and what open transactions have made of them.
use Rattle.std.specs.Prelude.{◌≡◌, ◌≢◌, ℕ, ◌<◌, List, [], ◌∷◌, ◌++◌, Bool, true, false, not, ◌==◌, ◌&&◌, ◌||◌, nat_le, nat_lt, is_some, if◌then◌else◌, Option, None, Some, map, filter, length, max, slice_get, slice_index, slice_index_or, ◌⊎◌}
use Rattle.std.specs.List.{Contains, position_or_len}
use Rattle.std.specs.Option.{option_and_then, option_map}
use Rattle.std.specs.Str.{bytes_eq}
use Rattle.std.specs.Borrow.{Bor}
use Rattle.au_base.specs.declared.cell.Cell.{Cell}
use Rattle.au_base.specs.declared.table.TableName.{TableName}
use Rattle.au_base.specs.declared.numbers.RowNo.{RowNo}
use Rattle.au_base.specs.declared.numbers.ClientNo.{ClientNo}
use Rattle.au_rows.specs.declared.ending.Ending.{Ending}
use Rattle.au_rows.specs.declared.ending.Ending.TheVariants.{Settle, Undo}
use Rattle.au_rows.specs.declared.table.Table.{Table}
use Rattle.au_rows.specs.Edits.{edited, found}

-- a row: its committed content, and the client with unsettled changes of it, with the content that
-- this client sees. The table is named by its number
pub record Held : Type 0 where
  pub table : ℕ
  pub number : RowNo
  pub settled : Option (List Cell)
  pub owner : Option ClientNo
  pub newest : Option (List Cell)

-- an unsettled change: its client, its row, and the row's new content, none where the row is gone
pub record Change : Type 0 where
  pub by : ClientNo
  pub table : ℕ
  pub number : RowNo
  pub content : Option (List Cell)

-- the tables, each at the place that is its number; the rows of which there is something; the
-- unsettled changes in the order in which they were made; and how many more calls are sure to find
-- their memory
pub record Contents : Type 0 where
  pub tables : List (Option Table)
  pub held : List Held
  pub changes : List Change
  pub spare : ℕ

-- the table has this name
abbrev pub is_named : TableName → Option Table → Bool
is_named name None = false
is_named name (Some table) = bytes_eq table.name.owner name.owner && bytes_eq table.name.name name.name

-- the number of the table with this name, or how many places there are
abbrev pub number_of : TableName → List (Option Table) → ℕ
number_of name tables = position_or_len (is_named name) tables

-- there is a table with this name
abbrev pub IsOpen : TableName → List (Option Table) → Type 0
IsOpen name tables = number_of name tables < length tables

-- the places of the table's key columns
abbrev pub key_in : Option Table → List ℕ
key_in None = []
key_in (Some table) = table.key

-- the places of the key columns of the table with this number
abbrev pub key_of : ℕ → List (Option Table) → List ℕ
key_of table tables = key_in (slice_index_or tables table None)

-- the place is this one or a later one, by table and then by number
abbrev pub is_from : ℕ → RowNo → ℕ → RowNo → Bool
is_from table number t n = nat_lt table t || ((t == table) && nat_le number.0 n.0)

abbrev pub is_this : ℕ → RowNo → ℕ → RowNo → Bool
is_this table number t n = (t == table) && (n.0 == number.0)

abbrev pub held_from : ℕ → RowNo → Held → Bool
held_from table number row = is_from table number row.table row.number

abbrev pub held_at : ℕ → RowNo → Held → Bool
held_at table number row = is_this table number row.table row.number

-- the row, if there is anything of it
abbrev pub row_at : ℕ → RowNo → List Held → Option Held
row_at table number held = found (held_from table number) (held_at table number) held

-- the client with unsettled changes of the row
abbrev pub owner_of : ℕ → RowNo → List Held → Option ClientNo
owner_of table number held = option_and_then (λ (row : Held). row.owner) (row_at table number held)

-- the committed content of the row
abbrev pub settled_of : ℕ → RowNo → List Held → Option (List Cell)
settled_of table number held = option_and_then (λ (row : Held). row.settled) (row_at table number held)

-- it is the client's
abbrev pub is_by : ClientNo → Option ClientNo → Bool
is_by by None = false
is_by by (Some owner) = owner.0 == by.0

-- what the client sees of the row: its own content, or else what is committed
abbrev pub seen_by : ClientNo → Held → Option (List Cell)
seen_by by row = if is_by by row.owner then row.newest else row.settled

-- what the client sees of the row with this number
abbrev pub seen_at : ℕ → RowNo → ClientNo → List Held → Option (List Cell)
seen_at table number by held = option_and_then (seen_by by) (row_at table number held)

-- no other client has unsettled changes of the row
abbrev pub is_free_for : ClientNo → Option ClientNo → Bool
is_free_for by None = true
is_free_for by (Some owner) = owner.0 == by.0

-- the rows after a client gives one of them this content, or takes it away
unfoldable pub with_row : ℕ → RowNo → ClientNo → Option (List Cell) → List Held → List Held
with_row table number by content held =
    edited (held_from table number) (held_at table number) held
    (record { table = table; number = number; settled = settled_of table number held; owner = Some by; newest = content } ∷ [])

-- the row, where it stands after the number and the client sees it
abbrev pub shown_after : ℕ → RowNo → ClientNo → Held → Option (RowNo × List Cell)
shown_after table after by row =
    if (row.table == table) && nat_lt after.0 row.number.0 then option_map (λ (cells : List Cell). (row.number, cells)) (seen_by by row) else None

abbrev pub or_else : {A : Type 0} → Option A → Option A → Option A
or_else None other = other
or_else (Some a) other = Some a

-- the first row after the number that the client sees
abbrev pub next_of : ℕ → RowNo → ClientNo → List Held → Option (RowNo × List Cell)
next_of table after by [] = None
next_of table after by (row ∷ rows) = or_else (shown_after table after by row) (next_of table after by rows)

-- the row that a lent pair shows
abbrev pub lent : RowNo × Bor (List Cell) → RowNo × List Cell
lent p = (p.0, p.1.now)

-- a row with a content
abbrev pub entry : RowNo → Option (List Cell) → List (RowNo × List Cell)
entry number None = []
entry number (Some cells) = (number, cells) ∷ []

-- the row, where it is the table's and the client sees it
abbrev pub shown_to : ℕ → ClientNo → Held → List (RowNo × List Cell)
shown_to table by row = if row.table == table then entry row.number (seen_by by row) else []

-- the rows of the table that the client sees, in the order of their numbers
abbrev pub view_of : ℕ → ClientNo → List Held → List (RowNo × List Cell)
view_of table by [] = []
view_of table by (row ∷ rows) = shown_to table by row ++ view_of table by rows

-- the row with the content of its owner committed, or with its owner's changes gone
abbrev pub ended : Ending → Held → Held
ended Settle row = record { table = row.table; number = row.number; settled = row.newest; owner = None; newest = None }
ended Undo row = record { table = row.table; number = row.number; settled = row.settled; owner = None; newest = None }

-- the row after the client's changes end
abbrev pub row_ended : Ending → ClientNo → Held → Held
row_ended ending by row = if is_by by row.owner then ended ending row else row

-- something of the row is left
abbrev pub is_left : Held → Bool
is_left row = is_some row.settled || is_some row.owner

-- the rows after the client's changes end
abbrev pub all_ended : Ending → ClientNo → List Held → List Held
all_ended ending by held = filter is_left (map (row_ended ending by) held)

-- the rows after the client's changes become committed
abbrev pub settled_by : ClientNo → List Held → List Held
settled_by by held = all_ended Settle by held

-- the rows after the client's changes go away
abbrev pub undone_by : ClientNo → List Held → List Held
undone_by by held = all_ended Undo by held

-- it is a change of another client
abbrev pub is_others : ClientNo → Change → Bool
is_others by change = not (change.by.0 == by.0)

-- the changes of all other clients
abbrev pub changes_of_others : ClientNo → List Change → List Change
changes_of_others by changes = filter (is_others by) changes

-- the last of the changes of a row: its client and the content that it gives the row
abbrev pub last_change : ℕ → RowNo → List Change → Option (ClientNo × Option (List Cell))
last_change table number [] = None
last_change table number (change ∷ changes) =
    or_else (last_change table number changes) (if is_this table number change.table change.number then Some (change.by, change.content) else None)

-- the owner of a row, with the content that it sees
abbrev pub owned : Held → Option (ClientNo × Option (List Cell))
owned row = option_map (λ (by : ClientNo). (by, row.newest)) row.owner

-- each row's owner and what it sees are those of the last change of the row
abbrev pub Agrees : Contents → Type 0
Agrees contents =
    (table : ℕ) (number : RowNo) → option_and_then owned (row_at table number contents.held) ≡ last_change table number contents.changes

-- it is a row of the table
abbrev pub is_of : ℕ → Held → Bool
is_of table row = row.table == table

-- it is a row of another table
abbrev pub is_elsewhere : ℕ → Held → Bool
is_elsewhere table row = not (row.table == table)

-- the largest of the numbers of the table's rows, 0 where there is none
abbrev pub largest_of : ℕ → List Held → ℕ
largest_of table [] = 0
largest_of table (row ∷ rows) = if row.table == table then max row.number.0 (largest_of table rows) else largest_of table rows

-- no table has the place
abbrev pub is_vacant : Option Table → Bool
is_vacant None = true
is_vacant (Some table) = false

-- the tables with one more, at the first place that no table has
abbrev pub with_table : TableName → List ℕ → List (Option Table) → List (Option Table)
with_table name key tables = edited is_vacant is_vacant tables (Some (record { name = name; key = key }) ∷ [])

-- the cells at the key's places are these
abbrev pub HasKey : List ℕ → List Cell → Option (List Cell) → Type 0
HasKey places key None = ⊥
HasKey places key (Some cells) =
    (length places ≡ length key) × ((at : ℕ) → at < length places → slice_get cells (slice_index places at) ≡ slice_get key at)

-- another client's change of the table has the key as its new key, or its row's committed content
-- has it. The old key of a later change of the row is the new key of an earlier one
abbrev pub IsLocking : List ℕ → List Held → ℕ → List Cell → ClientNo → Change → Type 0
IsLocking places held table key by change =
    (is_others by change ≡ true) × (change.table ≡ table)
    × (HasKey places key change.content ⊎ HasKey places key (settled_of change.table change.number held))

-- one of the changes locks the key
abbrev pub SomeLocks : List ℕ → List Held → ℕ → List Cell → ClientNo → List Change → Type 0
SomeLocks places held table key by [] = ⊥
SomeLocks places held table key by (change ∷ changes) =
    IsLocking places held table key by change ⊎ SomeLocks places held table key by changes

-- an unsettled change of another client has the key as its old or new key
abbrev pub IsLocked : Contents → ℕ → List Cell → ClientNo → Type 0
IsLocked contents table key by = SomeLocks (key_of table contents.tables) contents.held table key by contents.changes

-- it is a change of a row of another table
abbrev pub is_of_other : ℕ → Change → Bool
is_of_other table change = not (change.table == table)

-- the table's row is one that the client sees, and its key is this
abbrev pub IsUnder : Contents → ℕ → List Cell → ClientNo → RowNo × List Cell → Type 0
IsUnder contents table key by row =
    Contains (view_of table by contents.held) row × HasKey (key_of table contents.tables) key (Some row.1)

-- another row of the view than this one has the key
abbrev pub IsOtherIn : List (RowNo × List Cell) → List ℕ → List Cell → RowNo → RowNo → Type 0
IsOtherIn view places key row other = (other ≢ row) × (cells : List Cell) × Contains view (other, cells) × HasKey places key (Some cells)

-- another row of the table than this one is one that the client sees, and its key is this
abbrev pub IsUnderOther : Contents → ℕ → List Cell → RowNo → ClientNo → RowNo → Type 0
IsUnderOther contents table key row by other = IsOtherIn (view_of table by contents.held) (key_of table contents.tables) key row other
