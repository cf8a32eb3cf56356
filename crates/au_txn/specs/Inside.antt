-- How rows that are kept as versions stand for the lists that contracts see. Who reads the contracts needs none of it.
use Rattle.std.specs.Prelude.{◌≡◌, ◌≢◌, ◌≤◌, ◌==◌, IsSome, ◌&&◌, ◌||◌, ◌⊎◌, ℕ, List, [], ◌∷◌, Bool, true, false, nat_le, nat_lt, is_some, Option, None, Some, ◌-◌, length, map, slice_index_or, take, ⊤}
use Rattle.std.specs.List.{AllByRecursion, filter, filter_map, list_all}
use Rattle.std.specs.Option.{option_map}
use Rattle.au_base.specs.declared.cell.Cell.{Cell}
use Rattle.au_base.specs.declared.numbers.ClientNo.{ClientNo}
use Rattle.au_base.specs.declared.numbers.RowNo.{RowNo}
use Rattle.au_base.specs.declared.table.TableName.{TableName}
use Rattle.au_base.specs.Order.{placed}
use Rattle.au_rows.specs.declared.table.Table.{Table}
use Rattle.au_rows.specs.Held.{Agrees, Change, Contents, Held, IsOpen, is_free_for, is_left, number_of, owner_of, seen_at, with_row}
use Rattle.au_txn.specs.declared.change.RowChange.{RowChange}
use Rattle.au_txn.specs.declared.finals.Final.{Final}
use Rattle.au_txn.specs.Desks.{replayer, table_before}
use Rattle.au_txn.specs.Logs.{changes_of}
use Rattle.au_txn.specs.Logs as lists
use Rattle.au_txn.specs.Rows.{Row, row_at, row_before, with_content}
use Rattle.au_txn.specs.Transactions.{AreFrom, names_row}

-- the elements in order
abbrev pub in_order_of : {X : Type 0} → (X → X → Bool) → List X → List X
in_order_of before [] = []
in_order_of before (x ∷ xs) = placed before x (in_order_of before xs)

-- the committed row that is held of a table
abbrev pub row_of : Option Table → Held → Option Row
row_of None held = None
row_of (Some table) held = option_map (λ (cells : List Cell). record { table = table.name; number = held.number; cells = cells }) held.settled

-- the committed row that is held, under the name of its table
abbrev pub named : List (Option Table) → Held → Option Row
named tables held = row_of (slice_index_or tables held.table None) held

-- the committed rows
unfoldable pub committed : List (Option Table) → List Held → List Row
committed tables held = in_order_of row_before (filter_map (named tables) held)

abbrev pub itself : Option Table → Option Table
itself table = table

-- the open tables
unfoldable pub open_tables : List (Option Table) → List Table
open_tables tables = in_order_of table_before (filter_map itself tables)

-- by table and then by number
abbrev pub held_before : Held → Held → Bool
held_before a b = nat_lt a.table b.table || ((a.table == b.table) && nat_lt a.number.0 b.number.0)

-- each row is before all later ones
abbrev pub held_in_order : List Held → Bool
held_in_order [] = true
held_in_order (row ∷ rows) = list_all (held_before row) rows && held_in_order rows

-- the row's table is open
abbrev pub held_open : List (Option Table) → Held → Bool
held_open tables row = is_some (slice_index_or tables row.table None)

-- the row's number is at least 1
abbrev pub held_numbered : Held → Bool
held_numbered row = nat_le 1 row.number.0

-- a change as the rows keep it, its table by number
abbrev pub kept_change : List (Option Table) → ClientNo → RowChange → Change
kept_change tables client change = record { by = client; table = number_of change.table tables; number = change.row; content = change.new }

-- it is the client's change
abbrev pub is_own : ClientNo → Change → Bool
is_own client change = change.by.0 == client.0

abbrev pub own_changes : ClientNo → List Change → List Change
own_changes client changes = filter (is_own client) changes

-- the name of a table that is open
abbrev pub name_in : Option Table → TableName
name_in None = record { owner = []; name = [] }
name_in (Some table) = table.name

-- the content that a change gives its row, under the name of its table
abbrev pub final_in : List (Option Table) → Change → Final
final_in tables change = record { table = name_in (slice_index_or tables change.table None); row = change.number; content = change.content }

-- contents that are laid over rows, as changes of what stood before each
abbrev pub changes_from : List Row → List Final → List RowChange
changes_from rows [] = []
changes_from rows (final ∷ finals) =
    (record { table = final.table; row = final.row; old = row_at final.table final.row rows; new = final.content })
    ∷ changes_from (with_content final.table final.row final.content rows) finals

-- the changes of the replayer but as many as its list has, which are its last
abbrev pub unlisted : List Change → List lists.Changes → List Change
unlisted changes logs = take (length (own_changes replayer changes) - length (changes_of replayer logs)) (own_changes replayer changes)

-- what replay has laid
unfoldable pub laid_in : Contents → List lists.Changes → List RowChange
laid_in kept logs = changes_from (committed kept.tables kept.held) (map (final_in kept.tables) (unlisted kept.changes logs))

-- each table is found by its name
abbrev pub AreNamed : List (Option Table) → Type 0
AreNamed tables = (at : ℕ) (table : Table) → slice_index_or tables at None ≡ Some table → number_of table.name tables ≡ at

-- how the rows that are kept, and the open changes, stand to each other
pub record Ties (kept : Contents) (transactions : ClientNo → List RowChange) : Type 0 where
  pub order : held_in_order kept.held ≡ true
  pub left : list_all is_left kept.held ≡ true
  pub open_tables : list_all (held_open kept.tables) kept.held ≡ true
  pub rows_numbered : list_all held_numbered kept.held ≡ true
  pub names : AreNamed kept.tables
  pub agrees : Agrees kept
  pub logged : (client : ClientNo) → own_changes client kept.changes ≡ map (kept_change kept.tables client) (transactions client)
  pub there : (client : ClientNo) → AllByRecursion (λ (change : RowChange). IsOpen change.table kept.tables) (transactions client)
  pub numbered : (client : ClientNo) → AllByRecursion (λ (change : RowChange). 1 ≤ change.row.0) (transactions client)
  pub apart : (a b : ClientNo) (table : TableName) (number : RowNo) → a.0 ≢ b.0 → names_row table number (transactions a) ≡ true → names_row table number (transactions b) ≡ false
  pub from : (client : ClientNo) → AreFrom (committed kept.tables kept.held) (transactions client)

-- the rows that are kept once a client has made the changes
abbrev pub held_after : List (Option Table) → ClientNo → List RowChange → List Held → List Held
held_after tables client [] held = held
held_after tables client (change ∷ changes) held =
    held_after tables client changes (with_row (number_of change.table tables) change.row client change.new held)

-- the client may make the change of the rows that are kept
pub record MayWrite (tables : List (Option Table)) (client : ClientNo) (change : RowChange) (held : List Held) : Type 0 where
  pub there : IsOpen change.table tables
  pub free : is_free_for client (owner_of (number_of change.table tables) change.row held) ≡ true
  pub numbered : 1 ≤ change.row.0
  pub content : IsSome change.new ⊎ IsSome (seen_at (number_of change.table tables) change.row client held)

-- the client may make the changes, one after another
abbrev pub CanWrite : List (Option Table) → ClientNo → List RowChange → List Held → Type 0
CanWrite tables client [] held = ⊤
CanWrite tables client (change ∷ changes) held =
    MayWrite tables client change held
    × CanWrite tables client changes (with_row (number_of change.table tables) change.row client change.new held)
