-- The discipline of keys: what locks and refusals keep of the keys of rows.
use Rattle.std.specs.Prelude.{◌≡◌, ◌≢◌, ◌⊎◌, ⊤, ℕ, List, [], ◌∷◌, IsTrue, false}
use Rattle.std.specs.List.{Contains}
use Rattle.au_base.specs.declared.cell.Cell.{Cell}
use Rattle.au_base.specs.declared.numbers.ClientNo.{ClientNo}
use Rattle.au_base.specs.declared.numbers.RowNo.{RowNo}
use Rattle.au_base.specs.declared.table.TableName.{TableName}
use Rattle.au_rows.specs.Held.{HasKey}
use Rattle.au_txn.specs.declared.change.RowChange.{RowChange}
use Rattle.au_txn.specs.Desks.{Contents, key_of, open_of}
use Rattle.au_txn.specs.Rows.{Row, row_at}
use Rattle.au_txn.specs.Transactions.{NamesKey, laid_over, names_row}

-- two rows of the table that have one key are one row; the rows of a table without a key are free
abbrev pub KeysDiffer : List ℕ → TableName → List Row → Type 0
KeysDiffer [] table rows = ⊤
KeysDiffer (place ∷ places) table rows =
    (m n : RowNo) (key : List Cell) → HasKey (place ∷ places) key (row_at table m rows) → HasKey (place ∷ places) key (row_at table n rows) → m ≡ n

-- two rows of the table have one key
abbrev pub AreDoubled : List ℕ → TableName → List Row → Type 0
AreDoubled places table rows =
    (m n : RowNo) × (m ≢ n) × (key : List Cell) × HasKey places key (row_at table m rows) × HasKey places key (row_at table n rows)

-- once the changes are made, another row than this one has the key: one that no change names has it already, or a
-- change of it makes it
abbrev pub IsElsewhere : List ℕ → TableName → List Row → List RowChange → RowNo → List Cell → Type 0
IsElsewhere places table rows changes row key =
    (other : RowNo) × (other ≢ row)
    × (((names_row table other changes ≡ false) × HasKey places key (row_at table other rows))
    ⊎ ((change : RowChange) × Contains changes change × (change.table ≡ table) × (change.row ≡ other) × HasKey places key change.new))

-- one of the changes makes a key of the table that another row has once all of them are made, as told before
abbrev pub Clashes : List ℕ → TableName → List Row → List RowChange → Type 0
Clashes places table rows changes =
    (change : RowChange) × Contains changes change × (change.table ≡ table)
    × (key : List Cell) × HasKey places key change.new × IsElsewhere places table rows changes change.row key

-- keys differ among the committed rows and in what each client sees; no key of a keyed table, old or new, is in two
-- clients' changes, and no row is; and a client whose changes have the key of a committed row has a change of that row
pub record IsKeyed (keys : TableName → List ℕ) (rows : List Row) (transactions : ClientNo → List RowChange) : Type 0 where
  pub committed : (table : TableName) → KeysDiffer (keys table) table rows
  pub seen : (client : ClientNo) (table : TableName) → KeysDiffer (keys table) table (laid_over rows (transactions client))
  pub apart : (a b : ClientNo) (table : TableName) (key : List Cell) → a.0 ≢ b.0 → keys table ≢ []
      → NamesKey (keys table) table key (transactions a) → NamesKey (keys table) table key (transactions b) → ⊥
  pub owned : (a b : ClientNo) (table : TableName) (row : RowNo) → a.0 ≢ b.0
      → IsTrue (names_row table row (transactions a)) → IsTrue (names_row table row (transactions b)) → ⊥
  pub held : (client : ClientNo) (table : TableName) (key : List Cell) (row : RowNo) → keys table ≢ []
      → NamesKey (keys table) table key (transactions client) → HasKey (keys table) key (row_at table row rows) → IsTrue (names_row table row (transactions client))

-- one client's changes are these, and each other client's are as they were
pub record ChangesOne (client : ClientNo) (own : List RowChange) (before after : ClientNo → List RowChange) : Type 0 where
  pub own_are : after client ≡ own
  pub others_are : (other : ClientNo) → other.0 ≢ client.0 → after other ≡ before other

-- the discipline of keys of a desk, by the keys of its tables
abbrev pub IsKeyedDesk : Contents → Type 0
IsKeyedDesk desk = IsKeyed (λ table. key_of table desk.tables) desk.rows (open_of desk)
