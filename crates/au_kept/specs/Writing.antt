-- When a client's changes of rows keep the discipline of keys, and what is so of open changes.
use Rattle.std.specs.Prelude.{◌≢◌, ◌≤◌, ◌⊎◌, ◌++◌, List, [], IsTrue, length}
use Rattle.std.specs.List.{AllByRecursion}
use Rattle.au_base.specs.Limits.{TABLE_ROW_NUMBERS, TRANSACTION_CHANGES}
use Rattle.au_base.specs.declared.cell.Cell.{Cell}
use Rattle.au_base.specs.declared.numbers.ClientNo.{ClientNo}
use Rattle.au_base.specs.declared.table.TableName.{TableName}
use Rattle.au_entries.specs.declared.table.Table.{Table}
use Rattle.au_kept.specs.OpenChanges.{AreAmong, IsSoundChange}
use Rattle.au_txn.specs.declared.change.RowChange.{RowChange}
use Rattle.au_txn.specs.Desks.{Contents as Desk, key_of, open_of}
use Rattle.au_txn.specs.Keys.{KeysDiffer}
use Rattle.au_txn.specs.Transactions.{IsKeyLocked, IsNumber, MakesKey, laid_over, names_row, rows_differ}

-- The changes are of different rows. Once they are made, keys differ in what the client sees, and no key that they make is
-- in another client's changes.
pub record KeepsKeys (desk : Desk) (client : ClientNo) (changes : List RowChange) : Type 0 where
  pub once : IsTrue (rows_differ changes)
  pub differ : (table : TableName) → KeysDiffer (key_of table desk.tables) table (laid_over desk.rows (open_of desk client ++ changes))
  pub unlocked : (table : TableName) (key : List Cell) → key_of table desk.tables ≢ [] → MakesKey (key_of table desk.tables) table key changes
      → ¬ IsKeyLocked (key_of table desk.tables) (open_of desk) client table key

-- Each change is sound. With them the client has 100,000 changes at most, and of each table the row numbers that are used
-- already and those that the changes name are 1,000,000 at most.
pub record KeepsSound (tables : List Table) (desk : Desk) (client : ClientNo) (changes : List RowChange) : Type 0 where
  pub each : AllByRecursion (IsSoundChange tables) changes
  pub short : length (open_of desk client ++ changes) ≤ TRANSACTION_CHANGES
  pub few : (table : TableName) → AreAmong TABLE_ROW_NUMBERS (λ number. IsNumber desk.rows (open_of desk) table number ⊎ IsTrue (names_row table number changes))
