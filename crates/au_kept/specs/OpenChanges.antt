-- What is so of the changes of open transactions, in every state (the limits are this project's profile).
use Rattle.std.specs.Prelude.{◌≡◌, ◌≤◌, ⊤, ℕ, List, length, Option, None, Some}
use Rattle.std.specs.List.{AllByRecursion, Contains}
use Rattle.au_base.specs.Cells.{IsSoundCell}
use Rattle.au_base.specs.Limits.{TABLE_ROW_NUMBERS, TRANSACTION_CHANGES}
use Rattle.au_base.specs.declared.cell.Cell.{Cell}
use Rattle.au_base.specs.declared.numbers.ClientNo.{ClientNo}
use Rattle.au_base.specs.declared.numbers.RowNo.{RowNo}
use Rattle.au_base.specs.declared.table.Column.{Column}
use Rattle.au_base.specs.declared.table.TableName.{TableName}
use Rattle.au_entries.specs.declared.change.Change.{Change}
use Rattle.au_entries.specs.declared.change.Change.TheVariants.{Put, Gone}
use Rattle.au_entries.specs.declared.table.Table.{Table}
use Rattle.au_entries.specs.Lawful.{FitColumns}
use Rattle.au_txn.specs.declared.change.RowChange.{RowChange}
use Rattle.au_txn.specs.Desks.{Contents as Desk, open_of}
use Rattle.au_txn.specs.Transactions.{IsNumber}
use Rattle.rec_codec.specs.Changes.{IsChangeSpellable}

-- the change that leaves a row with this content, or without any
abbrev pub content_change : TableName → RowNo → Option (List Cell) → Change
content_change table number None = Gone table number
content_change table number (Some cells) = Put table number cells

-- a content of a row fits the columns; so does none
abbrev pub FitsIfThere : List Column → Option (List Cell) → Type 0
FitsIfThere columns None = ⊤
FitsIfThere columns (Some cells) = FitColumns columns cells

-- each cell of a content is one that a row may have
abbrev pub AreSoundIfThere : Option (List Cell) → Type 0
AreSoundIfThere None = ⊤
AreSoundIfThere (Some cells) = AllByRecursion IsSoundCell cells

-- The change is of a row of one of these tables, and the row's number is at least 1. Its new content, where it has one, fits
-- the table's columns. A frame can spell that the row gets it, or is gone.
pub record IsSoundChange (tables : List Table) (change : RowChange) : Type 0 where
  pub numbered : 1 ≤ change.row.0
  pub fits : (table : Table) × Contains tables table × (table.name ≡ change.table) × FitsIfThere table.columns change.new
  pub spelled : IsChangeSpellable (content_change change.table change.row change.new)

-- the row numbers of which this is so are among so many
abbrev pub AreAmong : ℕ → (RowNo → Type 0) → Type 0
AreAmong limit IsSo = (numbers : List RowNo) × (length numbers ≤ limit) × ((number : RowNo) → IsSo number → Contains numbers number)

-- Each change of each client is sound, and a client has 100,000 changes at most. The row numbers of a table that its committed
-- rows have and that the clients' changes name are 1,000,000 at most.
pub record AreSoundChanges (tables : List Table) (desk : Desk) : Type 0 where
  pub each : (client : ClientNo) → AllByRecursion (IsSoundChange tables) (open_of desk client)
  pub short : (client : ClientNo) → length (open_of desk client) ≤ TRANSACTION_CHANGES
  pub few : (table : TableName) → AreAmong TABLE_ROW_NUMBERS (IsNumber desk.rows (open_of desk) table)
