-- What a transaction leaves of its rows, as a frame of the journal lists it.
use Rattle.std.specs.Prelude.{◌≡◌, ◌≢◌, ◌⊎◌, List, Bool, IsTrue}
use Rattle.std.specs.List.{Contains}
use Rattle.au_base.specs.declared.numbers.RowNo.{RowNo}
use Rattle.au_base.specs.declared.table.TableName.{TableName}
use Rattle.au_base.specs.Order.{fields_before, is_in_order}
use Rattle.au_txn.specs.declared.change.RowChange.{RowChange}
use Rattle.au_txn.specs.declared.finals.Final.{Final}
use Rattle.au_txn.specs.Rows.{Row, place_of, row_at}
use Rattle.au_txn.specs.Transactions.{laid_over}

-- by owner, table and number
abbrev pub final_before : Final → Final → Bool
final_before a b = fields_before (place_of a.table a.row) (place_of b.table b.row)

-- the rows that the changes leave with another content than the committed one, each once with that content, in order:
-- a row that came and went isn't among them, nor one that was changed back
pub record AreFinals (rows : List Row) (changes : List RowChange) (finals : List Final) : Type 0 where
  pub ordered : IsTrue (is_in_order final_before finals)
  pub sound : (final : Final) → Contains finals final
      → (final.content ≡ row_at final.table final.row (laid_over rows changes)) × (final.content ≢ row_at final.table final.row rows)
  pub complete : (table : TableName) (row : RowNo) → (row_at table row (laid_over rows changes) ≡ row_at table row rows)
      ⊎ Contains finals (record { table = table; row = row; content = row_at table row (laid_over rows changes) })
