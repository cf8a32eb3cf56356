-- Where no row that is seen has another under its key, keys differ.
use Rattle.std.proofs.Common.{◌≡◌, List, refl}
use Rattle.std.specs.Prelude.{Option, None, Some}
use Rattle.std.specs.List.{AllByRecursion, Contains}
use Rattle.au_base.specs.declared.cell.Cell.{Cell}
use Rattle.au_base.specs.declared.numbers.ClientNo.{ClientNo}
use Rattle.au_base.specs.declared.numbers.RowNo.{RowNo}
use Rattle.au_base.specs.declared.table.TableName.{TableName}
use Rattle.au_query.specs.Combos.{Line}
use Rattle.au_rows.specs.Held.{HasKey}
use Rattle.au_txn.specs.Desks.{Contents, key_of, open_of}
use Rattle.au_txn.specs.Rows.{row_at}
use Rattle.au_txn.specs.Transactions.{IsUnderOther, laid_over}
use Rattle.au_world.specs.Inside.{IsAloneUnder}
use Rattle.au_world.proofs.LookUps.{each_of}

module _ (desk : Contents) (client : ClientNo) (name : TableName) (lines : List Line)
    (found : (line : Line) → row_at name line.0 (laid_over desk.rows (open_of desk client)) ≡ Some line.1 → Contains lines line)
    (alone : AllByRecursion (IsAloneUnder desk client name) lines) where
  none_at : (row other : RowNo) (key : List Cell) (o : Option (List Cell)) → row_at name row (laid_over desk.rows (open_of desk client)) ≡ o → HasKey (key_of name desk.tables) key o
      → ¬ IsUnderOther (key_of name desk.tables) key name (laid_over desk.rows (open_of desk client)) row other
  none_at row other key None is has = absurd has
  none_at row other key (Some cells) is has = each_of (IsAloneUnder desk client name) lines alone (row, cells) (found (row, cells) is) key other has

  pub none_under : (row other : RowNo) (key : List Cell) → HasKey (key_of name desk.tables) key (row_at name row (laid_over desk.rows (open_of desk client)))
      → ¬ IsUnderOther (key_of name desk.tables) key name (laid_over desk.rows (open_of desk client)) row other
  none_under row other key has = none_at row other key (row_at name row (laid_over desk.rows (open_of desk client))) refl has
