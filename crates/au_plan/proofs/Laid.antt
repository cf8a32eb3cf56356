-- Where a row comes from that is seen, and that none has the number 0.
use Rattle.std.proofs.Common.{◌≡◌, ◌≤◌, ◌⊎◌, inl, inr, List, refl, ap, arith}
use Rattle.std.specs.Prelude.{Option, Some, None}
use Rattle.std.specs.List.{Contains}
use Rattle.au_base.specs.declared.cell.Cell.{Cell}
use Rattle.au_base.specs.declared.numbers.ClientNo.{ClientNo}
use Rattle.au_base.specs.declared.numbers.RowNo.{RowNo}
use Rattle.au_base.specs.declared.table.TableName.{TableName}
use Rattle.au_txn.specs.declared.change.RowChange.{RowChange}
use Rattle.au_txn.specs.Desks.{Contents, open_of}
use Rattle.au_txn.specs.Rows.{Row, row_at}
use Rattle.au_txn.specs.Transactions.{laid_over}
use Rattle.au_plan.specs.Inside.{content_of}

-- a row that is seen is a committed one, or a change makes it
abbrev pub Laid : List Row → List RowChange → Type 0
Laid rows own = (row : Row) → Contains (laid_over rows own) row
    → Contains rows row ⊎ ((change : RowChange) × Contains own change × (change.table ≡ row.table) × (change.row ≡ row.number) × (change.new ≡ Some row.cells))

-- what a number answers is a row
abbrev pub Answered : List Row → Type 0
Answered rows = (row : Row) → row_at row.table row.number rows ≡ Some row.cells → Contains rows row

-- row numbers are at least 1
pub record AreNumbered (desk : Contents) (client : ClientNo) : Type 0 where
  pub committed : (row : Row) → Contains desk.rows row → 1 ≤ row.number.0
  pub changed : (change : RowChange) → Contains (open_of desk client) change → 1 ≤ change.row.0

module _ (desk : Contents) (client : ClientNo) (numbered : AreNumbered desk client) (laid : Laid desk.rows (open_of desk client)) (answered : Answered (laid_over desk.rows (open_of desk client))) where
  number_of_row : (row : Row) → Contains (laid_over desk.rows (open_of desk client)) row → 1 ≤ row.number.0
  number_of_row row has = elim (laid row has) [
    | inl old ↦ numbered.committed row old
    | inr made ↦ (let one = numbered.changed made.0 made.1 in let same : made.0.row.0 ≡ row.number.0 = ap (λ (n : RowNo). n.0) made.3 in omega arith)
  ]

  pub no_row_zero : (table : TableName) (number : RowNo) → number.0 ≡ 0 → None ≡ content_of desk client table number
  no_row_zero table number zero = at (content_of desk client table number) refl
    where
      at : (found : Option (List Cell)) → content_of desk client table number ≡ found → None ≡ found
      at None is = refl
      at (Some cells) is =
          let row : Row = record { table = table; number = number; cells = cells } in
          let one : 1 ≤ number.0 = number_of_row row (answered row is) in
          absurd (omega arith)
