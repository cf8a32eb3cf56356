-- The rows that are asked for fit their tables.
use Rattle.std.proofs.Common.{◌≡◌, Bool, true, false, cond, inl, inr, List, [], ◌∷◌, map, refl, subst}
use Rattle.std.specs.Prelude.{Option, Some, None}
use Rattle.std.specs.List.{Contains, find}
use Rattle.au_base.specs.declared.action.Action.TheVariants as action
use Rattle.au_base.specs.declared.cell.Cell.{Cell}
use Rattle.au_base.specs.declared.numbers.ClientNo.{ClientNo}
use Rattle.au_base.specs.declared.numbers.RowNo.{RowNo}
use Rattle.au_base.specs.declared.table.TableName.{TableName}
use Rattle.au_base.specs.Sameness.{same_table}
use Rattle.au_entries.specs.declared.fine_grained.FgaPolicy.{FgaPolicy}
use Rattle.au_entries.specs.declared.table.Table.{Table}
use Rattle.au_expr.specs.Rows.{FitsColumns}
use Rattle.au_fga.specs.Testing.{FitTable, RowsFit, table_of}
use Rattle.au_txn.specs.declared.change.RowChange.{RowChange}
use Rattle.au_txn.specs.Desks.{Contents, open_of}
use Rattle.au_txn.specs.Rows.{Row}
use Rattle.au_txn.specs.Transactions.{laid_over}
use Rattle.au_world.specs.Sound.{FitsIfThere, FitsTable}
use Rattle.au_plan.specs.Inside.{asked_entry, content_of, contents_of_rows, is_watched}
use Rattle.au_plan.proofs.Laid.{Answered, Laid}
use Rattle.au_plan.proofs.Members.{all_of, here, there}
use Rattle.au_plan.proofs.Elements.{given_from}

-- tables that are the same are one
abbrev pub OneName : Type 0
OneName = (a b : TableName) → same_table a b ≡ true → a ≡ b

-- the contents of a desk fit the tables
pub record Fits (tables : List Table) (desk : Contents) (client : ClientNo) : Type 0 where
  pub committed : (row : Row) → Contains desk.rows row → FitsTable tables row.table row.cells
  pub changed : (change : RowChange) → Contains (open_of desk client) change → FitsIfThere tables change.table change.new

module _ (tables : List Table) (desk : Contents) (client : ClientNo) (one : OneName) (fits : Fits tables desk client) (laid : Laid desk.rows (open_of desk client)) (answered : Answered (laid_over desk.rows (open_of desk client))) where
  row_fits : (row : Row) → Contains (laid_over desk.rows (open_of desk client)) row → FitsTable tables row.table row.cells
  row_fits row has = elim (laid row has) [
    | inl old ↦ fits.committed row old
    | inr made ↦
        let of_table = subst (FitsIfThere tables made.0.table) made.4 (fits.changed made.0 made.1) in
        subst (λ name. FitsTable tables name row.cells) made.2 of_table
  ]

  pub content_fits : (name : TableName) (number : RowNo) (cells : List Cell) → content_of desk client name number ≡ Some cells → FitsTable tables name cells
  content_fits name number cells is =
      let row : Row = record { table = name; number = number; cells = cells } in
      row_fits row (answered row is)

  -- a table that is found is one of the catalogue's, of the name
  found_at : (x : Table) (rest : List Table) (name : TableName) (table : Table) (b : Bool) → same_table x.name name ≡ b
      → (find (λ (t : Table). same_table t.name name) rest ≡ Some table → Contains rest table × (table.name ≡ name))
      → cond b (Some x) (find (λ (t : Table). same_table t.name name) rest) ≡ Some table → Contains (x ∷ rest) table × (table.name ≡ name)
  found_at x rest name table true same more is =
      let e : x ≡ table = cc in
      (subst (λ t. Contains (x ∷ rest) t) e (here x rest), subst (λ (t : Table). t.name ≡ name) e (one x.name name same))
  found_at x rest name table false same more is = let later = more is in (there x rest table later.0, later.1)

  pub found : (rest : List Table) (name : TableName) (table : Table) → find (λ (t : Table). same_table t.name name) rest ≡ Some table → Contains rest table × (table.name ≡ name)
  found [] name table is = absurd (let e : None ≡ Some table = is in cc)
  found (x ∷ rest) name table is = found_at x rest name table (same_table x.name name) refl (found rest name table) is

  rows_fit_at : (name : TableName) (numbers : List RowNo) (table : Option Table) → table_of tables name ≡ table → FitTable table (contents_of_rows desk client name numbers)
  rows_fit_at name numbers None is = tt
  rows_fit_at name numbers (Some table) is =
      let at = found tables name table is in
      all_of (FitsColumns table.columns) (contents_of_rows desk client name numbers) (λ cells has.
      let from = given_from (content_of desk client name) numbers cells has in
      (content_fits name from.element cells from.gives table at.0 at.1).0)

  none_fit : (table : Option Table) → FitTable table []
  none_fit None = tt
  none_fit (Some table) = tt

  asked_fit : (name : TableName) (numbers : List RowNo) (b : Bool) → FitTable (table_of tables name) (cond b (contents_of_rows desk client name numbers) [])
  asked_fit name numbers true = rows_fit_at name numbers (table_of tables name) refl
  asked_fit name numbers false = none_fit (table_of tables name)

  pub all_fit : (policies : List FgaPolicy) (touched : List (TableName × List RowNo)) → RowsFit tables (map (asked_entry policies desk client) touched)
  all_fit policies [] = tt
  all_fit policies (entry ∷ touched) = (asked_fit entry.0 entry.1 (is_watched policies action.Select entry.0), all_fit policies touched)
