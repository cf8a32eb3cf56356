-- The two tables that no catalogue has: DUAL (SQL Language Reference, "Selecting from the DUAL Table") and the audit trail
-- (Database Reference, "UNIFIED_AUDIT_TRAIL"). That the records of the trail have numbers from 1, as rows of a table have,
-- is this project's profile.
use Rattle.std.specs.Prelude.{ℕ, false, List, [], ◌∷◌, map, min, codes, if◌then◌else◌}
use Rattle.std.specs.List.{enumerate_from}
use Rattle.au_audit.specs.TrailRows.{as_row}
use Rattle.au_base.specs.declared.cell.Cell.{Cell}
use Rattle.au_base.specs.declared.numbers.RowNo.{RowNo}
use Rattle.au_base.specs.declared.table.Column.{Column}
use Rattle.au_base.specs.declared.table.ColumnKind.TheVariants as kinds
use Rattle.au_base.specs.declared.table.TableName.{TableName}
use Rattle.au_base.specs.BuiltIn.{dual, trail}
use Rattle.au_base.specs.Cells.{text_cell}
use Rattle.au_base.specs.Limits.{LAST_ROW_NUMBER}
use Rattle.au_base.specs.Sameness.{same_table}
use Rattle.au_entries.specs.declared.trail_record.Record.{Record}
use Rattle.au_query.specs.Combos.{Line}
use Rattle.au_world.specs.declared.built_in.TableKind.{TableKind}
use Rattle.au_world.specs.declared.built_in.TableKind.TheVariants.{Dual, Trail, Created}

-- which table the name is of: SYS.DUAL, AUDSYS.UNIFIED_AUDIT_TRAIL, or one that is created
abbrev pub kind_of : TableName → TableKind
kind_of table = if same_table table dual then Dual else (if same_table table trail then Trail else Created)

-- DUAL has one column, DUMMY VARCHAR2(1)
abbrev pub dual_columns : List Column
dual_columns = record { name = codes "DUMMY"; kind = kinds.Text; size = 1; not_null = false } ∷ []

-- and one row, 'X'
abbrev pub dual_rows : List (List Cell)
dual_rows = (text_cell (codes "X") ∷ []) ∷ []

-- the rows that stand for a table of this kind where it is a built-in one: those of DUAL, and each record of the trail as
-- a row
abbrev pub made_rows : List Record → TableKind → List (List Cell)
made_rows records Dual = dual_rows
made_rows records Trail = map as_row records
made_rows records Created = []

-- a number of a row; none is over the last one
abbrev pub number_at : ℕ → RowNo
number_at n = record { 0 = min n LAST_ROW_NUMBER }

abbrev pub numbered_row : ℕ × List Cell → Line
numbered_row row = (number_at row.0, row.1)

-- the rows by their places, from 1
abbrev pub numbered : List (List Cell) → List Line
numbered rows = map numbered_row (enumerate_from 1 rows)
