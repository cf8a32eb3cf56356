-- The trail as comma-separated values: a line of the names of the columns, and behind it a line a record.
use Rattle.std.specs.Prelude.{ℕ, List, [], ◌++◌, map, min, flat_map}
use Rattle.std.specs.Fmt.{signed_decimal}
use Rattle.au_base.specs.declared.cell.Cell.{Cell}
use Rattle.au_base.specs.declared.cell.Cell.TheVariants.{Null, Num, Text, Moment}
use Rattle.au_base.specs.declared.table.Column.{Column}
use Rattle.au_base.specs.Limits.{LAST_MOMENT}
use Rattle.au_base.specs.Moments.{text_of_moment}
use Rattle.au_entries.specs.declared.trail_record.Record.{Record}
use Rattle.au_audit.specs.TrailRows.{as_row, trail_columns}
use Rattle.au_report.specs.Lines.{line}

-- a cell as a field: NULL is empty, and a moment over the last one is the last
abbrev pub cell_field : Cell → List ℕ
cell_field Null = []
cell_field (Num number) = signed_decimal number
cell_field (Text text) = text
cell_field (Moment moment) = text_of_moment (min moment LAST_MOMENT)

-- a record as fields: the cells of its row
abbrev pub record_fields : Record → List (List ℕ)
record_fields entry = map cell_field (as_row entry)

-- the names of the trail's columns
unfoldable pub column_names : List (List ℕ)
column_names = map (λ (column : Column). column.name) trail_columns

-- the trail as text
abbrev pub trail_text : List Record → List ℕ
trail_text records = line column_names ++ flat_map (λ entry. line (record_fields entry)) records
