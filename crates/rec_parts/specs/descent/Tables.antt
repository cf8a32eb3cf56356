-- How tables and rows are read.
use Rattle.std.specs.Prelude.{ℕ, ℤ, List, length, nat_le, ◌==◌, Option, Some, None, if◌then◌else◌}
use Rattle.std.specs.Int.{w16, w32, w64, cast_signed}
use Rattle.std.specs.Str.{is_utf8}
use Rattle.au_base.specs.Limits.{LAST_MOMENT}
use Rattle.au_base.specs.declared.cell.Cell.{Cell}
use Rattle.au_base.specs.declared.cell.Cell.TheVariants.{Null, Num, Text, Moment}
use Rattle.au_base.specs.declared.numbers.RowNo.{RowNo}
use Rattle.au_base.specs.declared.table.Column.{Column}
use Rattle.au_base.specs.declared.table.ColumnKind.{ColumnKind}
use Rattle.au_base.specs.declared.table.ColumnKind.TheVariants as kinds
use Rattle.rec_parts.specs.descent.Reading.{Behind, Front, behind, byte_first, coded_first, counted_first, long_first, made_first, no_other, nothing_first, number_first, pair_first, tagged_first, tested_first}
use Rattle.rec_parts.specs.descent.Parts.{name_first, truth_first}

abbrev pub column_kind_with : ℕ → Option ColumnKind
column_kind_with code =
    if code == 1 then Some kinds.Number
    else (if code == 2 then Some kinds.Text
    else (if code == 3 then Some kinds.Moment
    else None))

unfoldable pub column_kind_first : Front ColumnKind
column_kind_first = coded_first column_kind_with

unfoldable pub column_first : Front Column
column_first = made_first (pair_first name_first (pair_first column_kind_first (pair_first (number_first w16) truth_first)))
    (λ x. record { name = x.0; kind = x.1.0; size = x.1.1.0; not_null = x.1.1.1 })

unfoldable pub columns_first : Front (List Column)
columns_first = counted_first byte_first column_first

unfoldable pub places_first : Front (List ℕ)
places_first = counted_first byte_first byte_first

unfoldable pub integer_first : Front ℤ
integer_first = made_first (number_first w64) (cast_signed w64)

unfoldable pub cell_text_first : Front (List ℕ)
cell_text_first = tested_first (tested_first (long_first (number_first w16)) is_utf8) (λ bytes. nat_le 1 (length bytes))

unfoldable pub moment_first : Front ℕ
moment_first = tested_first (number_first w64) (λ n. nat_le n LAST_MOMENT)

unfoldable pub cell_behind : Behind Cell
cell_behind =
    behind 0 nothing_first (λ x. Null)
    (behind 1 integer_first Num
    (behind 2 cell_text_first Text
    (behind 3 moment_first Moment
    no_other)))

unfoldable pub cell_first : Front Cell
cell_first = tagged_first cell_behind

unfoldable pub cells_first : Front (List Cell)
cells_first = counted_first byte_first cell_first

unfoldable pub row_number_first : Front RowNo
row_number_first = made_first (number_first w32) (λ n. record { 0 = n })
