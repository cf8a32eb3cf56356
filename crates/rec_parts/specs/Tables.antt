-- How tables and rows are spelled: columns, keys and cells.
use Rattle.std.specs.Prelude.{ℕ, ℤ, FitsSigned, List, [], ◌∷◌, length, nat_le, ⊤}
use Rattle.std.specs.Int.{w16, w32, w64, cast_unsigned, to_be_bytes}
use Rattle.std.specs.Str.{IsUtf8}
use Rattle.au_base.specs.Limits.{LAST_MOMENT}
use Rattle.au_base.specs.declared.cell.Cell.{Cell}
use Rattle.au_base.specs.declared.cell.Cell.TheVariants.{Null, Num, Text, Moment}
use Rattle.au_base.specs.declared.numbers.RowNo.{RowNo}
use Rattle.au_base.specs.declared.table.Column.{Column}
use Rattle.au_base.specs.declared.table.ColumnKind.{ColumnKind}
use Rattle.au_base.specs.declared.table.ColumnKind.TheVariants as kinds
use Rattle.rec_parts.specs.Spelling.{Spelling, by_parts, byte, coded, counted, long, number, only, pair, such_that}
use Rattle.rec_parts.specs.Parts.{name, truth}

-- the kind of a column: 1 for a number, 2 for a text, 3 for a moment
abbrev pub column_kind_code : ColumnKind → ℕ
column_kind_code kinds.Number = 1
column_kind_code kinds.Text = 2
column_kind_code kinds.Moment = 3

unfoldable pub column_kind : Spelling ColumnKind
column_kind = coded column_kind_code

-- a column: its name, its kind, its size in two bytes, and whether it is NOT NULL
unfoldable pub column : Spelling Column
column = by_parts (pair name (pair column_kind (pair (number w16) truth))) (λ c. (c.name, (c.kind, (c.size, c.not_null))))

-- up to 255 columns
unfoldable pub columns : Spelling (List Column)
columns = counted byte column

-- the places of the key's columns, from 0, a byte each
unfoldable pub places : Spelling (List ℕ)
places = counted byte byte

-- a whole number in two's complement, in eight bytes
unfoldable pub integer : Spelling ℤ
integer = record { spelled = λ z. to_be_bytes w64 (cast_unsigned w64 z); IsSpellable = FitsSigned w64 }

-- the text of a cell: its length in two bytes, and its bytes, which are UTF-8 and at least one
unfoldable pub cell_text : Spelling (List ℕ)
cell_text = such_that (only (long (number w16)) IsUtf8) (λ bytes. nat_le 1 (length bytes))

-- a moment up to the end of the year 9999
unfoldable pub moment : Spelling ℕ
moment = such_that (number w64) (λ n. nat_le n LAST_MOMENT)

-- a cell, behind the sign of its kind: 0 for NULL
abbrev pub cell_spelled : Cell → List ℕ
cell_spelled Null = 0 ∷ []
cell_spelled (Num n) = 1 ∷ integer.spelled n
cell_spelled (Text t) = 2 ∷ cell_text.spelled t
cell_spelled (Moment m) = 3 ∷ moment.spelled m

abbrev pub IsCellSpellable : Cell → Type 0
IsCellSpellable Null = ⊤
IsCellSpellable (Num n) = integer.IsSpellable n
IsCellSpellable (Text t) = cell_text.IsSpellable t
IsCellSpellable (Moment m) = moment.IsSpellable m

unfoldable pub cell : Spelling Cell
cell = record { spelled = cell_spelled; IsSpellable = IsCellSpellable }

-- up to 255 cells
unfoldable pub cells : Spelling (List Cell)
cells = counted byte cell

-- the number of a row
unfoldable pub row_number : Spelling RowNo
row_number = by_parts (number w32) (λ r. r.0)
