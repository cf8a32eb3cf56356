-- What fits a column (SQL Language Reference, "Data Types" and "Constraint"; the codes and their order are this project's
-- profile).
use Rattle.std.specs.Prelude.{◌&&◌, ◌^◌, Bool, true, false, nat_abs, nat_le, nat_lt, ◌∷◌, [], length, Option}
use Rattle.au_base.specs.declared.cell.Cell.{Cell}
use Rattle.au_base.specs.declared.cell.Cell.TheVariants as cell
use Rattle.au_base.specs.declared.code.Code.{Code}
use Rattle.au_base.specs.declared.table.Column.{Column}
use Rattle.au_base.specs.Codes.{NUMBER_TOO_WIDE, TEXT_TOO_LONG}
use Rattle.au_expr.specs.Names.{first}
use Rattle.au_query.specs.Refusals.{where_broken}

abbrev pub is_null : Cell → Bool
is_null cell.Null = true
is_null _ = false

-- a text has more bytes than the column takes
abbrev pub is_too_long : Column → Cell → Bool
is_too_long column (cell.Text text) = nat_lt column.size (length text)
is_too_long column _ = false

-- a number has more digits than the column takes
abbrev pub is_too_wide : Column → Cell → Bool
is_too_wide column (cell.Num number) = nat_le (10 ^ column.size) (nat_abs number)
is_too_wide column _ = false

-- NULL where the column is NOT NULL, which has this code; then 12899; then 1438
abbrev pub fit_code : Code → Column → Cell → Option Code
fit_code null column content =
    first (
    where_broken (column.not_null && is_null content) null
    ∷ where_broken (is_too_long column content) TEXT_TOO_LONG
    ∷ where_broken (is_too_wide column content) NUMBER_TOO_WIDE
    ∷ []
    )
