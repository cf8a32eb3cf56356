-- What breaks no rule of a column fits it.
use Rattle.std.proofs.Common.{◌≡◌, ◌≤◌, ◌<◌, ◌^◌, ◌&&◌, ℕ, Bool, true, false, nat_abs, List, length, refl, arith}
use Rattle.std.specs.Prelude.{None, nat_lt, nat_le, ℤ}
use Rattle.std.proofs.lemmas.Bool.Decides.{nat_tests}
use Rattle.au_base.specs.declared.cell.Cell.{Cell}
use Rattle.au_base.specs.declared.cell.Cell.TheVariants as cell
use Rattle.au_base.specs.declared.code.Code.{Code}
use Rattle.au_base.specs.declared.table.Column.{Column}
use Rattle.au_base.specs.declared.table.ColumnKind.{ColumnKind}
use Rattle.au_base.specs.declared.table.ColumnKind.TheVariants as kinds
use Rattle.au_base.specs.Cells.{IsSoundCell}
use Rattle.au_base.specs.Codes.{NUMBER_TOO_WIDE, TEXT_TOO_LONG}
use Rattle.au_entries.specs.Lawful.{FitsColumn}
use Rattle.au_expr.specs.Names.{or_code}
use Rattle.au_expr.specs.Rows.{IsOfKind}
use Rattle.au_modify.specs.Fitting.{fit_code, is_null, is_too_long, is_too_wide}
use Rattle.au_modify.proofs.Known.{neither}
use Rattle.au_query.specs.Refusals.{where_broken}

unbroken : (b : Bool) (code : Code) → where_broken b code ≡ None → b ≡ false
unbroken true code is = absurd (cc)
unbroken false code is = refl

both_false : (b : Bool) → (b && true) ≡ false → b ≡ false
both_false true is = is
both_false false is = refl

not_less : (a b : ℕ) → nat_lt a b ≡ false → b ≤ a
not_less a b is = grind (arith, nat_tests)

not_most : (a b : ℕ) → nat_le a b ≡ false → b < a
not_most a b is = grind (arith, nat_tests)

-- the rules that aren't broken
pub record Keeps (column : Column) (content : Cell) : Type 0 where
  pub given : (column.not_null && is_null content) ≡ false
  pub short : is_too_long column content ≡ false
  pub narrow : is_too_wide column content ≡ false

keeps : (null : Code) (column : Column) (content : Cell) → fit_code null column content ≡ None → Keeps column content
keeps null column content is =
    let a = neither (where_broken (column.not_null && is_null content) null)
    (or_code (where_broken (is_too_long column content) TEXT_TOO_LONG) (or_code (where_broken (is_too_wide column content) NUMBER_TOO_WIDE) None)) is in
    let b = neither (where_broken (is_too_long column content) TEXT_TOO_LONG) (or_code (where_broken (is_too_wide column content) NUMBER_TOO_WIDE) None) a.1 in
    let d = neither (where_broken (is_too_wide column content) NUMBER_TOO_WIDE) None b.1 in
    record { given = unbroken _ null a.0; short = unbroken _ TEXT_TOO_LONG b.0; narrow = unbroken _ NUMBER_TOO_WIDE d.0 }

number_kind : (kind : ColumnKind) (n : ℤ) → IsOfKind kind (cell.Num n) → kind ≡ kinds.Number
number_kind kinds.Number n is = refl
number_kind kinds.Text n is = absurd is
number_kind kinds.Moment n is = absurd is

text_kind : (kind : ColumnKind) (text : List ℕ) → IsOfKind kind (cell.Text text) → kind ≡ kinds.Text
text_kind kinds.Number text is = absurd is
text_kind kinds.Text text is = refl
text_kind kinds.Moment text is = absurd is

moment_kind : (kind : ColumnKind) (m : ℕ) → IsOfKind kind (cell.Moment m) → kind ≡ kinds.Moment
moment_kind kinds.Number m is = absurd is
moment_kind kinds.Text m is = absurd is
moment_kind kinds.Moment m is = refl

fits : (column : Column) (content : Cell) → Keeps column content → IsOfKind column.kind content → IsSoundCell content → FitsColumn column content
fits column cell.Null kept kind sound = both_false column.not_null kept.given
fits column (cell.Num n) kept kind sound = (number_kind column.kind n kind, not_most (10 ^ column.size) (nat_abs n) kept.narrow)
fits column (cell.Text text) kept kind sound = (text_kind column.kind text kind, sound, not_less column.size (length text) kept.short)
fits column (cell.Moment m) kept kind sound = (moment_kind column.kind m kind, sound)

pub what_fits : (null : Code) (column : Column) (content : Cell) → fit_code null column content ≡ None → IsOfKind column.kind content → IsSoundCell content → FitsColumn column content
what_fits null column content is kind sound = fits column content (keeps null column content is) kind sound
