-- Cells that fit their columns, and can be written.
use Rattle.std.proofs.Common.{◌≡◌, ◌≢◌, ◌∙◌, ℕ, ℤ, ◌≤◌, ◌<◌, ◌^◌, Bool, true, false, List, [], ◌∷◌, length, refl, sym, subst, arith}
use Rattle.std.specs.Prelude.{◌&&◌, ⊤, FitsSigned, IsUtf8, nat_abs, nat_le, nat_lt, Option, Some, None}
use Rattle.std.specs.Int.{w64}
use Rattle.std.proofs.Math.Nat.{pow-le-pow_right}
use Rattle.std.proofs.lemmas.Bool.Decides.{nat_tests}
use Rattle.std.proofs.lemmas.Int.{ints}
use Rattle.au_base.specs.Cells.{IsSoundCell}
use Rattle.au_base.specs.Limits.{LAST_MOMENT}
use Rattle.au_base.specs.Codes.{NUMBER_TOO_WIDE, TEXT_TOO_LONG}
use Rattle.au_base.specs.declared.cell.Cell.{Cell}
use Rattle.au_base.specs.declared.cell.Cell.TheVariants.{Null, Num, Text, Moment}
use Rattle.au_base.specs.declared.code.Code.{Code}
use Rattle.au_base.specs.declared.table.Column.{Column}
use Rattle.au_base.specs.declared.table.ColumnKind.{ColumnKind}
use Rattle.au_base.specs.declared.table.ColumnKind.TheVariants as kinds
use Rattle.au_entries.specs.Lawful.{FitsColumn}
use Rattle.au_entries.specs.Replaying.{IsSizeOf}
use Rattle.au_expr.specs.Names.{or_code}
use Rattle.au_expr.specs.Rows.{IsOfKind}
use Rattle.au_modify.specs.Fitting.{fit_code, is_null, is_too_long, is_too_wide}
use Rattle.au_query.specs.Refusals.{where_broken}
use Rattle.rec_parts.specs.Tables.{cell, cell_text, integer, moment}

-- a text is UTF-8
abbrev pub IsUtf8Cell : Cell → Type 0
IsUtf8Cell (Text text) = IsUtf8 text
IsUtf8Cell _ = ⊤

-- a cell of a kind that is sound, and UTF-8 where it is a text
pub record IsGood (kind : ColumnKind) (content : Cell) : Type 0 where
  pub of_kind : IsOfKind kind content
  pub sound : IsSoundCell content
  pub utf8 : IsUtf8Cell content

-- ---- what no code refuses

pub unrefused : (one more : Option Code) → or_code one more ≡ None → (one ≡ None) × (more ≡ None)
unrefused None more is = (refl, is)
unrefused (Some code) more is = absurd (let e : Some code ≡ None = is in cc)

pub unbroken : (broken : Bool) (code : Code) → where_broken broken code ≡ None → broken ≡ false
unbroken false code is = refl
unbroken true code is = absurd (let e : Some code ≡ None = is in cc)

pub record IsFit (column : Column) (content : Cell) : Type 0 where
  pub given : (column.not_null && is_null content) ≡ false
  pub short : is_too_long column content ≡ false
  pub narrow : is_too_wide column content ≡ false

pub fit_of : (code : Code) (column : Column) (content : Cell) → fit_code code column content ≡ None → IsFit column content
fit_of code column content is =
    let one = unrefused (where_broken (column.not_null && is_null content) code) _ is in
    let two = unrefused (where_broken (is_too_long column content) TEXT_TOO_LONG) _ one.1 in
    let three = unrefused (where_broken (is_too_wide column content) NUMBER_TOO_WIDE) _ two.1 in
    record {
      given = unbroken (column.not_null && is_null content) code one.0;
      short = unbroken (is_too_long column content) TEXT_TOO_LONG two.0;
      narrow = unbroken (is_too_wide column content) NUMBER_TOO_WIDE three.0;
    }

-- ---- a good cell that no code refuses fits its column

number_kind : (kind : ColumnKind) (n : ℤ) → IsOfKind kind (Num n) → kind ≡ kinds.Number
number_kind kinds.Number n is = refl
number_kind kinds.Text n is = absurd is
number_kind kinds.Moment n is = absurd is

text_kind : (kind : ColumnKind) (text : List ℕ) → IsOfKind kind (Text text) → kind ≡ kinds.Text
text_kind kinds.Number text is = absurd is
text_kind kinds.Text text is = refl
text_kind kinds.Moment text is = absurd is

moment_kind : (kind : ColumnKind) (m : ℕ) → IsOfKind kind (Moment m) → kind ≡ kinds.Moment
moment_kind kinds.Number m is = absurd is
moment_kind kinds.Text m is = absurd is
moment_kind kinds.Moment m is = refl

pub null_of_kind : (kind : ColumnKind) → IsOfKind kind Null
null_of_kind kinds.Number = tt
null_of_kind kinds.Text = tt
null_of_kind kinds.Moment = tt

and_true : (b : Bool) → (b && true) ≡ false → b ≡ false
and_true true is = is
and_true false is = refl

not_le : (a b : ℕ) → nat_le a b ≡ false → b < a
not_le a b is = grind (arith, nat_tests)

not_lt : (a b : ℕ) → nat_lt a b ≡ false → b ≤ a
not_lt a b is = grind (arith, nat_tests)

pub good_fits : (column : Column) (content : Cell) → IsGood column.kind content → IsFit column content → FitsColumn column content
good_fits column Null good fit = and_true column.not_null fit.given
good_fits column (Num n) good fit = (number_kind column.kind n good.of_kind, not_le (10 ^ column.size) (nat_abs n) fit.narrow)
good_fits column (Text text) good fit = (text_kind column.kind text good.of_kind, good.sound, not_lt column.size (length text) fit.short)
good_fits column (Moment m) good fit = (moment_kind column.kind m good.of_kind, good.sound)

-- ---- what fits a column is good, where a text is UTF-8

kind_of_cell : (kind : ColumnKind) (column : Column) (content : Cell) → kind ≡ column.kind → FitsColumn column content → IsOfKind kind content
kind_of_cell kind column Null same fit = null_of_kind kind
kind_of_cell kind column (Num n) same fit = subst (λ (k : ColumnKind). IsOfKind k (Num n)) (sym (same ∙ fit.0)) tt
kind_of_cell kind column (Text text) same fit = subst (λ (k : ColumnKind). IsOfKind k (Text text)) (sym (same ∙ fit.0)) tt
kind_of_cell kind column (Moment m) same fit = subst (λ (k : ColumnKind). IsOfKind k (Moment m)) (sym (same ∙ fit.0)) tt

wide : (size : ℕ) → size ≤ 18 → 10 ^ size ≤ 1_000_000_000_000_000_000
wide size few = pow-le-pow_right {n = 10} (omega arith) {i = size} {j = 18} few

number_least : (column : Column) (n : ℤ) → IsSizeOf column.kind column.size → FitsColumn column (Num n) → nat_abs n < 1_000_000_000_000_000_000
number_least column n sized fit =
    let few = (subst (λ (k : ColumnKind). IsSizeOf k column.size) fit.0 sized).1 in
    let most = wide column.size few in
    let least = fit.1 in
    omega (arith, most, least)

sound_number : (n : ℤ) → nat_abs n < 1_000_000_000_000_000_000 → IsSoundCell (Num n)
sound_number n least = record { low = grind (arith, ints); high = grind (arith, ints) }

cell_sound : (column : Column) (content : Cell) → IsSizeOf column.kind column.size → FitsColumn column content → IsSoundCell content
cell_sound column Null sized fit = tt
cell_sound column (Num n) sized fit = sound_number n (number_least column n sized fit)
cell_sound column (Text text) sized fit = fit.1
cell_sound column (Moment m) sized fit = fit.1

pub fit_good : (column : Column) (content : Cell) → IsSizeOf column.kind column.size → FitsColumn column content → IsUtf8Cell content → IsGood column.kind content
fit_good column content sized fit utf8 = record { of_kind = kind_of_cell column.kind column content refl fit; sound = cell_sound column content sized fit; utf8 = utf8 }

-- ---- and it can be written

number_written : (n : ℤ) → nat_abs n < 1_000_000_000_000_000_000 → FitsSigned w64 n
number_written n least = grind (arith, ints)

some_bytes : (text : List ℕ) → text ≢ [] → nat_le 1 (length text) ≡ true
some_bytes [] some = absurd (some refl)
some_bytes (byte ∷ text) some = grind (arith, nat_tests)

at_most : (a b : ℕ) → a ≤ b → nat_le a b ≡ true
at_most a b least = grind (arith, nat_tests)

text_written : (column : Column) (text : List ℕ) → IsSizeOf column.kind column.size → FitsColumn column (Text text) → IsUtf8 text → cell_text.IsSpellable text
unfolding cell_text
text_written column text sized fit utf8 =
    let most = (subst (λ (k : ColumnKind). IsSizeOf k column.size) fit.0 sized).1 in
    let least = fit.2 in
    ((omega (arith, most, least), utf8), some_bytes text fit.1)

moment_written : (m : ℕ) → m ≤ LAST_MOMENT → moment.IsSpellable m
unfolding moment
moment_written m least = (omega (arith, least), at_most m LAST_MOMENT least)

pub written : (column : Column) (content : Cell) → IsSizeOf column.kind column.size → FitsColumn column content → IsUtf8Cell content → cell.IsSpellable content
unfolding cell integer
written column Null sized fit utf8 = tt
written column (Num n) sized fit utf8 = number_written n (number_least column n sized fit)
written column (Text text) sized fit utf8 = text_written column text sized fit utf8
written column (Moment m) sized fit utf8 = moment_written m fit.1

-- what can be written is UTF-8
pub written_utf8 : (content : Cell) → cell.IsSpellable content → IsUtf8Cell content
unfolding cell cell_text
written_utf8 Null can = tt
written_utf8 (Num n) can = tt
written_utf8 (Text text) can = can.0.1
written_utf8 (Moment m) can = tt
