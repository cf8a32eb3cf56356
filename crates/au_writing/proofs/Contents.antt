-- Contents of rows: what fits a table's columns, can be written, and can be read.
use Rattle.std.proofs.Common.{◌≡◌, ◌∙◌, inl, inr, ℕ, suc, ◌≤◌, ◌<◌, true, false, List, [], ◌∷◌, length, map, refl, sym, ap, subst, arith}
use Rattle.std.specs.List.{AllByRecursion, Contains, list_all}
use Rattle.std.proofs.lemmas.Bool.{and_parts}
use Rattle.au_base.specs.Cells.{IsSoundCell}
use Rattle.au_base.specs.Limits.{TABLE_COLUMNS}
use Rattle.au_base.specs.Naming.{IsName}
use Rattle.au_base.specs.Order.{fields_before, is_in_order}
use Rattle.au_base.specs.OrderLaws.{fields_irreflexive}
use Rattle.au_base.specs.declared.cell.Cell.{Cell}
use Rattle.au_base.specs.declared.numbers.RowNo.{RowNo}
use Rattle.au_base.specs.declared.table.Column.{Column}
use Rattle.au_base.specs.declared.table.TableName.{TableName}
use Rattle.au_entries.specs.declared.change.Change.TheVariants.{Put}
use Rattle.au_entries.specs.declared.kept.Kept.{Kept}
use Rattle.au_entries.specs.declared.table.Table.{Table}
use Rattle.au_entries.specs.Changing.{table_fields}
use Rattle.au_entries.specs.Imaging.{table_change}
use Rattle.au_entries.specs.Lawful.{FitColumns, IsTableFounded}
use Rattle.au_entries.specs.Replaying.{IsSizeOf, IsTable}
use Rattle.au_expr.specs.Rows.{FitsColumns, Range}
use Rattle.au_expr.specs.Sessions.{IsSoundSession, Session}
use Rattle.au_kept.specs.OpenChanges.{IsSoundChange}
use Rattle.au_txn.specs.Desks.{Contents as Desk}
use Rattle.au_writing.proofs.Fitting.{IsUtf8Cell, fit_good, written, written_utf8}
use Rattle.au_writing.proofs.Lists.{all_at, each_of, none, split}
use Rattle.au_writing.proofs.Seen.{Stand, as_made, tables_spelled}
use Rattle.au_writing.proofs.Shown.{IsCreated}
use Rattle.au_writing.proofs.Values.{Evaluated}
use Rattle.rec_codec.specs.Changes.{IsChangeSpellable, created, put}
use Rattle.rec_parts.specs.Parts.{table}
use Rattle.rec_parts.specs.Tables.{cell, cells, row_number}

-- each column's size is in its kind's range
abbrev pub AreSized : List Column → Type 0
AreSized columns = AllByRecursion (λ (column : Column). IsSizeOf column.kind column.size) columns

-- the content fits the columns, and its texts are UTF-8
pub record IsContent (columns : List Column) (content : List Cell) : Type 0 where
  pub fits : FitColumns columns content
  pub utf8 : AllByRecursion IsUtf8Cell content

fit_length : (columns : List Column) (content : List Cell) → FitColumns columns content → length content ≡ length columns
fit_length [] [] fit = refl
fit_length [] (c ∷ content) fit = absurd fit
fit_length (column ∷ columns) [] fit = absurd fit
fit_length (column ∷ columns) (c ∷ content) fit = ap suc (fit_length columns content fit.1)

-- ---- what can be read of a content

of_kinds : (columns : List Column) (content : List Cell) → AreSized columns → FitColumns columns content → AllByRecursion IsUtf8Cell content → FitsColumns columns content
of_kinds [] [] sized fit utf8 = tt
of_kinds [] (c ∷ content) sized fit utf8 = absurd fit
of_kinds (column ∷ columns) [] sized fit utf8 = absurd fit
of_kinds (column ∷ columns) (c ∷ content) sized fit utf8 = ((fit_good column c sized.0 fit.0 utf8.0).of_kind, of_kinds columns content sized.1 fit.1 utf8.1)

all_sound : (columns : List Column) (content : List Cell) → AreSized columns → FitColumns columns content → AllByRecursion IsUtf8Cell content → AllByRecursion IsSoundCell content
all_sound [] [] sized fit utf8 = tt
all_sound [] (c ∷ content) sized fit utf8 = absurd fit
all_sound (column ∷ columns) [] sized fit utf8 = absurd fit
all_sound (column ∷ columns) (c ∷ content) sized fit utf8 = ((fit_good column c sized.0 fit.0 utf8.0).sound, all_sound columns content sized.1 fit.1 utf8.1)

-- values are evaluated over a content, and over no row
pub over_content : (range : Range) (content : List Cell) (session : Session) → AreSized range.1 → IsContent range.1 content → IsSoundSession session → IsName session.user → Evaluated (range ∷ []) (content ∷ []) session
over_content range content session sized is session_is named = record {
  fits = (of_kinds range.1 content sized is.fits is.utf8, tt);
  sound = (all_sound range.1 content sized is.fits is.utf8, tt);
  utf8 = (is.utf8, tt);
  session_is = session_is;
  named = named;
}

pub over_nothing : (session : Session) → IsSoundSession session → IsName session.user → Evaluated [] [] session
over_nothing session session_is named = record { fits = tt; sound = tt; utf8 = tt; session_is = session_is; named = named }

-- ---- and how it can be written

cells_written : (columns : List Column) (content : List Cell) → AreSized columns → FitColumns columns content → AllByRecursion IsUtf8Cell content → AllByRecursion cell.IsSpellable content
cells_written [] [] sized fit utf8 = tt
cells_written [] (c ∷ content) sized fit utf8 = absurd fit
cells_written (column ∷ columns) [] sized fit utf8 = absurd fit
cells_written (column ∷ columns) (c ∷ content) sized fit utf8 = (written column c sized.0 fit.0 utf8.0, cells_written columns content sized.1 fit.1 utf8.1)

put_written : (name : TableName) (number : RowNo) (content : List Cell) → table.IsSpellable name → row_number.IsSpellable number → length content < 256 → AllByRecursion cell.IsSpellable content → put.IsSpellable (name, (number, content))
unfolding put cells
put_written name number content named numbered few all = (named, (numbered, (few, all)))

put_named : (name : TableName) (number : RowNo) (content : List Cell) → put.IsSpellable (name, (number, content)) → table.IsSpellable name × row_number.IsSpellable number
unfolding put
put_named name number content can = (can.0, can.1.0)

all_utf8 : (content : List Cell) → AllByRecursion cell.IsSpellable content → AllByRecursion IsUtf8Cell content
all_utf8 [] all = tt
all_utf8 (c ∷ content) all = (written_utf8 c all.0, all_utf8 content all.1)

put_utf8 : (name : TableName) (number : RowNo) (content : List Cell) → put.IsSpellable (name, (number, content)) → AllByRecursion IsUtf8Cell content
unfolding put cells
put_utf8 name number content can = all_utf8 content can.1.1.1

created_named : (name : TableName) (columns : List Column) (key : List ℕ) → created.IsSpellable (name, (columns, key)) → table.IsSpellable name
unfolding created
created_named name columns key can = can.0

-- ---- a created table

-- what is so of the table
pub record IsTold (kept : Kept) (name : TableName) (told : Table) : Type 0 where
  pub sized : AreSized told.columns
  pub is_table : IsTable told.columns told.key
  pub few : length told.columns ≤ TABLE_COLUMNS
  pub named : table.IsSpellable name

pub table_told : (kept : Kept) (desk : Desk) (name : TableName) (told : Table) → Stand kept desk → IsCreated kept.tables name told → IsTold kept name told
table_told kept desk name told s c =
    let founded = all_at (IsTableFounded kept) kept.tables s.together.kept_is.lawful.founded.tables told c.has in
    record {
      sized = founded.3.sized;
      is_table = founded.3;
      few = all_at (λ (t : Table). length t.columns ≤ TABLE_COLUMNS) kept.tables s.together.kept_is.whole.few.columns told c.has;
      named = subst (λ (n : TableName). table.IsSpellable n) c.named
          (created_named told.name told.columns told.key (all_at (λ (t : Table). IsChangeSpellable (table_change t)) kept.tables (tables_spelled kept s.together.kept_is.spelled.entries) told c.has));
    }

-- a content of a row of the table can be written
pub content_written : (kept : Kept) (name : TableName) (told : Table) (number : RowNo) (content : List Cell) → IsTold kept name told → row_number.IsSpellable number → IsContent told.columns content → IsChangeSpellable (Put name number content)
content_written kept name told number content t numbered is =
    let size = fit_length told.columns content is.fits in
    let few = t.few in
    put_written name number content t.named numbered (omega (arith, size, few)) (cells_written told.columns content t.sized is.fits is.utf8)

-- what is seen of a row is a content, and its number can be written
pub seen_numbered : (kept : Kept) (name : TableName) (number : RowNo) (content : List Cell) → IsSoundChange kept.tables (as_made name number content) → row_number.IsSpellable number
seen_numbered kept name number content sound = (put_named name number content sound.spelled).1

seen_utf8 : (kept : Kept) (name : TableName) (number : RowNo) (content : List Cell) → IsSoundChange kept.tables (as_made name number content) → AllByRecursion IsUtf8Cell content
seen_utf8 kept name number content sound = put_utf8 name number content sound.spelled

-- one table has one name
behind : (t : Table) (tables : List Table) → list_all (fields_before (table_fields t.name)) (map (λ (other : Table). table_fields other.name) tables) ≡ true → (b : Table) → Contains tables b → t.name ≡ b.name → ⊥
behind t tables before b has same =
    let least = each_of (λ (other : Table). table_fields other.name) (fields_before (table_fields t.name)) tables b before has in
    let e : true ≡ false = sym least ∙ ap (λ (n : TableName). fields_before (table_fields t.name) (table_fields n)) (sym same) ∙ fields_irreflexive (table_fields t.name) in
    cc

one_table : (tables : List Table) → is_in_order fields_before (map (λ (t : Table). table_fields t.name) tables) ≡ true → (a b : Table) → Contains tables a → Contains tables b → a.name ≡ b.name → a ≡ b
one_table [] ordered a b one two same = absurd (none a one)
one_table (t ∷ tables) ordered a b one two same =
    let parts = and_parts (list_all (fields_before (table_fields t.name)) (map (λ (other : Table). table_fields other.name) tables)) _ ordered in
    elim (split t tables a one) [
      | inl first ↦ elim (split t tables b two) [
        | inl other ↦ sym first ∙ other
        | inr later ↦ absurd (behind t tables parts.0 b later (ap (λ (x : Table). x.name) first ∙ same))
      ]
      | inr front ↦ elim (split t tables b two) [
        | inl other ↦ absurd (behind t tables parts.0 a front (ap (λ (x : Table). x.name) other ∙ sym same))
        | inr later ↦ one_table tables parts.1 a b front later same
      ]
    ]

pub seen_content : (kept : Kept) (desk : Desk) (name : TableName) (told : Table) (number : RowNo) (content : List Cell) → Stand kept desk → IsCreated kept.tables name told → IsSoundChange kept.tables (as_made name number content)
    → IsContent told.columns content
seen_content kept desk name told number content s c sound =
    let (t, has, named, fit) = sound.fits in
    record {
      fits = subst (λ (x : Table). FitColumns x.columns content) (one_table kept.tables s.together.kept_is.lawful.ordered.tables t told has c.has (named ∙ sym c.named)) fit;
      utf8 = seen_utf8 kept name number content sound;
    }
