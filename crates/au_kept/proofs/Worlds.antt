-- What is sound of what clients see.
use Rattle.std.proofs.Common.{◌≡◌, ◌∙◌, ℕ, ◌≤◌, ◌<◌, ◌^◌, ℤ, true, List, [], ◌∷◌, refl, sym, ap, subst, arith}
use Rattle.std.specs.Prelude.{IsTrue, Option, Some, None, nat_abs, nat_le, length}
use Rattle.std.specs.List.{AllByRecursion, Contains}
use Rattle.std.proofs.Math.Nat.{pow-le-pow_right}
use Rattle.std.proofs.lemmas.Bool.Decides.{nat_tests}
use Rattle.std.proofs.lemmas.Int.{ints}
use Rattle.au_base.specs.Cells.{IsSoundCell}
use Rattle.au_base.specs.Limits.{LAST_MOMENT}
use Rattle.au_base.specs.Numbers.{FitsDigits}
use Rattle.au_base.specs.Sameness.{same_table}
use Rattle.au_base.specs.declared.cell.Cell.{Cell}
use Rattle.au_base.specs.declared.cell.Cell.TheVariants.{Null, Num, Text, Moment}
use Rattle.au_base.specs.declared.numbers.ClientNo.{ClientNo}
use Rattle.au_base.specs.declared.table.Column.{Column}
use Rattle.au_base.specs.declared.table.ColumnKind.{ColumnKind}
use Rattle.au_entries.specs.declared.table.Table.{Table}
use Rattle.au_entries.specs.declared.trail_record.Record.{Record}
use Rattle.au_entries.specs.Lawful.{FitColumns, FitsColumn, IsTableFounded}
use Rattle.au_entries.specs.Replaying.{IsKeptTable, IsSizeOf}
use Rattle.au_kept.specs.Keeping.{Contents, HoldsTogether, desk_of}
use Rattle.au_kept.specs.OpenChanges.{AreSoundIfThere, FitsIfThere, IsSoundChange}
use Rattle.au_kept.proofs.Among.{all_at, any_to}
use Rattle.au_kept.proofs.Chosen.{unmapped}
use Rattle.au_kept.proofs.CommitRows.{fits_table, places_within}
use Rattle.au_kept.proofs.OpenKeys.{keyed_open}
use Rattle.au_kept.proofs.OpenTables.{open_there, same_name_to}
use Rattle.au_txn.specs.declared.change.RowChange.{RowChange}
use Rattle.au_txn.specs.Desks.{is_open, key_of, open_of}
use Rattle.au_txn.specs.Rows.{Row, of_triple}
use Rattle.rec_codec.specs.Records.{origin, trail_record}
use Rattle.rec_parts.specs.Parts.{session, stamp}

abbrev Held : Contents → Type 0
Held contents = HoldsTogether contents.kept (desk_of contents)

-- ---- tables

pub table_open : (contents : Contents) (table : Table) → Held contents → Contains contents.kept.tables table
    → IsTrue (is_open table.name (desk_of contents).tables) × (key_of table.name (desk_of contents).tables ≡ table.key) × AllByRecursion (λ place. place < length table.columns) table.key
table_open contents table h has = (
  open_there table.name contents.kept.tables ∙ any_to (λ (t : Table). same_table t.name table.name) contents.kept.tables table has (same_name_to table.name table.name refl),
  keyed_open contents.kept.tables h.kept_is.lawful.ordered.tables table has,
  places_within table.columns table.key (all_at (IsTableFounded contents.kept) contents.kept.tables h.kept_is.lawful.founded.tables table has).3.key_stands,
)

-- ---- cells

digits_fit : (n : ℤ) → nat_abs n < 1_000_000_000_000_000_000 → FitsDigits n
digits_fit n least = record { low = grind (arith, ints); high = grind (arith, ints) }

wide : (size : ℕ) → size ≤ 18 → 10 ^ size ≤ 1_000_000_000_000_000_000
wide size few = pow-le-pow_right {n = 10} (omega arith) {i = size} {j = 18} few

cell_sound : (column : Column) (cell : Cell) → IsSizeOf column.kind column.size → FitsColumn column cell → IsSoundCell cell
cell_sound column Null sized fit = tt
cell_sound column (Num n) sized fit =
    let few = (subst (λ (k : ColumnKind). IsSizeOf k column.size) fit.0 sized).1 in
    let most = wide column.size few in
    let least = fit.1 in
    digits_fit n (omega (arith, most, least))
cell_sound column (Text text) sized fit = fit.1
cell_sound column (Moment moment) sized fit = fit.1

cells_sound : (columns : List Column) (cells : List Cell) → AllByRecursion (λ (column : Column). IsSizeOf column.kind column.size) columns → FitColumns columns cells → AllByRecursion IsSoundCell cells
cells_sound [] [] sized fit = tt
cells_sound [] (cell ∷ cells) sized fit = absurd fit
cells_sound (column ∷ columns) [] sized fit = absurd fit
cells_sound (column ∷ columns) (cell ∷ cells) sized fit = (cell_sound column cell sized.0 fit.0, cells_sound columns cells sized.1 fit.1)

table_sized : (contents : Contents) (table : Table) → Held contents → Contains contents.kept.tables table → AllByRecursion (λ (column : Column). IsSizeOf column.kind column.size) table.columns
table_sized contents table h has = (all_at (IsTableFounded contents.kept) contents.kept.tables h.kept_is.lawful.founded.tables table has).3.sized

pub row_sound : (contents : Contents) (row : Row) (table : Table) → Held contents → Contains (desk_of contents).rows row → IsKeptTable contents.kept row.table table
    → FitColumns table.columns row.cells × AllByRecursion IsSoundCell row.cells
row_sound contents row table h has is =
    let (triple, stands, same) = unmapped of_triple contents.kept.rows row has in
    let fit : FitColumns table.columns row.cells =
    subst (λ (r : Row). FitColumns table.columns r.cells) same (h.kept_is.whole.fits triple table stands (is.0, is.1 ∙ sym (ap (λ (r : Row). r.table) same))) in
    (fit, cells_sound table.columns row.cells (table_sized contents table h is.0) fit)

sound_if_there : (columns : List Column) (content : Option (List Cell)) → AllByRecursion (λ (column : Column). IsSizeOf column.kind column.size) columns → FitsIfThere columns content → AreSoundIfThere content
sound_if_there columns None sized fit = tt
sound_if_there columns (Some cells) sized fit = cells_sound columns cells sized fit

pub change_sound : (contents : Contents) (client : ClientNo) (change : RowChange) (table : Table) → Held contents → Contains (open_of (desk_of contents) client) change → IsKeptTable contents.kept change.table table
    → FitsIfThere table.columns change.new × AreSoundIfThere change.new
change_sound contents client change table h has is =
    let sound = all_at (IsSoundChange contents.kept.tables) (open_of (desk_of contents) client) (h.changes.each client) change has in
    let fit = fits_table contents.kept.tables h.kept_is.lawful.ordered.tables change sound table is.0 is.1 in
    (fit, sound_if_there table.columns change.new (table_sized contents table h is.0) fit)

-- ---- records

at_most : (n m : ℕ) → nat_le n m ≡ true → n ≤ m
at_most n m test = grind (arith, nat_tests)

abbrev pub IsSoundEntry : Record → Type 0
IsSoundEntry entry = (entry.session.0 ≤ 999_999_999_999_999_999) × (entry.stamp.0 ≤ LAST_MOMENT)

record_sound : (entry : Record) → trail_record.IsSpellable entry → IsSoundEntry entry
unfolding trail_record origin session stamp
record_sound entry can =
    let numbered = can.0.1.0.1 in
    let stamped = can.0.1.1.1.1.0.1 in
    (at_most entry.session.0 999_999_999_999_999_999 numbered, at_most entry.stamp.0 LAST_MOMENT stamped)

pub records_sound : (trail : List Record) → AllByRecursion trail_record.IsSpellable trail → AllByRecursion IsSoundEntry trail
records_sound [] all = tt
records_sound (entry ∷ trail) all = (record_sound entry all.0, records_sound trail all.1)
