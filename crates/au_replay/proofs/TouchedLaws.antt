-- What changes touched is whole where what each of them touched is.
use Rattle.std.proofs.Common.{◌≡◌, ◌≢◌, ◌≤◌, ◌↔◌, ℕ, Bool, true, false, List, [], length, map, refl, sym, ap, subst, ◌∙◌, Option, Some, None, Result, Ok, Err, arith}
use Rattle.std.specs.Prelude.{◌==◌, IfOk, IsTrue}
use Rattle.std.specs.List.{AllByRecursion, Contains}
use Rattle.std.proofs.lemmas.Bool.{and_from, and_parts}
use Rattle.std.proofs.lemmas.Bool.Decides.{nat_tests}
use Rattle.au_base.specs.Limits.{TABLE_COLUMNS, TABLE_ROW_NUMBERS}
use Rattle.au_base.specs.Sameness.{same_table}
use Rattle.au_base.specs.declared.cell.Cell.{Cell}
use Rattle.au_base.specs.declared.numbers.RowNo.{RowNo}
use Rattle.au_base.specs.declared.table.TableName.{TableName}
use Rattle.au_entries.specs.declared.change.Change.{Change}
use Rattle.au_entries.specs.declared.change.Change.TheVariants.{Table, Put}
use Rattle.au_entries.specs.declared.kept.Kept.{Kept}
use Rattle.au_entries.specs.declared.table.Table.{Table as AnyTable}
use Rattle.au_entries.specs.Changing.{KeptRow}
use Rattle.au_entries.specs.Lawful.{FitColumns, IsFounded, IsRowFounded, IsTableFounded, key_of}
use Rattle.au_entries.specs.Replaying.{IsKeptTable, has_table}
use Rattle.au_txn.specs.Rows.{Row, are_in_order, row_at, triple_of}
use Rattle.au_replay.specs.Touched.{AreFew, IsWholeRow, IsWholeWhereTouched, makes_table, puts_into, puts_row, rows_in}
use Rattle.au_replay.specs.descent.Touched.{IsContentWhole, IsPutWhole, IsSeenWhole, IsWholeBy}
use Rattle.au_replay.proofs.Alone.{AreWithin, mapped_to, places_within}
use Rattle.au_replay.proofs.Found.{same_table-is, same_table-to}
use Rattle.au_replay.proofs.KeptTables.{IsOnly, none_kept}
use Rattle.au_replay.proofs.Members.{all_at, all_of, any_from, any_to, mapped}
use Rattle.au_replay.proofs.RowCounts.{AreFound}
use Rattle.au_replay.proofs.RowsSeen.{StandsThere}

nat_same : (m n : ℕ) → m ≡ n → (m == n) ≡ true
nat_same m n same = grind (arith, nat_tests)

nat_is : (m n : ℕ) → (m == n) ≡ true → m ≡ n
nat_is m n is = grind (arith, nat_tests)

number_is : (a b : RowNo) → a.0 ≡ b.0 → a ≡ b
number_is a b same = ap (λ (n : ℕ). record { 0 = n }) same

-- ---- change by change

row_by : (kept : Kept) (change : Change) → IsWholeBy kept change → (row : KeptRow) → Contains kept.rows row → puts_row row.0 row.1 change ≡ true → IsWholeRow kept row
row_by kept (Put table number cells) whole row has puts =
    let parts = and_parts (same_table table row.0) (number.0 == row.1.0) puts in
    whole.row row has (sym (same_table-is table row.0 parts.0)) (sym (number_is number row.1 (nat_is number.0 row.1.0 parts.1)))
row_by kept _ whole row has puts = absurd (let e : false ≡ true = puts in cc)

columns_by : (kept : Kept) (change : Change) → IsWholeBy kept change → (table : AnyTable) → Contains kept.tables table → makes_table table.name change ≡ true → length table.columns ≤ TABLE_COLUMNS
columns_by kept (Table name columns key) whole table has makes = whole table (has, sym (same_table-is name table.name makes))
columns_by kept _ whole table has makes = absurd (let e : false ≡ true = makes in cc)

counts_by : (kept : Kept) (change : Change) → IsWholeBy kept change → (table : AnyTable) → Contains kept.tables table → puts_into table.name change ≡ true → length (rows_in table.name kept.rows) ≤ TABLE_ROW_NUMBERS
counts_by kept (Put name number cells) whole table has puts =
    let same : name ≡ table.name = same_table-is name table.name puts in
    subst (λ (n : TableName). length (rows_in n kept.rows) ≤ TABLE_ROW_NUMBERS) same (whole.count table (has, sym same))
counts_by kept _ whole table has puts = absurd (let e : false ≡ true = puts in cc)

pub touched_from : (kept : Kept) (changes : List Change) → AreFew kept → AllByRecursion (IsWholeBy kept) changes → IsWholeWhereTouched changes kept
touched_from kept changes few all = record {
  rows = λ row has any. (let (change, among, puts) = any_from (puts_row row.0 row.1) changes any in row_by kept change (all_at (IsWholeBy kept) changes all change among) row has puts);
  columns = λ table has any. (let (change, among, makes) = any_from (makes_table table.name) changes any in columns_by kept change (all_at (IsWholeBy kept) changes all change among) table has makes);
  counts = λ table has any. (let (change, among, puts) = any_from (puts_into table.name) changes any in counts_by kept change (all_at (IsWholeBy kept) changes all change among) table has puts);
  few = few;
}

by_touched : (kept : Kept) (changes : List Change) → IsWholeWhereTouched changes kept → (change : Change) → Contains changes change → IsWholeBy kept change
by_touched kept changes whole (Put table number cells) among = record {
  row = λ row has same at.
      whole.rows row has (any_to (puts_row row.0 row.1) changes (Put table number cells) among
      (and_from _ _ (same_table-to table row.0 (sym same)) (nat_same number.0 row.1.0 (ap (λ (n : RowNo). n.0) (sym at)))));
  count = λ found at.
      subst (λ (n : TableName). length (rows_in n kept.rows) ≤ TABLE_ROW_NUMBERS) at.1
      (whole.counts found at.0 (any_to (puts_into found.name) changes (Put table number cells) among (same_table-to table found.name (sym at.1))));
}
by_touched kept changes whole (Table name columns key) among =
    λ found at. whole.columns found at.0 (any_to (makes_table found.name) changes (Table name columns key) among (same_table-to name found.name (sym at.1)))
by_touched kept changes whole _ among = tt

pub touched_to : (kept : Kept) (changes : List Change) → IsWholeWhereTouched changes kept → AllByRecursion (IsWholeBy kept) changes
touched_to kept changes whole = all_of (IsWholeBy kept) changes (by_touched kept changes whole)

-- ---- a table that was made

pub few_found : (kept : Kept) (name : TableName) (found : AnyTable) (test : Bool) → IsKeptTable kept name found → IsOnly kept name found → (IsTrue test ↔ (length found.columns ≤ TABLE_COLUMNS))
    → IsTrue test ↔ ((table : AnyTable) → IsKeptTable kept name table → length table.columns ≤ TABLE_COLUMNS)
few_found kept name found test there only tests = (
  λ is table at. subst (λ (t : AnyTable). length t.columns ≤ TABLE_COLUMNS) (sym (only table at.0 at.1)) (tests.0 is),
  λ all. tests.1 (all found there),
)

pub few_none : (kept : Kept) (name : TableName) → has_table kept name ≡ false → IsTrue true ↔ ((table : AnyTable) → IsKeptTable kept name table → length table.columns ≤ TABLE_COLUMNS)
few_none kept name none = (λ is table at. absurd (none_kept kept name table none at), λ all. refl)

-- ---- a row that was put

-- where its table isn't there, the row isn't
pub put_none : (kept : Kept) (name : TableName) (number : RowNo) → IsFounded kept → has_table kept name ≡ false → IsTrue true ↔ IsPutWhole kept name number
put_none kept name number founded none = (
  λ is. record {
    row = λ row has same at. absurd (
        let (table, stands, wide) = (all_at (IsRowFounded kept) kept.rows founded.rows row has).1 in
        none_kept kept name table none (stands.0, stands.1 ∙ same));
    count = λ table at. absurd (none_kept kept name table none at);
  },
  λ whole. refl,
)

abbrev Seen : List Row → AnyTable → RowNo → Option (List Cell)
Seen rows table number = row_at table.name number rows

-- the row that is there is whole where its content is
pub seen_from : AreFound → (kept : Kept) (rows : List Row) → kept.rows ≡ map triple_of rows → are_in_order rows ≡ true → (found : AnyTable) (number : RowNo) → IsOnly kept found.name found
    → length (rows_in found.name kept.rows) ≤ TABLE_ROW_NUMBERS → IsSeenWhole kept.rows found number (Seen rows found number) → IsPutWhole kept found.name number
seen_from answers kept rows are ordered found number only few seen = record {
  row = λ row has same at. (let (own, among, is) = mapped triple_of rows row (subst (λ (rs : List KeptRow). Contains rs row) are has) in
      subst (λ (r : KeptRow). r.0 ≡ found.name → r.1 ≡ number → IsWholeRow kept r) is (at_row own among) same at);
  count = λ table at. few;
}
  where
    content : (own : Row) → Contains rows own → own.table ≡ found.name → own.number ≡ number → IsContentWhole kept.rows found number own.cells
    content own among same at =
        let read : row_at own.table own.number rows ≡ Some own.cells = answers rows own ordered among in
        let by_table : row_at found.name own.number rows ≡ Some own.cells = subst (λ (t : TableName). row_at t own.number rows ≡ Some own.cells) same read in
        let by_number : row_at found.name number rows ≡ Some own.cells = subst (λ (n : RowNo). row_at found.name n rows ≡ Some own.cells) at by_table in
        subst (IsSeenWhole kept.rows found number) by_number seen

    at_row : (own : Row) → Contains rows own → own.table ≡ found.name → own.number ≡ number → IsWholeRow kept (triple_of own)
    at_row own among same at =
        let whole = content own among same at in
        record {
          fits = λ table kept_at. subst (λ (t : AnyTable). FitColumns t.columns own.cells) (sym (only table kept_at.0 (kept_at.1 ∙ same))) whole.fits;
          alone = λ table other kept_at has own_table keyed key.
              (let one : table ≡ found = only table kept_at.0 (kept_at.1 ∙ same) in
              at ∙ whole.alone (subst (λ (t : AnyTable). t.key ≢ []) one keyed) other has (own_table ∙ same) (subst (λ (t : AnyTable). key_of t.key own.cells ≡ key_of t.key other.2) one key));
        }

-- and the other way round
pub seen_to : StandsThere → (kept : Kept) (rows : List Row) → kept.rows ≡ map triple_of rows → (found : AnyTable) (number : RowNo) → Contains kept.tables found
    → IsPutWhole kept found.name number → IsSeenWhole kept.rows found number (Seen rows found number)
seen_to stands kept rows are found number there whole = go (Seen rows found number) refl
  where
    go : (content : Option (List Cell)) → Seen rows found number ≡ content → IsSeenWhole kept.rows found number content
    go None is = tt
    go (Some cells) is =
        let own : Row = record { table = found.name; number = number; cells = cells } in
        let has : Contains kept.rows (found.name, number, cells) = subst (λ (rs : List KeptRow). Contains rs (found.name, number, cells)) (sym are) (mapped_to triple_of rows own (stands rows own is)) in
        let row : IsWholeRow kept (found.name, number, cells) = whole.row (found.name, number, cells) has refl refl in
        record {
          fits = row.fits found (there, refl);
          alone = λ keyed other among same key. row.alone found other (there, refl) among same keyed key;
        }

-- ---- the cells of rows are those of their table

pub founded_within : (kept : Kept) (rows : List Row) → kept.rows ≡ map triple_of rows → IsFounded kept → (found : AnyTable) → Contains kept.tables found → IsOnly kept found.name found
    → (row : Row) → Contains rows row → row.table ≡ found.name → AreWithin found.key row.cells
founded_within kept rows are founded found there only row among same =
    let has : Contains kept.rows (triple_of row) = subst (λ (rs : List KeptRow). Contains rs (triple_of row)) (sym are) (mapped_to triple_of rows row among) in
    let (table, at, wide) = (all_at (IsRowFounded kept) kept.rows founded.rows (triple_of row) has).1 in
    let one : table ≡ found = only table at.0 (at.1 ∙ same) in
    let stands = (all_at (IsTableFounded kept) kept.tables founded.tables found there).3 in
    places_within found.columns found.key row.cells stands.key_stands (subst (λ (t : AnyTable). length row.cells ≡ length t.columns) one wide)

-- ---- answers

pub if_ok_both : {E : Type 0} (A B : Type 0) (answer : Result Bool E) → (A → B) → (B → A) → IfOk answer (λ holds. IsTrue holds ↔ A) → IfOk answer (λ holds. IsTrue holds ↔ B)
if_ok_both A B (Ok test) to from is = (λ yes. to (is.0 yes), λ b. is.1 (from b))
if_ok_both A B (Err e) to from is = is
