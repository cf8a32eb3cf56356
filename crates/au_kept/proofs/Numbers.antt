-- How many row numbers a table uses.
use Rattle.std.proofs.Common.{◌≡◌, ◌∙◌, ◌⊎◌, ◌↔◌, inl, inr, ℕ, ◌≤◌, ◌<◌, Bool, true, false, ◌&&◌, cond, List, [], ◌∷◌, length, map, refl, sym, ap, ap₂, subst, arith}
use Rattle.std.specs.Prelude.{◌==◌, ◌||◌, nat_lt, IsSome, IsTrue, Option, Some, if◌then◌else◌}
use Rattle.std.specs.List.{AllByRecursion, Contains, filter, list_all, list_any}
use Rattle.std.proofs.lemmas.Bool.{and_parts, or_cases}
use Rattle.std.proofs.lemmas.Bool.Decides.{nat_tests}
use Rattle.std.proofs.lemmas.List.{length-map}
use Rattle.au_base.specs.Limits.{TABLE_ROW_NUMBERS}
use Rattle.au_base.specs.Order.{fields_before, is_in_order}
use Rattle.au_base.specs.OrderLaws.{fields_irreflexive}
use Rattle.au_base.specs.Sameness.{same_table}
use Rattle.au_base.specs.declared.cell.Cell.{Cell}
use Rattle.au_base.specs.declared.numbers.ClientNo.{ClientNo}
use Rattle.au_base.specs.declared.numbers.RowNo.{RowNo}
use Rattle.au_base.specs.declared.table.TableName.{TableName}
use Rattle.au_entries.specs.declared.kept.Kept.{Kept}
use Rattle.au_entries.specs.declared.table.Table.{Table}
use Rattle.au_entries.specs.Changing.{KeptRow, row_fields}
use Rattle.au_entries.specs.Lawful.{IsRowFounded}
use Rattle.au_kept.specs.OpenChanges.{AreAmong}
use Rattle.au_kept.proofs.Among.{all_at, any_from, here, there}
use Rattle.au_kept.proofs.Chosen.{AreApart, all_from, filtered_from, no_more, unmapped}
use Rattle.au_kept.proofs.OpenTables.{same_name}
use Rattle.au_txn.specs.declared.change.RowChange.{RowChange}
use Rattle.au_txn.specs.Counts.{AreNumbers, number_before}
use Rattle.au_txn.specs.Rows.{Row, row_at, triple_of}
use Rattle.au_txn.specs.Transactions.{IsNumber, names_row}

pub same_number : (a b : RowNo) → (a.0 == b.0) ≡ true → a ≡ b
same_number a b is = let e : a.0 ≡ b.0 = grind (arith, nat_tests) in ap (λ (n : ℕ). let r : RowNo = record { 0 = n } in r) e

-- the numbers of a table's rows
abbrev pub numbers_of : TableName → List KeptRow → List RowNo
numbers_of table rows = map (λ (row : KeptRow). row.1) (filter (λ (row : KeptRow). same_table row.0 table) rows)

-- ---- rows of a table in order have different numbers

row_apart : (a b : KeptRow) → fields_before (row_fields a.0 a.1) (row_fields b.0 b.1) ≡ true → a.0 ≡ b.0 → a.1 ≡ b.1 → ⊥
row_apart a b before table number =
    let e : true ≡ false =
    sym before ∙ ap₂ (λ (t : TableName) (n : RowNo). fields_before (row_fields a.0 a.1) (row_fields t n)) (sym table) (sym number) ∙ fields_irreflexive (row_fields a.0 a.1) in
    cc

later_at : (row y : KeptRow) (rest : List KeptRow) (table : TableName) (b : Bool) → same_table y.0 table ≡ b → row.0 ≡ table → fields_before (row_fields row.0 row.1) (row_fields y.0 y.1) ≡ true
    → AllByRecursion (λ other. row.1 ≡ other → ⊥) (map (λ (r : KeptRow). r.1) rest) → AllByRecursion (λ other. row.1 ≡ other → ⊥) (map (λ (r : KeptRow). r.1) (cond b (y ∷ rest) rest))
later_at row y rest table true is of before all = (row_apart row y before (of ∙ sym (same_name y.0 table is)), all)
later_at row y rest table false is of before all = all

later_apart : (row : KeptRow) (rows : List KeptRow) (table : TableName) → row.0 ≡ table → list_all (fields_before (row_fields row.0 row.1)) (map (λ (r : KeptRow). row_fields r.0 r.1) rows) ≡ true
    → AllByRecursion (λ other. row.1 ≡ other → ⊥) (numbers_of table rows)
later_apart row [] table of before = tt
later_apart row (y ∷ rows) table of before =
    let parts = and_parts (fields_before (row_fields row.0 row.1) (row_fields y.0 y.1)) _ before in
    later_at row y (filter (λ (r : KeptRow). same_table r.0 table) rows) table (same_table y.0 table) refl of parts.0 (later_apart row rows table of parts.1)

apart_at : (row : KeptRow) (rest : List KeptRow) (table : TableName) (b : Bool) → same_table row.0 table ≡ b
    → (row.0 ≡ table → AllByRecursion (λ other. row.1 ≡ other → ⊥) (map (λ (r : KeptRow). r.1) rest)) → AreApart (map (λ (r : KeptRow). r.1) rest) → AreApart (map (λ (r : KeptRow). r.1) (cond b (row ∷ rest) rest))
apart_at row rest table true is first more = (first (same_name row.0 table is), more)
apart_at row rest table false is first more = more

pub numbers_apart : (rows : List KeptRow) (table : TableName) → is_in_order fields_before (map (λ (r : KeptRow). row_fields r.0 r.1) rows) ≡ true → AreApart (numbers_of table rows)
numbers_apart [] table ordered = tt
numbers_apart (row ∷ rows) table ordered =
    let parts = and_parts (list_all (fields_before (row_fields row.0 row.1)) (map (λ (r : KeptRow). row_fields r.0 r.1) rows)) _ ordered in
    apart_at row (filter (λ (r : KeptRow). same_table r.0 table) rows) table (same_table row.0 table) refl (λ of. later_apart row rows table of parts.0) (numbers_apart rows table parts.1)

-- ---- rows that answer

in_at : (table : TableName) (number : RowNo) (row : Row) (rest : List KeptRow) (other : Option (List Cell)) (b m : Bool) → (row.number.0 == number.0) ≡ m
    → IsSome (if b && m then Some row.cells else other) → (IsSome other → Contains (map (λ (r : KeptRow). r.1) rest) number) → Contains (map (λ (r : KeptRow). r.1) (cond b (triple_of row ∷ rest) rest)) number
in_at table number row rest other true true is some more =
    subst (λ (n : RowNo). Contains (row.number ∷ map (λ (r : KeptRow). r.1) rest) n) (same_number row.number number is) (here row.number (map (λ (r : KeptRow). r.1) rest))
in_at table number row rest other true false is some more = there row.number (map (λ (r : KeptRow). r.1) rest) number (more some)
in_at table number row rest other false m is some more = more some

-- the number of a row that a table has is among its numbers
pub number_in : (table : TableName) (number : RowNo) (rows : List Row) → IsSome (row_at table number rows) → Contains (numbers_of table (map triple_of rows)) number
number_in table number [] some = absurd (let e : false ≡ true = some in cc)
number_in table number (row ∷ rows) some =
    in_at table number row (filter (λ (r : KeptRow). same_table r.0 table) (map triple_of rows)) (row_at table number rows) (same_table row.table table) (row.number.0 == number.0) refl some
    (number_in table number rows)

-- what stands in order among rows is found by its number, as the law has it
abbrev pub Answers : List Row → Type 0
Answers rows = (row : Row) → Contains rows row → row_at row.table row.number rows ≡ Some row.cells

some_of : (o : Option (List Cell)) (cells : List Cell) → o ≡ Some cells → IsSome o
some_of o cells is = subst IsSome (sym is) refl

-- and the other way round
pub number_from : (table : TableName) (number : RowNo) (rows : List Row) → Answers rows → Contains (numbers_of table (map triple_of rows)) number → IsSome (row_at table number rows)
number_from table number rows found has =
    let (kept, among, is) = unmapped (λ (r : KeptRow). r.1) (filter (λ (r : KeptRow). same_table r.0 table) (map triple_of rows)) number has in
    let (stands, of) = filtered_from (λ (r : KeptRow). same_table r.0 table) (map triple_of rows) kept among in
    let (row, there_is, same) = unmapped triple_of rows kept stands in
    let named : row.table ≡ table = ap (λ (r : KeptRow). r.0) same ∙ same_name kept.0 table of in
    let numbered : row.number ≡ number = ap (λ (r : KeptRow). r.1) same ∙ is in
    some_of (row_at table number rows) row.cells (sym (ap₂ (λ (t : TableName) (n : RowNo). row_at t n rows) named numbered) ∙ found row there_is)

-- where the numbers of a table's rows are among so many, it has no more rows
pub rows_few : (limit : ℕ) (table : TableName) (rows : List Row) → is_in_order fields_before (map (λ (r : KeptRow). row_fields r.0 r.1) (map triple_of rows)) ≡ true → Answers rows
    → AreAmong limit (λ number. IsSome (row_at table number rows)) → length (filter (λ (row : KeptRow). same_table row.0 table) (map triple_of rows)) ≤ limit
rows_few limit table rows ordered found (numbers, few, all) =
    let least = no_more (numbers_of table (map triple_of rows)) numbers (numbers_apart (map triple_of rows) table ordered)
    (all_from (Contains numbers) (numbers_of table (map triple_of rows)) (λ number has. all number (number_from table number rows found has))) in
    let same = length-map (filter (λ (row : KeptRow). same_table row.0 table) (map triple_of rows)) (λ (r : KeptRow). r.1) in
    omega (arith, least, same, few)

-- ---- no table has too many rows

nothing_left : (test : KeptRow → Bool) (rows : List KeptRow) (n : ℕ) → list_any test rows ≡ false → length (filter test rows) ≤ n
nothing_left test [] n none = omega arith
nothing_left test (row ∷ rows) n none = left_at (test row) (list_any test rows) none (nothing_left test rows n)
  where
    left_at : (b any : Bool) → (b || any) ≡ false → (any ≡ false → length (filter test rows) ≤ n) → length (cond b (row ∷ filter test rows) (filter test rows)) ≤ n
    left_at true any none more = absurd (let e : true ≡ false = none in cc)
    left_at false any none more = more none

-- a table that isn't kept has no rows
pub each_few : (kept : Kept) → AllByRecursion (IsRowFounded kept) kept.rows → AllByRecursion (λ (table : Table). length (filter (λ (row : KeptRow). same_table row.0 table.name) kept.rows) ≤ TABLE_ROW_NUMBERS) kept.tables
    → (table : TableName) → length (filter (λ (row : KeptRow). same_table row.0 table) kept.rows) ≤ TABLE_ROW_NUMBERS
each_few kept founded few table = few_at (list_any (λ (row : KeptRow). same_table row.0 table) kept.rows) refl
  where
    few_at : (b : Bool) → list_any (λ (row : KeptRow). same_table row.0 table) kept.rows ≡ b → length (filter (λ (row : KeptRow). same_table row.0 table) kept.rows) ≤ TABLE_ROW_NUMBERS
    few_at true is =
        let (row, has, of) = any_from (λ (row : KeptRow). same_table row.0 table) kept.rows is in
        let (numbered, (t, (among, named), long)) = all_at (IsRowFounded kept) kept.rows founded row has in
        subst (λ (name : TableName). length (filter (λ (r : KeptRow). same_table r.0 name) kept.rows) ≤ TABLE_ROW_NUMBERS) (named ∙ same_name row.0 table of)
        (all_at (λ (other : Table). length (filter (λ (r : KeptRow). same_table r.0 other.name) kept.rows) ≤ TABLE_ROW_NUMBERS) kept.tables few t among)
    few_at false is = nothing_left (λ (row : KeptRow). same_table row.0 table) kept.rows TABLE_ROW_NUMBERS is

-- ---- what is told of numbers

-- numbers of which more is so are among as many
pub among_of : (limit : ℕ) (IsSo IsOther : RowNo → Type 0) → ((number : RowNo) → IsOther number → IsSo number) → AreAmong limit IsSo → AreAmong limit IsOther
among_of limit IsSo IsOther back (numbers, few, all) = (numbers, few, λ number is. all number (back number is))

rising_at : (a b : RowNo) → number_before a b ≡ true → a ≡ b → ⊥
rising_at a b before same = let e : nat_lt b.0 b.0 ≡ true = subst (λ (n : RowNo). number_before n b ≡ true) same before in let no : b.0 < b.0 = grind (arith, nat_tests) in omega (arith, no)

rising_all : (a : RowNo) (numbers : List RowNo) → list_all (number_before a) numbers ≡ true → AllByRecursion (λ other. a ≡ other → ⊥) numbers
rising_all a [] before = tt
rising_all a (b ∷ numbers) before = let parts = and_parts (number_before a b) (list_all (number_before a) numbers) before in (rising_at a b parts.0, rising_all a numbers parts.1)

rising_apart : (numbers : List RowNo) → is_in_order number_before numbers ≡ true → AreApart numbers
rising_apart [] rising = tt
rising_apart (a ∷ numbers) rising = let parts = and_parts (list_all (number_before a) numbers) (is_in_order number_before numbers) rising in (rising_all a numbers parts.0, rising_apart numbers parts.1)

pub counted : (rows : List Row) (transactions : ClientNo → List RowChange) (table : TableName) (count last limit : ℕ) → AreNumbers rows transactions table count last
    → AreAmong limit (IsNumber rows transactions table) ↔ (count ≤ limit)
counted rows transactions table count last limit told = (
  λ among.
      let (numbers, few, all) = among in
      let least = no_more told.numbers numbers (rising_apart told.numbers told.rising) (all_from (Contains numbers) told.numbers (λ number has. all number ((told.exact number).0 has))) in
      let counts = told.counts in
      omega (arith, least, counts, few),
  λ few. (told.numbers, (let counts = told.counts in omega (arith, counts, few)), λ number is. (told.exact number).1 is),
)

pub used : (rows : List Row) (transactions : ClientNo → List RowChange) (table : TableName) (limit : ℕ) (changes : List RowChange)
    → AreAmong limit (IsNumber rows transactions table) → ((number : RowNo) → IsTrue (names_row table number changes) → IsNumber rows transactions table number)
    → AreAmong limit (λ number. IsNumber rows transactions table number ⊎ IsTrue (names_row table number changes))
used rows transactions table limit changes (numbers, few, all) named = (
  numbers,
  few,
  λ number is. elim is [
    | inl before ↦ all number before
    | inr names ↦ all number (named number names)
  ],
)

pub one_more : (rows : List Row) (transactions : ClientNo → List RowChange) (table : TableName) (count last limit : ℕ) (change : RowChange) → AreNumbers rows transactions table count last
    → count < limit → AreAmong limit (λ number. IsNumber rows transactions table number ⊎ IsTrue (names_row table number (change ∷ [])))
one_more rows transactions table count last limit change told fewer = (
  change.row ∷ told.numbers,
  (let counts = told.counts in omega (arith, counts, fewer)),
  λ number is. elim is [
    | inl before ↦ there change.row told.numbers number ((told.exact number).1 before)
    | inr names ↦ elim (or_cases (same_table change.table table && (change.row.0 == number.0)) false names) [
      | inl named ↦ (
          let parts = and_parts (same_table change.table table) (change.row.0 == number.0) named in
          subst (λ (n : RowNo). Contains (change.row ∷ told.numbers) n) (same_number change.row number parts.1) (here change.row told.numbers))
      | inr none ↦ absurd (let e : false ≡ true = none in cc)
    ]
  ],
)
