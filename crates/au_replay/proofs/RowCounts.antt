-- The rows of a table are as many as their numbers, and no more than the numbers that the table uses.
use Rattle.std.proofs.Common.{◌≡◌, ◌≤◌, ℕ, suc, Bool, true, false, not, cond, inl, inr, List, [], ◌∷◌, length, map, refl, sym, ap, subst, ◌∙◌, arith, Some}
use Rattle.std.specs.Prelude.{◌==◌, is_some, ⊤}
use Rattle.std.specs.List.{Contains, filter, list_all}
use Rattle.std.proofs.lemmas.Bool.{and_parts, ne_eqb}
use Rattle.std.proofs.lemmas.Bool.Decides.{nat_tests}
use Rattle.au_base.specs.OrderLaws.{fields_irreflexive}
use Rattle.au_base.specs.Order.{fields_before}
use Rattle.au_base.specs.Sameness.{same_table}
use Rattle.au_base.specs.declared.cell.Cell.{Cell}
use Rattle.au_base.specs.declared.numbers.ClientNo.{ClientNo}
use Rattle.au_base.specs.declared.numbers.RowNo.{RowNo}
use Rattle.au_base.specs.declared.table.TableName.{TableName}
use Rattle.au_entries.specs.Changing.{KeptRow}
use Rattle.au_txn.specs.declared.change.RowChange.{RowChange}
use Rattle.au_txn.specs.Counts.{AreNumbers}
use Rattle.au_txn.specs.Desks.{contents_of, replayer}
use Rattle.au_txn.specs.Rows.{Row, are_in_order, place_of, row_at, row_before, rows_in as rows_of_table, triple_of}
use Rattle.au_txn.specs.Transactions.{IsNumber, laid_over, names_row, view}
use Rattle.au_replay.specs.Touched.{rows_in}
use Rattle.au_replay.proofs.Found.{same_table-is}
use Rattle.au_replay.proofs.Members.{here, none, split, there}

-- ---- lists of numbers

-- no number stands twice
abbrev Distinct : List RowNo → Type 0
Distinct [] = ⊤
Distinct (n ∷ ns) = (Contains ns n → ⊥) × Distinct ns

abbrev other_numbers : RowNo → List RowNo → List RowNo
other_numbers n ns = filter (λ (m : RowNo). not (m.0 == n.0)) ns

no_more_at : (b : Bool) (m : RowNo) (rest ns : List RowNo) → length rest ≤ length ns → length (cond (not b) (m ∷ rest) rest) ≤ suc (length ns)
no_more_at true m rest ns least = omega (arith, least)
no_more_at false m rest ns least = omega (arith, least)

no_more : (n : RowNo) (ns : List RowNo) → length (other_numbers n ns) ≤ length ns
no_more n [] = omega arith
no_more n (m ∷ ns) = no_more_at (m.0 == n.0) m (other_numbers n ns) ns (no_more n ns)

fewer_here : (b : Bool) (m : RowNo) (rest ns : List RowNo) → b ≡ true → length rest ≤ length ns → suc (length (cond (not b) (m ∷ rest) rest)) ≤ suc (length ns)
fewer_here true m rest ns is least = omega (arith, least)
fewer_here false m rest ns is least = absurd (let e : false ≡ true = is in cc)

fewer_there : (b : Bool) (m : RowNo) (rest ns : List RowNo) → suc (length rest) ≤ length ns → suc (length (cond (not b) (m ∷ rest) rest)) ≤ suc (length ns)
fewer_there true m rest ns least = omega (arith, least)
fewer_there false m rest ns least = omega (arith, least)

nat_same : (m n : ℕ) → m ≡ n → (m == n) ≡ true
nat_same m n same = grind (arith, nat_tests)

fewer : (n : RowNo) (ns : List RowNo) → Contains ns n → suc (length (other_numbers n ns)) ≤ length ns
fewer n [] has = absurd (none n has)
fewer n (m ∷ ns) has = elim (split m ns n has) [
  | inl same ↦ fewer_here (m.0 == n.0) m (other_numbers n ns) ns (nat_same m.0 n.0 (ap (λ (k : RowNo). k.0) same)) (no_more n ns)
  | inr later ↦ fewer_there (m.0 == n.0) m (other_numbers n ns) ns (fewer n ns later)
]

stays_here : (b : Bool) (m k : RowNo) (rest : List RowNo) → m ≡ k → b ≡ false → Contains (cond (not b) (m ∷ rest) rest) k
stays_here false m k rest same is = subst (λ (z : RowNo). Contains (m ∷ rest) z) same (here m rest)
stays_here true m k rest same is = absurd (let e : true ≡ false = is in cc)

stays_there : (b : Bool) (m k : RowNo) (rest : List RowNo) → Contains rest k → Contains (cond (not b) (m ∷ rest) rest) k
stays_there false m k rest has = there m rest k has
stays_there true m k rest has = has

stays : (n k : RowNo) (ns : List RowNo) → Contains ns k → (k.0 ≡ n.0 → ⊥) → Contains (other_numbers n ns) k
stays n k [] has other = absurd (none k has)
stays n k (m ∷ ns) has other = elim (split m ns k has) [
  | inl same ↦ stays_here (m.0 == n.0) m k (other_numbers n ns) same (ne_eqb m.0 n.0 (λ e. other (ap (λ (x : RowNo). x.0) (sym same) ∙ e)))
  | inr later ↦ stays_there (m.0 == n.0) m k (other_numbers n ns) (stays n k ns later other)
]

number_is : (a b : RowNo) → a.0 ≡ b.0 → a ≡ b
number_is a b same = ap (λ (n : ℕ). record { 0 = n }) same

-- numbers that differ are no more than those among which they stand
at_most : (ms ns : List RowNo) → Distinct ms → ((k : RowNo) → Contains ms k → Contains ns k) → length ms ≤ length ns
at_most [] ns differ all = omega arith
at_most (m ∷ ms) ns differ all =
    let rest = at_most ms (other_numbers m ns) differ.1
    (λ k has. stays m k ns (all k (there m ms k has)) (λ same. differ.0 (subst (λ (z : RowNo). Contains ms z) (number_is k m same) has))) in
    let less = fewer m ns (all m (here m ms)) in
    omega (arith, rest, less)

-- ---- numbers of rows

abbrev numbers_in : TableName → List Row → List RowNo
numbers_in table [] = []
numbers_in table (row ∷ rows) = cond (same_table row.table table) (row.number ∷ numbers_in table rows) (numbers_in table rows)

as_many_at : (b : Bool) (row : KeptRow) (n : RowNo) (rows : List KeptRow) (ns : List RowNo) → length rows ≡ length ns → length (cond b (row ∷ rows) rows) ≡ length (cond b (n ∷ ns) ns)
as_many_at true row n rows ns same = ap suc same
as_many_at false row n rows ns same = same

as_many : (table : TableName) (rows : List Row) → length (rows_in table (map triple_of rows)) ≡ length (numbers_in table rows)
as_many table [] = refl
as_many table (row ∷ rows) = as_many_at (same_table row.table table) (triple_of row) row.number (rows_in table (map triple_of rows)) (numbers_in table rows) (as_many table rows)

abbrev HasRow : TableName → List Row → RowNo → Type 0
HasRow table rows n = (row : Row) × Contains rows row × (row.table ≡ table) × (row.number ≡ n)

later_row : (table : TableName) (row : Row) (rows : List Row) (n : RowNo) → HasRow table rows n → HasRow table (row ∷ rows) n
later_row table row rows n (other, has, same, at) = (other, there row rows other has, same, at)

row_of_at : (b : Bool) (table : TableName) (row : Row) (rows : List Row) (n : RowNo) (ns : List RowNo) → same_table row.table table ≡ b → (Contains ns n → HasRow table rows n)
    → Contains (cond b (row.number ∷ ns) ns) n → HasRow table (row ∷ rows) n
row_of_at true table row rows n ns is more has = elim (split row.number ns n has) [
  | inl same ↦ (row, here row rows, same_table-is row.table table is, same)
  | inr later ↦ later_row table row rows n (more later)
]
row_of_at false table row rows n ns is more has = later_row table row rows n (more has)

-- each of the numbers is that of a row of the table
row_of : (table : TableName) (rows : List Row) (n : RowNo) → Contains (numbers_in table rows) n → HasRow table rows n
row_of table [] n has = absurd (none n has)
row_of table (row ∷ rows) n has = row_of_at (same_table row.table table) table row rows n (numbers_in table rows) refl (row_of table rows n) has

each_of : {X : Type 0} (test : X → Bool) (xs : List X) (x : X) → list_all test xs ≡ true → Contains xs x → test x ≡ true
each_of test [] x all has = absurd (none x has)
each_of test (y ∷ xs) x all has =
    let parts = and_parts (test y) (list_all test xs) all in
    elim (split y xs x has) [
      | inl same ↦ ap test (sym same) ∙ parts.0
      | inr later ↦ each_of test xs x parts.1 later
    ]

-- a row comes before no row of its own place
apart : (a b : Row) → a.table ≡ b.table → a.number ≡ b.number → row_before a b ≡ true → ⊥
apart a b same at before =
    let place : place_of b.table b.number ≡ place_of a.table a.number = ap (λ (t : TableName). place_of t b.number) (sym same) ∙ ap (λ (n : RowNo). place_of a.table n) (sym at) in
    let e : true ≡ false = sym before ∙ ap (fields_before (place_of a.table a.number)) place ∙ fields_irreflexive (place_of a.table a.number) in
    cc

distinct_at : (b : Bool) (n : RowNo) (ns : List RowNo) → (b ≡ true → Contains ns n → ⊥) → Distinct ns → Distinct (cond b (n ∷ ns) ns)
distinct_at true n ns new differ = (new refl, differ)
distinct_at false n ns new differ = differ

distinct : (table : TableName) (rows : List Row) → are_in_order rows ≡ true → Distinct (numbers_in table rows)
distinct table [] ordered = tt
distinct table (row ∷ rows) ordered =
    let parts = and_parts (list_all (row_before row) rows) (are_in_order rows) ordered in
    distinct_at (same_table row.table table) row.number (numbers_in table rows)
    (λ is has. (let (other, among, same, at) = row_of table rows row.number has in
    apart row other (same_table-is row.table table is ∙ sym same) (sym at) (each_of (row_before row) rows other parts.0 among)))
    (distinct table rows parts.1)

-- ---- what is seen of a table

-- rows in order are what they answer
abbrev pub AreFound : Type 0
AreFound = (rows : List Row) (row : Row) → are_in_order rows ≡ true → Contains rows row → row_at row.table row.number rows ≡ Some row.cells

-- a row that no change names answers what it did
abbrev pub AreUntouched : Type 0
AreUntouched = (rows : List Row) (changes : List RowChange) (table : TableName) (number : RowNo) → names_row table number changes ≡ false → row_at table number (laid_over rows changes) ≡ row_at table number rows

used_at : (b : Bool) (rows : List Row) (transactions : ClientNo → List RowChange) (row : Row) → names_row row.table row.number (transactions replayer) ≡ b → AreUntouched
    → row_at row.table row.number (laid_over rows (transactions replayer)) ≡ Some row.cells → IsNumber rows transactions row.table row.number
used_at true rows transactions row named untouched is = inr (replayer, named)
used_at false rows transactions row named untouched is = inl (ap is_some (sym (untouched rows (transactions replayer) row.table row.number named) ∙ is))

-- a table has no more rows, as replay sees them, than it uses numbers
pub seen_few : AreFound → AreUntouched → (rows : List Row) (transactions : ClientNo → List RowChange) (table : TableName) (count last : ℕ)
    → are_in_order (laid_over rows (transactions replayer)) ≡ true → AreNumbers rows transactions table count last
    → length (rows_in table (map triple_of (laid_over rows (transactions replayer)))) ≤ count
seen_few found untouched rows transactions table count last ordered numbers =
    let seen = laid_over rows (transactions replayer) in
    let most = at_most (numbers_in table seen) numbers.numbers (distinct table seen ordered)
    (λ n has. (let (row, among, same, at) = row_of table seen n has in
    (numbers.exact n).1 (subst (λ (t : TableName). IsNumber rows transactions t n) same
    (subst (λ (m : RowNo). IsNumber rows transactions row.table m) at
    (used_at (names_row row.table row.number (transactions replayer)) rows transactions row refl untouched (found seen row ordered among)))))) in
    let same = as_many table seen in
    let counts = numbers.counts in
    omega (arith, most, same, counts)

mapped_count : {X Y : Type 0} (f : X → Y) (xs : List X) → length (map f xs) ≡ length xs
mapped_count f [] = refl
mapped_count f (x ∷ xs) = ap suc (mapped_count f xs)

listed_at : (b : Bool) (a : KeptRow) (row : Row) (kept : List KeptRow) (rows : List Row) → length kept ≡ length rows → length (cond b (a ∷ kept) kept) ≡ length (cond b (row ∷ rows) rows)
listed_at true a row kept rows same = ap suc same
listed_at false a row kept rows same = same

listed : (table : TableName) (rows : List Row) → length (rows_in table (map triple_of rows)) ≡ length (rows_of_table table rows)
listed table [] = refl
listed table (row ∷ rows) = listed_at (same_table row.table table) (triple_of row) row (rows_in table (map triple_of rows)) (rows_of_table table rows) (listed table rows)

-- as many as a view of the table lists
pub view_counts : {Z : Type 0} (lent : Z → RowNo × List Cell) (rows : List Row) (changes : List RowChange) (table : TableName) (seen : List Z) → map lent seen ≡ map contents_of (view rows changes table)
    → length (rows_in table (map triple_of (laid_over rows changes))) ≡ length seen
view_counts lent rows changes table seen is =
    listed table (laid_over rows changes) ∙ sym (mapped_count contents_of (view rows changes table)) ∙ ap length (sym is) ∙ mapped_count lent seen
