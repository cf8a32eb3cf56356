-- Rows of a desk, counted and written table by table.
use Rattle.std.proofs.Common.{◌≡◌, ◌∙◌, ℕ, zero, suc, ◌+◌, ◌≤◌, ◌<◌, Bool, true, false, cond, ◌⊎◌, inl, inr, Some, List, [], ◌∷◌, ◌++◌, length, map, take, get_or, refl, sym, ap, subst, arith, append_assoc}
use Rattle.std.specs.Prelude.{IsTrue, flat_map}
use Rattle.std.specs.Borrow.{Bor}
use Rattle.std.specs.List.{AllByRecursion, Contains}
use Rattle.std.specs.Str.{bytes_eq}
use Rattle.std.proofs.lemmas.Bool.{and_parts}
use Rattle.std.proofs.lemmas.List.{append-nil, length-append, map-append, take_all, take_more}
use Rattle.std.proofs.lemmas.List.Concat.{flat_map-append}
use Rattle.std.proofs.lemmas.List.Elements.{All-contains, All-from_recursion}
use Rattle.std.proofs.lemmas.Slice.Eq.{bytes_eq-Decides}
use Rattle.au_base.specs.declared.cell.Cell.{Cell}
use Rattle.au_base.specs.declared.numbers.RowNo.{RowNo}
use Rattle.au_base.specs.declared.table.TableName.{TableName}
use Rattle.au_base.specs.Sameness.{same_table}
use Rattle.au_entries.specs.declared.change.Change.{Change}
use Rattle.au_entries.specs.declared.table.Table.{Table}
use Rattle.au_entries.specs.Changing.{KeptRow}
use Rattle.au_entries.specs.Imaging.{row_change}
use Rattle.au_rows.specs.Held.{lent}
use Rattle.au_rows.specs.declared.table.Table.{Table as OpenTable}
use Rattle.au_txn.specs.declared.change.RowChange.{RowChange}
use Rattle.au_txn.specs.Desks.{contents_of, is_open}
use Rattle.au_txn.specs.Rows.{Row, rows_in, triple_of}
use Rattle.au_txn.specs.Transactions.{laid_over, view}
use Rattle.rec_codec.specs.Changes.{IsChangeSpellable}
use Rattle.rec_codec.specs.Images.{WritesJoin, Written, Wrote}
use Rattle.au_image.specs.Image.{open_table}
use Rattle.au_image.specs.descent.Rows.{lent_change, row_of, rows_by_tables, rows_of}
use Rattle.au_image.proofs.Pieces.{all_behind, all_front, both_changes, length_mapped}

-- ---- what is seen of a table

same_name : (a b : TableName) → same_table a b ≡ true → a ≡ b
same_name a b same =
    let parts = and_parts (bytes_eq a.owner b.owner) (bytes_eq a.name b.name) same in
    let owner = (bytes_eq-Decides a.owner b.owner).0 parts.0 in
    let name = (bytes_eq-Decides a.name b.name).0 parts.1 in
    ap (λ (o : List ℕ). record { owner = o; name = a.name }) owner ∙ ap (λ (n : List ℕ). record { owner = b.owner; name = n }) name

row_at : (table : TableName) (row : Row) (rows : List Row) (b : Bool) → same_table row.table table ≡ b → map (row_of table) (map contents_of rows) ≡ map triple_of rows
    → map (row_of table) (map contents_of (cond b (row ∷ rows) rows)) ≡ map triple_of (cond b (row ∷ rows) rows)
row_at table row rows true is more =
    ap (λ (t : TableName). (t, row.number, row.cells) ∷ map (row_of table) (map contents_of rows)) (sym (same_name row.table table is)) ∙ ap (λ (rest : List KeptRow). triple_of row ∷ rest) more
row_at table row rows false is more = more

-- the rows of a table, by their numbers and cells under its name
named_rows : (table : TableName) (rows : List Row) → map (row_of table) (map contents_of (rows_in table rows)) ≡ map triple_of (rows_in table rows)
named_rows table [] = refl
named_rows table (row ∷ rows) = row_at table row (rows_in table rows) (same_table row.table table) refl (named_rows table rows)

-- what a client sees of a table are its rows, of those that the client sees
pub seen_rows : (table : TableName) (rows : List Row) (changes : List RowChange) (seen : List (RowNo × List Cell)) → seen ≡ map contents_of (view rows changes table)
    → map (row_of table) seen ≡ map triple_of (rows_in table (laid_over rows changes))
seen_rows table rows changes seen is = ap (map (row_of table)) is ∙ named_rows table (laid_over rows changes)

-- rows that are lent
abbrev Lent : Type 0
Lent = List (RowNo × Bor (List Cell))

puts_lent : (table : TableName) (rows : Lent) → map (lent_change table) rows ≡ map row_change (map (row_of table) (map lent rows))
puts_lent table [] = refl
puts_lent table (row ∷ rows) = ap (λ (rest : List Change). lent_change table row ∷ rest) (puts_lent table rows)

pub lent_puts : (table : Table) (rows : List Row) (changes : List RowChange) (seen : Lent) → map lent seen ≡ map contents_of (view rows changes table.name)
    → map (lent_change table.name) seen ≡ map row_change (rows_of (laid_over rows changes) table)
lent_puts table rows changes seen is = puts_lent table.name seen ∙ ap (map row_change) (seen_rows table.name rows changes (map lent seen) is)

pub lent_count : (table : Table) (rows : List Row) (changes : List RowChange) (seen : Lent) → map lent seen ≡ map contents_of (view rows changes table.name)
    → length seen ≡ length (rows_of (laid_over rows changes) table)
lent_count table rows changes seen is =
    sym (length_mapped lent seen) ∙ sym (length_mapped (row_of table.name) (map lent seen)) ∙ ap length (seen_rows table.name rows changes (map lent seen) is)

-- ---- all rows are those of the tables

by_tables : (rows : List Row) (tables : List Table) → rows_by_tables rows tables ≡ map triple_of (flat_map (λ (table : OpenTable). rows_in table.name rows) (map open_table tables))
by_tables rows [] = refl
by_tables rows (table ∷ tables) =
    ap (λ (rest : List KeptRow). rows_of rows table ++ rest) (by_tables rows tables)
    ∙ sym (map-append triple_of (rows_in table.name rows) (flat_map (λ (other : OpenTable). rows_in other.name rows) (map open_table tables)))

pub all_rows : (tables : List Table) (opened : List OpenTable) (rows : List Row) → opened ≡ map open_table tables → flat_map (λ (table : OpenTable). rows_in table.name rows) opened ≡ rows
    → rows_by_tables rows tables ≡ map triple_of rows
all_rows tables opened rows is all =
    by_tables rows tables
    ∙ ap (λ (ts : List OpenTable). map triple_of (flat_map (λ (table : OpenTable). rows_in table.name rows) ts)) (sym is)
    ∙ ap (map triple_of) all

-- a row once changes are laid over others was there, or is one that a change makes
abbrev pub Laid : Type 0
Laid = (rows : List Row) (changes : List RowChange) (row : Row) → Contains (laid_over rows changes) row
    → Contains rows row ⊎ ((change : RowChange) × Contains changes change × (change.table ≡ row.table) × (change.row ≡ row.number) × (change.new ≡ Some row.cells))

-- so it is of an open table where they all are
pub laid_open : Laid → (opened : List OpenTable) (rows : List Row) (changes : List RowChange)
    → ((row : Row) → Contains rows row → IsTrue (is_open row.table opened))
    → AllByRecursion (λ (change : RowChange). IsTrue (is_open change.table opened)) changes
    → (row : Row) → Contains (laid_over rows changes) row → IsTrue (is_open row.table opened)
laid_open law opened rows changes are_open there row has = elim (law rows changes row has) [
  | inl stood ↦ are_open row stood
  | inr made ↦ (let is_there = λ (change : RowChange). IsTrue (is_open change.table opened) in
      subst (λ (table : TableName). IsTrue (is_open table opened)) made.2 (All-contains is_there changes made.0 (All-from_recursion is_there changes there) made.1))
]

-- ---- one table more

one_more : (rows : List Row) (tables : List Table) (i : ℕ) (table : Table) → i < length tables → table ≡ get_or tables i table
    → rows_by_tables rows (take (i + 1) tables) ≡ rows_by_tables rows (take i tables) ++ rows_of rows table
one_more rows tables i table within is =
    ap (rows_by_tables rows) (take_more tables i table within ∙ ap (λ (t : Table). take i tables ++ t ∷ []) (sym is))
    ∙ flat_map-append (rows_of rows) (take i tables) (table ∷ [])
    ∙ ap (λ (rest : List KeptRow). rows_by_tables rows (take i tables) ++ rest) (append-nil (rows_of rows table))

-- what stands behind the rows of the tables so far: those of the next table, and more
behind_them : (rows : List Row) (tables : List Table) (i : ℕ) (table : Table) → i < length tables → table ≡ get_or tables i table
    → (rest : List KeptRow) × (rows_by_tables rows tables ≡ rows_by_tables rows (take i tables) ++ (rows_of rows table ++ rest))
behind_them rows [] i table within is = absurd (omega arith)
behind_them rows (t ∷ tables) zero table within is = (rows_by_tables rows tables, ap (λ (u : Table). rows_of rows u ++ rows_by_tables rows tables) (sym is))
behind_them rows (t ∷ tables) (suc i) table within is =
    let more = behind_them rows tables i table (omega arith) is in
    (more.0, ap (λ (rest : List KeptRow). rows_of rows t ++ rest) more.1 ∙ sym (append_assoc (rows_of rows t) (rows_by_tables rows (take i tables)) (rows_of rows table ++ more.0)))

pub count_more : (rows : List Row) (tables : List Table) (i : ℕ) (table : Table) (before here sum : ℕ) → i < length tables → table ≡ get_or tables i table
    → before ≡ length (rows_by_tables rows (take i tables)) → here ≡ length (rows_of rows table) → sum ≡ before + here → sum ≡ length (rows_by_tables rows (take (i + 1) tables))
count_more rows tables i table before here sum within is one two both =
    let joined = ap length (one_more rows tables i table within is) in
    let lengths = length-append (rows_by_tables rows (take i tables)) (rows_of rows table) in
    omega arith

pub count_all : (rows : List Row) (tables : List Table) (i n : ℕ) → length tables ≤ i → n ≡ length (rows_by_tables rows (take i tables)) → n ≡ length (rows_by_tables rows tables)
count_all rows tables i n past is = is ∙ ap (λ (ts : List Table). length (rows_by_tables rows ts)) (take_all i tables past)

-- the changes of tables so far
abbrev Puts : List Row → List Table → List Change
Puts rows tables = map row_change (rows_by_tables rows tables)

pub table_left : (rows : List Row) (tables : List Table) (i : ℕ) (table : Table) (a b : Written) → i < length tables → table ≡ get_or tables i table
    → length (rows_by_tables rows tables) ≤ a.changes → Wrote a b (Puts rows (take i tables)) [] → length (rows_of rows table) ≤ b.changes
table_left rows tables i table a b within is few wrote =
    let behind = behind_them rows tables i table within is in
    let all = ap length behind.1 in
    let one = length-append (rows_by_tables rows (take i tables)) (rows_of rows table ++ behind.0) in
    let two = length-append (rows_of rows table) behind.0 in
    let mapped = length_mapped row_change (rows_by_tables rows (take i tables)) in
    let left = wrote.changes_left in
    omega arith

pub table_spelled : (rows : List Row) (tables : List Table) (i : ℕ) (table : Table) → i < length tables → table ≡ get_or tables i table
    → AllByRecursion IsChangeSpellable (Puts rows tables) → AllByRecursion IsChangeSpellable (map row_change (rows_of rows table))
table_spelled rows tables i table within is all =
    let behind = behind_them rows tables i table within is in
    let split : Puts rows tables ≡ Puts rows (take i tables) ++ (map row_change (rows_of rows table) ++ map row_change behind.0) =
    ap (map row_change) behind.1 ∙ map-append row_change (rows_by_tables rows (take i tables)) (rows_of rows table ++ behind.0)
    ∙ ap (λ (rest : List Change). Puts rows (take i tables) ++ rest) (map-append row_change (rows_of rows table) behind.0) in
    all_front IsChangeSpellable (map row_change (rows_of rows table)) (map row_change behind.0)
    (all_behind IsChangeSpellable (Puts rows (take i tables)) _ (subst (AllByRecursion IsChangeSpellable) split all))

pub table_written : (laws : WritesJoin) (rows : List Row) (tables : List Table) (i : ℕ) (table : Table) (a b c : Written) → i < length tables → table ≡ get_or tables i table
    → Wrote a b (Puts rows (take i tables)) [] → Wrote b c (map row_change (rows_of rows table)) [] → Wrote a c (Puts rows (take (i + 1) tables)) []
table_written laws rows tables i table a b c within is before here =
    subst (λ (cs : List Change). Wrote a c cs [])
    (sym (map-append row_change (rows_by_tables rows (take i tables)) (rows_of rows table)) ∙ ap (map row_change) (sym (one_more rows tables i table within is)))
    (both_changes laws a b c (Puts rows (take i tables)) (map row_change (rows_of rows table)) before here)

pub tables_written : (rows : List Row) (tables : List Table) (i : ℕ) (a b : Written) → length tables ≤ i → Wrote a b (Puts rows (take i tables)) [] → Wrote a b (Puts rows tables) []
tables_written rows tables i a b past wrote = subst (λ (ts : List Table). Wrote a b (Puts rows ts) []) (take_all i tables past) wrote
