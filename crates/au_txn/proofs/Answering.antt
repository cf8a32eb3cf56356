-- What rows answer once changes are laid over them, and what keys they then have.
use Rattle.std.proofs.Common.{◌≡◌, ◌≢◌, ◌∙◌, ◌⊎◌, inl, inr, ℕ, Bool, true, false, not, cond, ◌||◌, List, [], ◌∷◌, ◌++◌, flat_map, map, refl, sym, ap, ap₂, subst, arith, Option, None, Some}
use Rattle.std.specs.Prelude.{◌==◌, ◌↔◌}
use Rattle.std.specs.List.{AllByRecursion, Contains}
use Rattle.std.specs.declared.cmp.Ordering.{Ordering}
use Rattle.std.specs.declared.cmp.Ordering.TheVariants.{Less, Equal, Greater}
use Rattle.std.specs.Ordering.{is_lt, nat_cmp, ordering_then}
use Rattle.std.specs.Cmp.Lexicographic.{slice_cmp}
use Rattle.std.proofs.lemmas.Bool.{and_parts}
use Rattle.std.proofs.lemmas.Bool.Decides.{nat_tests}
use Rattle.au_base.specs.declared.cell.Cell.{Cell}
use Rattle.au_base.specs.declared.numbers.RowNo.{RowNo}
use Rattle.au_base.specs.declared.table.TableName.{TableName}
use Rattle.au_base.specs.Order.{fields_before, is_in_order}
use Rattle.au_base.specs.Sameness.{same_table}
use Rattle.au_rows.specs.declared.table.Table.{Table}
use Rattle.au_rows.specs.Held.{HasKey, or_else}
use Rattle.au_txn.specs.declared.change.RowChange.{RowChange}
use Rattle.au_txn.specs.declared.finals.Final.{Final}
use Rattle.au_txn.specs.Desks.{has_name, is_open, table_before}
use Rattle.au_txn.specs.Keys.{KeysDiffer}
use Rattle.au_txn.specs.Rows.{Row, are_in_order, is_in, is_row, laid_all, place_of, row_at, row_before, rows_in, with_content, without}
use Rattle.au_txn.specs.Transactions.{AreFrom, IsUnderOther, is_of_row, laid_over, made, names_row, rows_differ, view}
use Rattle.au_txn.proofs.Histories.{from-same, laid-untouched, laid_over-ordered, last_made, last_made-none, or_before, row_at-laid}
use Rattle.au_txn.proofs.Numbered.{contains-has, has-contains}
use Rattle.au_txn.proofs.Ordered.{Has, all_from, filter-ordered, first-before, has-either, has-left, has-right, joined-ordered, kept as stays, placed-has, rest-ordered, same_sorted, was}
use Rattle.au_txn.proofs.RowOrder.{answered, is_row-is, number-is, row_at-filter, row_at-with, rows_irreflexive, rows_transitive, same_table-is, same_table-self, there}

-- changes after others are of what those leave
pub from-parts : (rows : List Row) (a b : List RowChange) → AreFrom rows (a ++ b) → AreFrom rows a × AreFrom (laid_over rows a) b
from-parts rows [] b from = (tt, from)
from-parts rows (c ∷ cs) b from = let rest = from-parts (with_content c.table c.row c.new rows) cs b from.1 in ((from.0, rest.0), rest.1)

-- a row that changes name has the content of one of them
module _ (t : TableName) (n : RowNo) where
  abbrev Last : List RowChange → Type 0
  Last xs = (x : RowChange) × Has xs x × (x.table ≡ t) × (x.row ≡ n) × (last_made t n xs ≡ Some x.new)

  last-step : (x : RowChange) (xs : List RowChange) (b : Bool) → names_row t n xs ≡ b → (a : Bool) → is_of_row t n x ≡ a → (a || b) ≡ true
      → (names_row t n xs ≡ true → Last xs) → Last (x ∷ xs)
  last-step x xs true f a e is rest =
      let it = rest f in
      (it.0, inr it.1, it.2, it.3, ap (λ o. or_else o (cond (is_of_row t n x) (Some x.new) None)) it.4)
  last-step x xs false f true e is rest =
      let parts = and_parts (same_table x.table t) (x.row.0 == n.0) e in
      (x, inl refl, same_table-is x.table t parts.0, number-is x.row n parts.1, ap₂ or_else (last_made-none t n xs f) (ap (λ b. cond b (Some x.new) None) e))
  last-step x xs false f false e is rest = absurd (let wrong : false ≡ true = is in cc)

  last-has : (xs : List RowChange) → names_row t n xs ≡ true → Last xs
  last-has [] e = absurd (let wrong : false ≡ true = e in cc)
  last-has (x ∷ xs) e = last-step x xs (names_row t n xs) refl (is_of_row t n x) refl e (last-has xs)

  pub named-content : (rows : List Row) (changes : List RowChange) → names_row t n changes ≡ true
      → (change : RowChange) × Contains changes change × (change.table ≡ t) × (change.row ≡ n) × (row_at t n (laid_over rows changes) ≡ change.new)
  named-content rows changes named =
      let it = last-has changes named in
      (it.0, has-contains changes it.0 it.1, it.2, it.3, row_at-laid t n rows changes ∙ ap (λ o. or_before o (row_at t n rows)) it.4)

-- a row that is laid was there, or a change has made it
pub laid-has : (rows : List Row) (changes : List RowChange) (row : Row) → Has (laid_over rows changes) row
    → Has rows row ⊎ ((change : RowChange) × Has changes change × (change.table ≡ row.table) × (change.row ≡ row.number) × (change.new ≡ Some row.cells))
laid-has rows [] row has = inl has
laid-has rows (c ∷ cs) row has = elim (laid-has (with_content c.table c.row c.new rows) cs row has) [
  | inl stood ↦ go c.new refl stood
  | inr it ↦ inr (it.0, inr it.1, it.2, it.3, it.4)
]
  where
    go : (o : Option (List Cell)) → c.new ≡ o → Has (with_content c.table c.row o rows) row
        → Has rows row ⊎ ((change : RowChange) × Has (c ∷ cs) change × (change.table ≡ row.table) × (change.row ≡ row.number) × (change.new ≡ Some row.cells))
    go None e stood = inl (was (λ r. not (is_row c.table c.row r)) rows row stood).0
    go (Some cells) e stood = elim (placed-has row_before (record { table = c.table; number = c.row; cells = cells }) (without c.table c.row rows) row stood) [
      | inl same ↦ inr (c, inl refl, ap (λ (r : Row). r.table) same, ap (λ (r : Row). r.number) same, e ∙ ap (λ (r : Row). let o : Option (List Cell) = Some r.cells in o) same)
      | inr old ↦ inl (was (λ r. not (is_row c.table c.row r)) rows row old).0
    ]

pub laid-contains : (rows : List Row) (changes : List RowChange) (row : Row) → Contains (laid_over rows changes) row
    → Contains rows row ⊎ ((change : RowChange) × Contains changes change × (change.table ≡ row.table) × (change.row ≡ row.number) × (change.new ≡ Some row.cells))
laid-contains rows changes row has = elim (laid-has rows changes row (contains-has (laid_over rows changes) row has)) [
  | inl stood ↦ inl (has-contains rows row stood)
  | inr it ↦ inr (it.0, has-contains changes it.0 it.1, it.2, it.3, it.4)
]

-- what the rows of one table answer
pub of-table : (t u : TableName) (n : RowNo) (rows : List Row) → row_at u n (rows_in t rows) ≡ cond (same_table u t) (row_at u n rows) None
of-table t u n rows = row_at-filter u n (is_in t) (same_table u t) (λ r is. ap (λ (x : TableName). same_table x t) (is_row-is u n r is).0) rows

pub own-table : (t : TableName) (n : RowNo) (rows : List Row) → row_at t n (rows_in t rows) ≡ row_at t n rows
own-table t n rows = of-table t t n rows ∙ ap (λ b. cond b (row_at t n rows) None) (same_table-self t)

-- a view has the rows that are answered
pub view-answers : (rows : List Row) (changes : List RowChange) (t : TableName) (row : Row) → are_in_order rows ≡ true
    → Contains (view rows changes t) row ↔ ((row.table ≡ t) × (row_at t row.number (laid_over rows changes) ≡ Some row.cells))
view-answers rows changes t row ordered = (
  λ has. (let it = was (is_in t) (laid_over rows changes) row (contains-has (view rows changes t) row has) in
      let table = same_table-is row.table t it.1 in
      (table, subst (λ u. row_at u row.number (laid_over rows changes) ≡ Some row.cells) table (answered (laid_over rows changes) (laid_over-ordered rows changes ordered) row it.0))),
  λ it. (let has = there t row.number row.cells (laid_over rows changes) it.1 in
      let same : record { table = t; number = row.number; cells = row.cells } ≡ row = λ i. record { table = sym it.0 i; number = row.number; cells = row.cells } in
      has-contains (view rows changes t) row (stays (is_in t) (laid_over rows changes) row (subst (Has (laid_over rows changes)) same has)
      (subst (λ u. same_table u t ≡ true) (sym it.0) (same_table-self t)))),
)

-- the first fields decide
longer : (a b c : Ordering) → is_lt (ordering_then a (ordering_then b Equal)) ≡ true → is_lt (ordering_then a (ordering_then b c)) ≡ true
longer Less b c is = refl
longer Equal Less c is = refl
longer Equal Equal c is = absurd (let wrong : false ≡ true = is in cc)
longer Equal Greater c is = absurd (let wrong : false ≡ true = is in cc)
longer Greater b c is = absurd (let wrong : false ≡ true = is in cc)

-- rows in order are the tables' rows, one table after another
module _ (rows : List Row) where
  abbrev in_tables : List Table → List Row
  in_tables tables = flat_map (λ (table : Table). rows_in table.name rows) tables

  from-table : (tables : List Table) (row : Row) → Has (in_tables tables) row → Has rows row × ((table : Table) × Has tables table × (row.table ≡ table.name))
  from-table [] row has = absurd has
  from-table (table ∷ tables) row has = elim (has-either (rows_in table.name rows) (in_tables tables) row has) [
    | inl here ↦ (let it = was (is_in table.name) rows row here in (it.0, (table, inl refl, same_table-is row.table table.name it.1)))
    | inr later ↦ (let it = from-table tables row later in (it.0, (it.1.0, inr it.1.1, it.1.2)))
  ]

  in-table : (tables : List Table) (row : Row) → Has rows row → is_open row.table tables ≡ true → Has (in_tables tables) row
  in-table [] row has opened = absurd (let wrong : false ≡ true = opened in cc)
  in-table (table ∷ tables) row has opened = go (has_name row.table table) refl opened (in-table tables row has)
    where
      turned : has_name row.table table ≡ true → is_in table.name row ≡ true
      turned e = subst (λ u. same_table row.table u ≡ true) (sym (same_table-is table.name row.table e)) (same_table-self row.table)

      go : (b : Bool) → has_name row.table table ≡ b → (b || is_open row.table tables) ≡ true → (is_open row.table tables ≡ true → Has (in_tables tables) row) → Has (in_tables (table ∷ tables)) row
      go true e is rest = has-left (rows_in table.name rows) (in_tables tables) row (stays (is_in table.name) rows row has (turned e))
      go false e is rest = has-right (rows_in table.name rows) (in_tables tables) row (rest is)

  tables-apart : (a b : Table) (x y : Row) → table_before a b ≡ true → x.table ≡ a.name → y.table ≡ b.name → row_before x y ≡ true
  tables-apart a b x y before one two =
      ap₂ (λ (t u : TableName). fields_before (place_of t x.number) (place_of u y.number)) one two
      ∙ longer (slice_cmp nat_cmp a.name.owner b.name.owner) (slice_cmp nat_cmp a.name.name b.name.name) (slice_cmp (slice_cmp nat_cmp) ((x.number.0 ∷ []) ∷ []) ((y.number.0 ∷ []) ∷ [])) before

  in-order : (tables : List Table) → is_in_order table_before tables ≡ true → are_in_order rows ≡ true → are_in_order (in_tables tables) ≡ true
  in-order [] sorted ordered = refl
  in-order (table ∷ tables) sorted ordered =
      joined-ordered row_before (rows_in table.name rows) (in_tables tables)
      (filter-ordered row_before (is_in table.name) rows ordered)
      (in-order tables (rest-ordered table_before table tables sorted) ordered)
      (λ x y first second.
      let it = from-table tables y second in
      tables-apart table it.1.0 x y (all_from (table_before table) tables (first-before table_before table tables sorted) it.1.0 it.1.1)
      (same_table-is x.table table.name (was (is_in table.name) rows x first).1) it.1.2)

  pub tables-rows : (tables : List Table) → is_in_order table_before tables ≡ true → are_in_order rows ≡ true → ((row : Row) → Contains rows row → is_open row.table tables ≡ true)
      → in_tables tables ≡ rows
  tables-rows tables sorted ordered opened = same_sorted row_before rows_transitive rows_irreflexive (in_tables tables) rows (in-order tables sorted ordered) ordered
      (λ row has. (from-table tables row has).0)
      (λ row has. in-table tables row has (opened row (has-contains rows row has)))

-- two numbers of rows are one, or not
pub one-number : (m n : RowNo) → (m ≡ n) ⊎ (n ≢ m)
one-number m n = go (m.0 == n.0) refl
  where
    go : (b : Bool) → (m.0 == n.0) ≡ b → (m ≡ n) ⊎ (n ≢ m)
    go true e = inl (number-is m n e)
    go false e = inr (λ same. (let equal : m.0 ≡ n.0 = ap (λ (r : RowNo). r.0) (sym same) in let is : (m.0 == n.0) ≡ true = grind (arith, nat_tests) in let wrong : true ≡ false = sym is ∙ e in cc))

-- keys differ where no row has another under its key
pub points-all : (places : List ℕ) (t : TableName) (rows : List Row)
    → ((row other : RowNo) (key : List Cell) → HasKey places key (row_at t row rows) → IsUnderOther places key t rows row other → ⊥) → KeysDiffer places t rows
points-all [] t rows none = tt
points-all (p ∷ ps) t rows none = λ m n key first second. elim (one-number m n) [
  | inl same ↦ same
  | inr ne ↦ absurd (none m n key first (ne, second))
]

-- keys that differ still do where no changed row has another under its key
pub points-changed : (places : List ℕ) (t : TableName) (rows : List Row) (changes : List RowChange) → KeysDiffer places t rows
    → ((change : RowChange) (key : List Cell) (other : RowNo) → Contains changes change → change.table ≡ t → HasKey places key (row_at t change.row (laid_over rows changes))
    → IsUnderOther places key t (laid_over rows changes) change.row other → ⊥)
    → KeysDiffer places t (laid_over rows changes)
points-changed [] t rows changes differ none = tt
points-changed (p ∷ ps) t rows changes differ none = λ m n key first second. go m n key first second (names_row t m changes) refl (names_row t n changes) refl
  where
    by-named : (m n : RowNo) (key : List Cell) → HasKey (p ∷ ps) key (row_at t m (laid_over rows changes)) → HasKey (p ∷ ps) key (row_at t n (laid_over rows changes)) → names_row t m changes ≡ true → m ≡ n
    by-named m n key first second named =
        let it = named-content t m rows changes named in
        elim (one-number m n) [
          | inl same ↦ same
          | inr ne ↦ absurd (none it.0 key n it.1 it.2 (subst (λ k. HasKey (p ∷ ps) key (row_at t k (laid_over rows changes))) (sym it.3) first) ((λ same. ne (same ∙ it.3)), second))
        ]

    go : (m n : RowNo) (key : List Cell) → HasKey (p ∷ ps) key (row_at t m (laid_over rows changes)) → HasKey (p ∷ ps) key (row_at t n (laid_over rows changes))
        → (a : Bool) → names_row t m changes ≡ a → (b : Bool) → names_row t n changes ≡ b → m ≡ n
    go m n key first second true e b f = by-named m n key first second e
    go m n key first second false e true f = sym (by-named n m key second first f)
    go m n key first second false e false f =
        differ m n key (subst (HasKey (p ∷ ps) key) (laid-untouched t m rows changes e) first) (subst (HasKey (p ∷ ps) key) (laid-untouched t n rows changes f) second)

-- contents that are laid are changes whose old contents don't matter
abbrev unmade : Final → RowChange
unmade final = record { table = final.table; row = final.row; old = None; new = final.content }

unmade-made : (finals : List Final) → map made (map unmade finals) ≡ finals
unmade-made [] = refl
unmade-made (f ∷ fs) = ap (λ xs. f ∷ xs) (unmade-made fs)

unmade-has : (finals : List Final) (change : RowChange) → Has (map unmade finals) change → (final : Final) × Has finals final × (unmade final ≡ change)
unmade-has [] change has = absurd has
unmade-has (f ∷ fs) change (inl same) = (f, inl refl, same)
unmade-has (f ∷ fs) change (inr later) = let it = unmade-has fs change later in (it.0, inr it.1, it.2)

-- the same of contents that are laid
pub points-laid : (places : List ℕ) (t : TableName) (rows : List Row) (finals : List Final) → KeysDiffer places t rows
    → ((final : Final) (key : List Cell) (other : RowNo) → Contains finals final → final.table ≡ t → HasKey places key (row_at t final.row (laid_all rows finals))
    → IsUnderOther places key t (laid_all rows finals) final.row other → ⊥)
    → KeysDiffer places t (laid_all rows finals)
points-laid places t rows finals differ none =
    subst (λ fs. KeysDiffer places t (laid_all rows fs)) (unmade-made finals)
    (points-changed places t rows (map unmade finals) differ
    (λ change key other has table is under.
    let it = unmade-has finals change (contains-has (map unmade finals) change has) in
    let row : it.0.row ≡ change.row = ap (λ (c : RowChange). c.row) it.2 in
    none it.0 key other (has-contains finals it.0 it.1) (ap (λ (c : RowChange). c.table) it.2 ∙ table)
    (subst (λ (fs : List Final). HasKey places key (row_at t it.0.row (laid_all rows fs))) (unmade-made finals) (subst (λ (n : RowNo). HasKey places key (row_at t n (laid_all rows (map made (map unmade finals))))) (sym row) is))
    (subst (λ (fs : List Final). IsUnderOther places key t (laid_all rows fs) it.0.row other) (unmade-made finals) (subst (λ (n : RowNo). IsUnderOther places key t (laid_all rows (map made (map unmade finals))) n other) (sym row) under))))

-- keys differ among rows exactly where they differ in the table's
pub keys-in : (places : List ℕ) (t : TableName) (rows : List Row) → KeysDiffer places t (rows_in t rows) ↔ KeysDiffer places t rows
keys-in [] t rows = (λ differ. tt, λ differ. tt)
keys-in (p ∷ ps) t rows = (
  λ differ m n key first second. differ m n key (subst (HasKey (p ∷ ps) key) (sym (own-table t m rows)) first) (subst (HasKey (p ∷ ps) key) (sym (own-table t n rows)) second),
  λ differ m n key first second. differ m n key (subst (HasKey (p ∷ ps) key) (own-table t m rows) first) (subst (HasKey (p ∷ ps) key) (own-table t n rows) second),
)

-- changes of different rows are from rows where each is of what stood there
pub from-once : (rows : List Row) (changes : List RowChange) → rows_differ changes ≡ true → AllByRecursion (λ (change : RowChange). change.old ≡ row_at change.table change.row rows) changes → AreFrom rows changes
from-once rows [] once each = tt
from-once rows (c ∷ cs) once each =
    let parts = and_parts (not (names_row c.table c.row cs)) (rows_differ cs) once in
    (each.0, from-same rows (with_content c.table c.row c.new rows) cs (λ t n named. other t n named parts.0 (is_of_row t n c) refl) (from-once rows cs parts.1 each.1))
  where
    other : (t : TableName) (n : RowNo) → names_row t n cs ≡ true → not (names_row c.table c.row cs) ≡ true → (b : Bool) → is_of_row t n c ≡ b
        → row_at t n rows ≡ row_at t n (with_content c.table c.row c.new rows)
    other t n named none true e =
        let parts = and_parts (same_table c.table t) (c.row.0 == n.0) e in
        let here : names_row c.table c.row cs ≡ true = subst (λ (u : TableName). names_row u c.row cs ≡ true) (sym (same_table-is c.table t parts.0)) (subst (λ (m : RowNo). names_row t m cs ≡ true) (sym (number-is c.row n parts.1)) named) in
        absurd (let wrong : false ≡ true = ap not (sym here) ∙ none in cc)
    other t n named none false e = sym (row_at-with t c.table n c.row c.new rows ∙ ap (λ b. cond b c.new (row_at t n rows)) e)
