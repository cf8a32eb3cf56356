-- The rows that are seen of a table under some numbers, and what the numbers answer, pass the same tests.
use Rattle.std.proofs.Common.{◌≡◌, ◌∙◌, Bool, true, List, map, refl, sym, ap, eqb-true, eq-eqb}
use Rattle.std.specs.Prelude.{◌↔◌, ◌==◌, Some}
use Rattle.std.specs.List.{Contains, filter, filter_map, list_any}
use Rattle.au_base.specs.declared.cell.Cell.{Cell}
use Rattle.au_base.specs.declared.numbers.RowNo.{RowNo}
use Rattle.au_base.specs.declared.table.TableName.{TableName}
use Rattle.au_query.specs.Combos.{Line}
use Rattle.au_txn.specs.declared.change.RowChange.{RowChange}
use Rattle.au_txn.specs.Desks.{contents_of}
use Rattle.au_txn.specs.Rows.{Row, row_at}
use Rattle.au_txn.specs.Transactions.{laid_over, view}
use Rattle.au_world.specs.Plans.{is_one_of}
use Rattle.au_plan.proofs.Members.{any_from, kept, mapped, mapped_to, passed}
use Rattle.au_plan.proofs.Elements.{any_with, given, given_from, same_any, stays}

-- what a view has is what its rows answer
abbrev pub Viewed : List Row → List RowChange → Type 0
Viewed rows own = (table : TableName) (row : Row) → Contains (view rows own table) row ↔ ((row.table ≡ table) × (row_at table row.number (laid_over rows own) ≡ Some row.cells))

abbrev cells_of : Line → List Cell
cells_of line = line.1

-- the cells of the rows with these numbers that are seen of the table
abbrev pub seen_at : List Row → List RowChange → TableName → List RowNo → List (List Cell)
seen_at rows own table numbers = map cells_of (filter (is_one_of numbers) (map contents_of (view rows own table)))

-- and what these numbers answer
abbrev pub answered_at : List Row → List RowChange → TableName → List RowNo → List (List Cell)
answered_at rows own table numbers = filter_map (λ (number : RowNo). row_at table number (laid_over rows own)) numbers

same_number : (a b : RowNo) → (a.0 == b.0) ≡ true → a ≡ b
same_number a b is = let e : a.0 ≡ b.0 = eqb-true a.0 b.0 is in λ i. record { 0 = e i }

seen_answers : (rows : List Row) (own : List RowChange) → Viewed rows own → (table : TableName) (numbers : List RowNo) (cells : List Cell)
    → Contains (seen_at rows own table numbers) cells → Contains (answered_at rows own table numbers) cells
seen_answers rows own viewed table numbers cells has =
    let lines = map contents_of (view rows own table) in
    let line = mapped cells_of (filter (is_one_of numbers) lines) cells has in
    let row = mapped contents_of (view rows own table) line.0 (kept (is_one_of numbers) lines line.0 line.1) in
    let number = any_from (λ (number : RowNo). number.0 == line.0.0.0) numbers (passed (is_one_of numbers) lines line.0 line.1) in
    let is = ((viewed table row.0).0 row.1).1 in
    let at : number.0 ≡ row.0.number = same_number number.0 line.0.0 number.2 ∙ ap (λ (l : Line). l.0) (sym row.2) in
    let shown : row.0.cells ≡ cells = ap (λ (l : Line). l.1) row.2 ∙ line.2 in
    given (λ (number : RowNo). row_at table number (laid_over rows own)) numbers number.0 cells number.1
    (ap (λ (n : RowNo). row_at table n (laid_over rows own)) at ∙ is ∙ ap Some shown)

answers_seen : (rows : List Row) (own : List RowChange) → Viewed rows own → (table : TableName) (numbers : List RowNo) (cells : List Cell)
    → Contains (answered_at rows own table numbers) cells → Contains (seen_at rows own table numbers) cells
answers_seen rows own viewed table numbers cells has =
    let found = given_from (λ (number : RowNo). row_at table number (laid_over rows own)) numbers cells has in
    let row : Row = record { table = table; number = found.element; cells = cells } in
    let lines = map contents_of (view rows own table) in
    let line = mapped_to contents_of (view rows own table) row ((viewed table row).1 (refl, found.gives)) in
    let one = any_with (λ (number : RowNo). number.0 == found.element.0) numbers found.element found.has (eq-eqb found.element.0 found.element.0 refl) in
    mapped_to cells_of (filter (is_one_of numbers) lines) (contents_of row) (stays (is_one_of numbers) lines (contents_of row) line one)

pub rows_same : (rows : List Row) (own : List RowChange) → Viewed rows own → (table : TableName) (numbers : List RowNo) (test : List Cell → Bool)
    → list_any test (answered_at rows own table numbers) ≡ list_any test (seen_at rows own table numbers)
rows_same rows own viewed table numbers test =
    same_any test (answered_at rows own table numbers) (seen_at rows own table numbers)
    (answers_seen rows own viewed table numbers) (seen_answers rows own viewed table numbers)
