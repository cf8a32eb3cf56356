-- The rows of a desk, and what is kept lists of them.
use Rattle.std.proofs.Common.{◌≡◌, ◌≤◌, ◌||◌, ◌⊎◌, inl, inr, Bool, true, false, List, [], ◌∷◌, Option, Some, None, map, refl, ap, ◌∙◌, arith}
use Rattle.std.specs.Prelude.{is_some, if◌then◌else◌}
use Rattle.std.specs.List.{AllByRecursion, Contains, list_any}
use Rattle.std.specs.Borrow.{Bor}
use Rattle.std.specs.Option.{option_copied}
use Rattle.au_base.specs.declared.cell.Cell.{Cell}
use Rattle.au_base.specs.declared.numbers.RowNo.{RowNo}
use Rattle.au_base.specs.declared.table.TableName.{TableName}
use Rattle.au_entries.specs.Changing.{is_row}
use Rattle.au_txn.specs.declared.change.RowChange.{RowChange}
use Rattle.au_txn.specs.Rows.{Row, is_row as is_row_of, row_at, triple_of}
use Rattle.au_txn.specs.Transactions.{laid_over}
use Rattle.au_replay.proofs.Members.{all_at}

any_row_at : (b rest : Bool) (cells : List Cell) (o : Option (List Cell)) → rest ≡ is_some o → (b || rest) ≡ is_some (if b then Some cells else o)
any_row_at true rest cells o same = refl
any_row_at false rest cells o same = same

-- a row is listed exactly where the rows answer it
pub any_row : (table : TableName) (number : RowNo) (rows : List Row) → list_any (is_row table number) (map triple_of rows) ≡ is_some (row_at table number rows)
any_row table number [] = refl
any_row table number (row ∷ rows) = any_row_at (is_row_of table number row) _ row.cells (row_at table number rows) (any_row table number rows)

pub copied_is : {A : Type 0} (o : Option (Bor A)) → is_some (option_copied o) ≡ is_some o
copied_is None = refl
copied_is (Some x) = refl

-- what rows answer stands among them
abbrev pub StandsThere : Type 0
StandsThere = (rows : List Row) (row : Row) → row_at row.table row.number rows ≡ Some row.cells → Contains rows row

-- what is laid is a row or the content of a change
abbrev pub IsLaid : Type 0
IsLaid = (rows : List Row) (changes : List RowChange) (row : Row) → Contains (laid_over rows changes) row
    → Contains rows row ⊎ ((change : RowChange) × Contains changes change × (change.table ≡ row.table) × (change.row ≡ row.number) × (change.new ≡ Some row.cells))

-- no row has the number 0
no_zero : StandsThere → IsLaid → (rows : List Row) (changes : List RowChange) → ((row : Row) → Contains rows row → 1 ≤ row.number.0) → AllByRecursion (λ change. 1 ≤ change.row.0) changes
    → (table : TableName) (number : RowNo) (o : Option (List Cell)) → row_at table number (laid_over rows changes) ≡ o → number.0 ≡ 0 → is_some o ≡ false
no_zero stands laid rows changes numbered changed table number None is zero = refl
no_zero stands laid rows changes numbered changed table number (Some cells) is zero =
    elim (laid rows changes (record { table = table; number = number; cells = cells }) (stands (laid_over rows changes) (record { table = table; number = number; cells = cells }) is)) [
      | inl has ↦ absurd (let least = numbered _ has in omega (arith, least, zero))
      | inr made ↦ absurd (let (change, has, _, same, _) = made in
          let least : 1 ≤ change.row.0 = all_at (λ (c : RowChange). 1 ≤ c.row.0) changes changed change has in
          let at : change.row.0 ≡ number.0 = ap (λ (n : RowNo). n.0) same in
          omega (arith, least, at, zero))
    ]

pub none_at_zero : StandsThere → IsLaid → (rows : List Row) (changes : List RowChange) → ((row : Row) → Contains rows row → 1 ≤ row.number.0) → AllByRecursion (λ change. 1 ≤ change.row.0) changes
    → (table : TableName) (number : RowNo) → number.0 ≡ 0 → list_any (is_row table number) (map triple_of (laid_over rows changes)) ≡ false
none_at_zero stands laid rows changes numbered changed table number zero =
    any_row table number (laid_over rows changes) ∙ no_zero stands laid rows changes numbered changed table number (row_at table number (laid_over rows changes)) refl zero

nothing_there : {A : Type 0} (o : Option A) → is_some o ≡ false → None ≡ o
nothing_there None is = refl
nothing_there (Some x) is = absurd (let e : true ≡ false = is in cc)

pub zero_row : StandsThere → IsLaid → (rows : List Row) (changes : List RowChange) → ((row : Row) → Contains rows row → 1 ≤ row.number.0) → AllByRecursion (λ change. 1 ≤ change.row.0) changes
    → (table : TableName) (number : RowNo) → number.0 ≡ 0 → None ≡ row_at table number (laid_over rows changes)
zero_row stands laid rows changes numbered changed table number zero =
    nothing_there (row_at table number (laid_over rows changes)) (no_zero stands laid rows changes numbered changed table number (row_at table number (laid_over rows changes)) refl zero)
