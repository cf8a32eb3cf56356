-- What stands on the table that is found.
use Rattle.std.proofs.Common.{◌≡◌, ◌≤◌, ℕ, Bool, true, false, ◌↔◌, List, length, Option, Result, Ok, Err, sym, subst, ◌∙◌}
use Rattle.std.specs.Prelude.{IfOk, IsTrue}
use Rattle.std.specs.List.{Contains}
use Rattle.au_base.specs.Sameness.{same_table}
use Rattle.au_base.specs.declared.cell.Cell.{Cell}
use Rattle.au_base.specs.declared.numbers.RowNo.{RowNo}
use Rattle.au_base.specs.declared.table.TableName.{TableName}
use Rattle.au_entries.specs.declared.kept.Kept.{Kept}
use Rattle.au_entries.specs.declared.table.Table.{Table}
use Rattle.au_entries.specs.Replaying.{IsFgaCondition, IsKeptTable, has_table}
use Rattle.au_replay.specs.Reading.{conditions}
use Rattle.au_replay.proofs.Found.{same_table-to}
use Rattle.au_replay.proofs.Members.{any_to}

abbrev pub IsOnly : Kept → TableName → Table → Type 0
IsOnly kept name found = (other : Table) → Contains kept.tables other → other.name ≡ name → other ≡ found

-- no table of the name is kept
pub none_kept : (kept : Kept) (name : TableName) (table : Table) → has_table kept name ≡ false → IsKeptTable kept name table → ⊥
none_kept kept name table none (has, same) =
    let e : false ≡ true = sym none ∙ any_to (λ (t : Table). same_table t.name name) kept.tables table has (same_table-to table.name name same) in cc

pub put_found : (kept : Kept) (name : TableName) (row : RowNo) (cells : List Cell) (found : Table) (test : Bool) → 1 ≤ row.0 → IsKeptTable kept name found → IsOnly kept name found
    → (IsTrue test ↔ (length cells ≡ length found.columns)) → IsTrue test ↔ ((1 ≤ row.0) × ((table : Table) × IsKeptTable kept name table × (length cells ≡ length table.columns)))
put_found kept name row cells found test least there only tests = (
  λ is. (least, (found, there, tests.0 is)),
  λ goes. (let (_, (table, at, same)) = goes in tests.1 (subst (λ (t : Table). length cells ≡ length t.columns) (only table at.0 at.1) same)),
)

pub put_none : (kept : Kept) (name : TableName) (row : RowNo) (cells : List Cell) → has_table kept name ≡ false
    → IsTrue false ↔ ((1 ≤ row.0) × ((table : Table) × IsKeptTable kept name table × (length cells ≡ length table.columns)))
put_none kept name row cells none = (λ is. absurd (let e : false ≡ true = is in cc), λ goes. absurd (let (_, (table, at, same)) = goes in none_kept kept name table none at))

pub fga_found : (kept : Kept) (name : TableName) (condition : Option (List ℕ)) (found : Table) (test : Bool) → IsKeptTable kept name found → IsOnly kept name found
    → (IsTrue test ↔ IsFgaCondition conditions found condition) → IsTrue test ↔ ((table : Table) × IsKeptTable kept name table × IsFgaCondition conditions table condition)
fga_found kept name condition found test there only tests = (
  λ is. (found, there, tests.0 is),
  λ goes. (let (table, at, holds) = goes in tests.1 (subst (λ (t : Table). IsFgaCondition conditions t condition) (only table at.0 at.1) holds)),
)

pub fga_none : (kept : Kept) (name : TableName) (condition : Option (List ℕ)) → has_table kept name ≡ false
    → IsTrue false ↔ ((table : Table) × IsKeptTable kept name table × IsFgaCondition conditions table condition)
fga_none kept name condition none = (λ is. absurd (let e : false ≡ true = is in cc), λ goes. absurd (let (table, at, holds) = goes in none_kept kept name table none at))

pub fga_result : {E : Type 0} (kept : Kept) (name : TableName) (condition : Option (List ℕ)) (found : Table) (answer : Result Bool E) → IsKeptTable kept name found → IsOnly kept name found
    → IfOk answer (λ holds. IsTrue holds ↔ IsFgaCondition conditions found condition) → IfOk answer (λ goes. IsTrue goes ↔ ((table : Table) × IsKeptTable kept name table × IsFgaCondition conditions table condition))
fga_result kept name condition found (Ok test) there only tests = fga_found kept name condition found test there only tests
fga_result kept name condition found (Err e) there only tests = tests
