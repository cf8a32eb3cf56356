-- How many row numbers a table uses, and the largest of them.
use Rattle.std.specs.Prelude.{◌≡◌, ◌↔◌, ◌≤◌, ℕ, nat_lt, List, [], ◌∷◌, Bool, true, length, max}
use Rattle.std.specs.List.{Contains}
use Rattle.au_base.specs.declared.numbers.ClientNo.{ClientNo}
use Rattle.au_base.specs.declared.numbers.RowNo.{RowNo}
use Rattle.au_base.specs.declared.table.TableName.{TableName}
use Rattle.au_base.specs.Order.{is_in_order}
use Rattle.au_txn.specs.declared.change.RowChange.{RowChange}
use Rattle.au_txn.specs.Rows.{Row}
use Rattle.au_txn.specs.Transactions.{IsNumber}

-- the first number is smaller
abbrev pub number_before : RowNo → RowNo → Bool
number_before a b = nat_lt a.0 b.0

-- the largest of the numbers, 0 where there is none
abbrev pub largest : List RowNo → ℕ
largest [] = 0
largest (number ∷ numbers) = max number.0 (largest numbers)

-- so many numbers of rows of the table are used, each counted once, and this is the largest of them: those of
-- committed rows, and those that changes of open transactions name
pub record AreNumbers (rows : List Row) (transactions : ClientNo → List RowChange) (table : TableName) (count : ℕ) (last : ℕ) : Type 0 where
  pub numbers : List RowNo
  pub rising : is_in_order number_before numbers ≡ true
  pub exact : (number : RowNo) → Contains numbers number ↔ IsNumber rows transactions table number
  pub counts : count ≡ length numbers
  pub ends : last ≡ largest numbers
  pub most : (number : RowNo) → IsNumber rows transactions table number → number.0 ≤ last
