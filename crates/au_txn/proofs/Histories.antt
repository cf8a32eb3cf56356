-- What lists of changes leave of rows, row by row.
use Rattle.std.proofs.Common.{◌≡◌, ◌∙◌, ℕ, Bool, true, false, cond, ◌||◌, List, [], ◌∷◌, ◌++◌, refl, sym, ap, Option, None, Some, map}
use Rattle.std.specs.Prelude.{◌==◌}
use Rattle.std.proofs.lemmas.Bool.{and_from}
use Rattle.au_base.specs.declared.cell.Cell.{Cell}
use Rattle.au_base.specs.declared.numbers.RowNo.{RowNo}
use Rattle.au_base.specs.declared.table.TableName.{TableName}
use Rattle.au_base.specs.Sameness.{same_table}
use Rattle.au_rows.specs.Held.{or_else}
use Rattle.au_txn.specs.declared.change.RowChange.{RowChange}
use Rattle.au_txn.specs.Rows.{Row, are_in_order, row_at, with_content}
use Rattle.au_txn.specs.Transactions.{AreFrom, is_of_row, laid_over, made, names_row}
use Rattle.au_txn.proofs.RowOrder.{laid-ordered, number-self, row_at-with, same_table-self}

-- the last of the contents that the changes give a row, where they name it
abbrev pub last_made : TableName → RowNo → List RowChange → Option (Option (List Cell))
last_made t n [] = None
last_made t n (change ∷ changes) = or_else (last_made t n changes) (cond (is_of_row t n change) (Some change.new) None)

-- that content, or what stood before
abbrev pub or_before : Option (Option (List Cell)) → Option (List Cell) → Option (List Cell)
or_before None before = before
or_before (Some content) before = content

step : (a : Option (Option (List Cell))) (b : Bool) (content before : Option (List Cell)) → or_before a (cond b content before) ≡ or_before (or_else a (cond b (Some content) None)) before
step None true content before = refl
step None false content before = refl
step (Some c) b content before = refl

-- a row has the last content that the changes give it, or the one that it had
pub row_at-laid : (t : TableName) (n : RowNo) (rows : List Row) (changes : List RowChange) → row_at t n (laid_over rows changes) ≡ or_before (last_made t n changes) (row_at t n rows)
row_at-laid t n rows [] = refl
row_at-laid t n rows (change ∷ changes) =
    row_at-laid t n (with_content change.table change.row change.new rows) changes
    ∙ (ap (or_before (last_made t n changes)) (row_at-with t change.table n change.row change.new rows)
    ∙ step (last_made t n changes) (is_of_row t n change) change.new (row_at t n rows))

-- changes that don't name the row give it nothing
pub last_made-none : (t : TableName) (n : RowNo) (changes : List RowChange) → names_row t n changes ≡ false → last_made t n changes ≡ None
last_made-none t n [] h = refl
last_made-none t n (change ∷ changes) h = go (is_of_row t n change) (names_row t n changes) refl refl h (last_made-none t n changes)
  where
    go : (a b : Bool) → is_of_row t n change ≡ a → names_row t n changes ≡ b → (a || b) ≡ false → (names_row t n changes ≡ false → last_made t n changes ≡ None)
        → or_else (last_made t n changes) (cond (is_of_row t n change) (Some change.new) None) ≡ None
    go true b e f wrong rest = absurd (let w : true ≡ false = wrong in cc)
    go false true e f wrong rest = absurd (let w : true ≡ false = wrong in cc)
    go false false e f h rest = rw (e, rest f) refl

pub laid-untouched : (t : TableName) (n : RowNo) (rows : List Row) (changes : List RowChange) → names_row t n changes ≡ false → row_at t n (laid_over rows changes) ≡ row_at t n rows
laid-untouched t n rows changes h = row_at-laid t n rows changes ∙ ap (λ o. or_before o (row_at t n rows)) (last_made-none t n changes h)

pub laid_over-ordered : (rows : List Row) (changes : List RowChange) → are_in_order rows ≡ true → are_in_order (laid_over rows changes) ≡ true
laid_over-ordered rows changes ordered = laid-ordered rows (map made changes) ordered

-- more changes are laid over what the earlier ones leave
pub laid_over-append : (rows : List Row) (a b : List RowChange) → laid_over rows (a ++ b) ≡ laid_over (laid_over rows a) b
laid_over-append rows [] b = refl
laid_over-append rows (c ∷ cs) b = laid_over-append (with_content c.table c.row c.new rows) cs b

pub from-append : (rows : List Row) (a b : List RowChange) → AreFrom rows a → AreFrom (laid_over rows a) b → AreFrom rows (a ++ b)
from-append rows [] b one two = two
from-append rows (c ∷ cs) b one two = (one.0, from-append (with_content c.table c.row c.new rows) cs b one.1 two)

pub names-append : (t : TableName) (n : RowNo) (a b : List RowChange) → names_row t n (a ++ b) ≡ (names_row t n a || names_row t n b)
names-append t n [] b = refl
names-append t n (c ∷ cs) b = ap (λ x. is_of_row t n c || x) (names-append t n cs b) ∙ joined (is_of_row t n c) (names_row t n cs) (names_row t n b)
  where
    joined : (x y z : Bool) → (x || (y || z)) ≡ ((x || y) || z)
    joined true y z = refl
    joined false y z = refl

-- the old contents are those of other rows, where these answer the same of each row that is named
pub from-same : (a b : List Row) (changes : List RowChange) → ((t : TableName) (n : RowNo) → names_row t n changes ≡ true → row_at t n a ≡ row_at t n b) → AreFrom a changes → AreFrom b changes
from-same a b [] same from = tt
from-same a b (c ∷ cs) same from = (
  from.0 ∙ same c.table c.row (rw (own c) refl),
  from-same (with_content c.table c.row c.new a) (with_content c.table c.row c.new b) cs
      (λ t n named. row_at-with t c.table n c.row c.new a ∙ (ap (cond (is_of_row t n c) c.new) (same t n (rw named (later (is_of_row t n c)))) ∙ sym (row_at-with t c.table n c.row c.new b))) from.1,
)
  where
    own : (change : RowChange) → is_of_row change.table change.row change ≡ true
    own change = and_from (same_table change.table change.table) (change.row.0 == change.row.0) (self change.table) (number change.row.0)
      where
        self : (t : TableName) → same_table t t ≡ true
        self t = same_table-self t

        number : (m : ℕ) → (m == m) ≡ true
        number m = number-self m

    later : (x : Bool) → (x || true) ≡ true
    later true = refl
    later false = refl
