-- The order of the rows of a query (SQL Language Reference, "SELECT", order_by_clause; that rows which tie keep the order
-- of their combinations is this project's profile).
use Rattle.std.specs.Prelude.{ℕ, ℤ, pos, Bool, List, [], ◌∷◌, if◌then◌else◌}
use Rattle.std.specs.List.Sorted.{IsPermutation, IsSortedBy, IsStableBy}
use Rattle.std.specs.declared.cmp.Ordering.{Ordering}
use Rattle.std.specs.declared.cmp.Ordering.TheVariants.{Equal}
use Rattle.std.specs.Ordering.{nat_cmp, int_cmp, is_lt, ordering_then}
use Rattle.std.specs.Cmp.Lexicographic.{slice_cmp}
use Rattle.au_base.specs.declared.cell.Cell.{Cell}
use Rattle.au_base.specs.declared.cell.Cell.TheVariants as cell
use Rattle.au_expr.specs.declared.placed.Place.{Place}
use Rattle.au_expr.specs.Placing.{cell_at}
use Rattle.au_query.specs.Combos.{Line, cells_of}

-- a number comes before a text, a text before a moment, and NULL comes last; the cells of one column are of one kind
abbrev pub kind_of_cell : Cell → ℕ
kind_of_cell (cell.Num n) = 0
kind_of_cell (cell.Text t) = 1
kind_of_cell (cell.Moment m) = 2
kind_of_cell cell.Null = 3

abbrev pub number_in : Cell → ℤ
number_in (cell.Num n) = n
number_in _ = pos 0

abbrev pub text_in : Cell → List ℕ
text_in (cell.Text t) = t
text_in _ = []

abbrev pub moment_in : Cell → ℕ
moment_in (cell.Moment m) = m
moment_in _ = 0

-- ascending: NULL last, numbers and moments as numbers, texts by their bytes
abbrev pub cell_cmp : Cell → Cell → Ordering
cell_cmp a b =
    ordering_then (nat_cmp (kind_of_cell a) (kind_of_cell b))
    (ordering_then (int_cmp (number_in a) (number_in b))
    (ordering_then (slice_cmp nat_cmp (text_in a) (text_in b)) (nat_cmp (moment_in a) (moment_in b))))

-- by the column at the place, the other way round where it is descending, so that NULL comes first there
abbrev pub key_cmp : Place × Bool → List (List Cell) → List (List Cell) → Ordering
key_cmp key a b =
    if key.1 then cell_cmp (cell_at b key.0) (cell_at a key.0) else cell_cmp (cell_at a key.0) (cell_at b key.0)

-- by the first column in which they differ
abbrev pub order_cmp : List (Place × Bool) → List (List Cell) → List (List Cell) → Ordering
order_cmp [] a b = Equal
order_cmp (key ∷ keys) a b = ordering_then (key_cmp key a b) (order_cmp keys a b)

abbrev pub combo_cmp : List (Place × Bool) → List Line → List Line → Ordering
combo_cmp keys a b = order_cmp keys (cells_of a) (cells_of b)

-- the first combination has to come before the second
abbrev pub comes_before : List (Place × Bool) → List Line → List Line → Bool
comes_before keys a b = is_lt (combo_cmp keys a b)

-- the same combinations in the order of the keys, those that tie in the order that they had
pub record IsOrdered (keys : List (Place × Bool)) (combos ordered : List (List Line)) : Type 0 where
  pub same : IsPermutation combos ordered
  pub rises : IsSortedBy (comes_before keys) ordered
  pub stable : IsStableBy (comes_before keys) combos ordered
