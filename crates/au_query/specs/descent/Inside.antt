-- What the code holds midway. No promise of the crate rests on these.
use Rattle.std.specs.Prelude.{◌≡◌, ◌≤◌, ◌<◌, ◌&&◌, ◌==◌, ℕ, Bool, true, false, not, List, [], ◌∷◌, ◌++◌, map, length, take, if◌then◌else◌}
use Rattle.std.specs.List.{flat_map, list_all, list_any}
use Rattle.au_base.specs.declared.cell.Cell.{Cell}
use Rattle.au_base.specs.Limits.{FROM_TABLES, REPLY_ROWS}
use Rattle.au_base.specs.declared.numbers.RowNo.{RowNo}
use Rattle.std.specs.Borrow.{Bor}
use Rattle.std.specs.Option.{option_to_list}
use Rattle.au_expr.specs.declared.placed.Place.{Place}
use Rattle.au_expr.specs.declared.placed.Placed.{Placed}
use Rattle.au_expr.specs.declared.placed.Placed.TheVariants as tree
use Rattle.au_expr.specs.Placing.{value_at}
use Rattle.au_expr.specs.Ranges.{names_range}
use Rattle.au_expr.specs.Resolving.{placed}
use Rattle.au_expr.specs.Sessions.{Session}
use Rattle.au_expr.specs.Values.{Is, is_met, is_overflow}
use Rattle.au_query.specs.declared.cutting.Test.{Test}
use Rattle.au_query.specs.declared.fixing.Conditions.{Conditions}
use Rattle.au_query.specs.declared.source.Source.{Source}
use Rattle.au_query.specs.Queries.{ons_of}

-- what the rows that begin with these give
abbrev pub gathered : {X : Type 0} → (List X → Bool) → List X → List (List X) → List (List X)
gathered passes row [] = if passes row then row ∷ [] else []
gathered passes row (view ∷ views) = flat_map (λ x. gathered passes (row ++ x ∷ []) views) view

-- a search that takes one row of a table that isn't named
abbrev pub found_in : {X : Type 0} → (List X → Bool) → (ℕ → Bool) → List X → List (List X) → Bool
found_in test named row [] = test row
found_in test named row (view ∷ views) = list_any (λ x. found_in test named (row ++ x ∷ []) views) (if named (length row) then view else take 1 view)

-- all of these were kept, or they are more than a reply may have
abbrev pub IsKept : {X : Type 0} → Bool → List X → List X → Type 0
IsKept true kept whole = (kept ≡ whole) × (length whole ≤ REPLY_ROWS)
IsKept false kept whole = REPLY_ROWS < length whole

-- the cells alone of the rows of each table
abbrev pub cells_in : List (RowNo × Bor (List Cell)) → List (List Cell)
cells_in rows = map (λ row. row.1.now) rows

abbrev pub cells_of_source : Source → List (List Cell)
cells_of_source source = cells_in source.rows.items

abbrev pub cell_views : List Source → List (List (List Cell))
cell_views sources = map cells_of_source sources

-- the expression overflows over the cells of a combination
abbrev pub overflows_in : Session → Placed → List (List Cell) → Bool
overflows_in session tree rows = is_overflow (value_at rows session tree)

abbrev pub names_in : Placed → ℕ → Bool
names_in tree range = names_range range tree

-- ---- conditions that are told early

-- the trees of the conditions
abbrev pub trees_in_tests : List Test → List Placed
trees_in_tests tests = map (λ (test : Test). test.condition.now) tests

-- the condition names no table behind so many of the first ones
abbrev pub IsReach : Test → Type 0
IsReach test = (range : ℕ) → test.reach ≤ range → range < FROM_TABLES → names_range range test.condition.now ≡ false

-- the condition needs just these rows, and isn't Yes over them
abbrev pub refuses : Session → List (List Cell) → Test → Bool
refuses session rows test = test.reach == length rows && not (is_met (value_at rows session test.condition.now))

-- over each row the one are all Yes exactly where the others are
abbrev pub AreMetTogether : List Placed → List Placed → Type 0
AreMetTogether some others = (session : Session) (rows : List (List Cell))
    → list_all (λ (tree : Placed). is_met (value_at rows session tree)) some ≡ list_all (λ (tree : Placed). is_met (value_at rows session tree)) others

-- ---- columns that conditions fix

-- the tree is the column of this number of the range
abbrev pub IsColumnAt : Placed → ℕ → ℕ → Type 0
IsColumnAt column range number = (place : Place) × (column ≡ tree.Column place) × (place.range ≡ range) × (place.column ≡ number)

-- the tree gives this cell over whatever rows
abbrev pub IsAlways : Session → Placed → Cell → Type 0
IsAlways session value cell = (rows : List (List Cell)) → value_at rows session value ≡ Is cell

-- the conditions of a query: ON of each join, and WHERE
abbrev pub trees_of_conditions : Conditions → List Placed
trees_of_conditions c = ons_of c.ranges.now c.joins.now ++ map (placed c.ranges.now) (option_to_list c.last.now)
