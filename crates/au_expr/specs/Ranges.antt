-- Which columns an expression names, and so which ranges.
use Rattle.std.specs.Prelude.{◌≡◌, ℕ, Bool, IsTrue, ◌==◌, ◌&&◌, List, [], ◌∷◌, map}
use Rattle.std.specs.List.{flat_map, list_any, slice_get}
use Rattle.au_base.specs.declared.cell.Cell.{Cell}
use Rattle.au_expr.specs.declared.placed.Place.{Place}
use Rattle.au_expr.specs.declared.placed.Placed.{Placed}
use Rattle.au_expr.specs.declared.placed.Placed.TheOpen as part
use Rattle.au_expr.specs.declared.placed.Placed.TheFolds.{fold-Placed}

abbrev pub together : List (List Place) → List Place
together parts = flat_map (λ (places : List Place). places) parts

abbrev pub step : part.Placed-F (List Place) → List Place
step (part.Or parts) = together parts
step (part.And parts) = together parts
step (part.Not a) = a
step (part.Compare asked a b) = together (a ∷ b ∷ [])
step (part.IsNull a negated) = a
step (part.Like text pattern negated) = together (text ∷ pattern ∷ [])
step (part.In a choices negated) = together (a ∷ choices)
step (part.Between a low high negated) = together (a ∷ low ∷ high ∷ [])
step (part.Sum parts) = together (map (λ p. p.1) parts)
step (part.Product parts) = together parts
step (part.Negate a) = a
step (part.Column place) = place ∷ []
step _ = []

-- the places of the columns of an expression, in written order
abbrev pub columns_in : Placed → List Place
columns_in = fold-Placed (List Place) step

-- whether a column of the expression stands in the range of this number
abbrev pub names_range : ℕ → Placed → Bool
names_range range tree = list_any (λ (place : Place). place.range == range) (columns_in tree)

-- whether the expression names this column of this range, by their numbers
abbrev pub names_column : ℕ → ℕ → Placed → Bool
names_column range column tree = list_any (λ (place : Place). place.range == range && place.column == column) (columns_in tree)

-- the rows have the same cells in each range that the expression names
abbrev pub AgreeWhereNamed : Placed → List (List Cell) → List (List Cell) → Type 0
AgreeWhereNamed tree one other = (range : ℕ) → IsTrue (names_range range tree) → slice_get one range ≡ slice_get other range
