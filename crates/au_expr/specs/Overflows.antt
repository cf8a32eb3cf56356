-- Whether an expression can overflow.
use Rattle.std.specs.Prelude.{Bool, true, false, not, List, [], ◌∷◌}
use Rattle.std.specs.List.{list_any}
use Rattle.au_expr.specs.declared.placed.Placed.{Placed}
use Rattle.au_expr.specs.declared.placed.Placed.TheOpen as part
use Rattle.au_expr.specs.declared.placed.Placed.TheFolds.{fold-Placed}
use Rattle.au_expr.specs.Operators.{has_digits}

abbrev pub any_holds : List Bool → Bool
any_holds answers = list_any (λ (b : Bool). b) answers

-- a sum, a difference or a product can; a sign can't, since a number of 18 digits stays one; a literal of more digits,
-- which no text is read as, counts as one that can
abbrev pub step : part.Placed-F Bool → Bool
step (part.Or parts) = any_holds parts
step (part.And parts) = any_holds parts
step (part.Not a) = a
step (part.Compare asked a b) = any_holds (a ∷ b ∷ [])
step (part.IsNull a negated) = a
step (part.Like text pattern negated) = any_holds (text ∷ pattern ∷ [])
step (part.In a choices negated) = any_holds (a ∷ choices)
step (part.Between a low high negated) = any_holds (a ∷ low ∷ high ∷ [])
step (part.Sum parts) = true
step (part.Product parts) = true
step (part.Negate a) = a
step (part.Number n) = not (has_digits n)
step _ = false

abbrev pub can_overflow : Placed → Bool
can_overflow = fold-Placed Bool step
