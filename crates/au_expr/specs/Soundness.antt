-- Which values an expression of a kind may give.
use Rattle.std.specs.Prelude.{◌≡◌, nat_le, Bool, true, List, [], ◌∷◌, map, ⊤}
use Rattle.std.specs.List.{list_all}
use Rattle.au_base.specs.declared.cell.Cell.TheVariants as cell
use Rattle.au_base.specs.Cells.{IsSoundCell}
use Rattle.au_base.specs.Limits.{LAST_MOMENT}
use Rattle.sql_ast.specs.declared.expression.Expr.{Expr}
use Rattle.sql_ast.specs.declared.expression.Expr.TheOpen as part
use Rattle.sql_ast.specs.declared.expression.Expr.TheFolds.{fold-Expr}
use Rattle.au_expr.specs.declared.kind.ExprKind.{ExprKind}
use Rattle.au_expr.specs.declared.kind.ExprKind.TheVariants.{Any, Truth, Of}
use Rattle.au_expr.specs.Operators.{has_digits}
use Rattle.au_expr.specs.Rows.{IsOfKind}
use Rattle.au_expr.specs.Values.{Value, Is, Holds, Overflows}

-- an overflow, or what the kind says: NULL, a truth, or a sound cell that is NULL or of the column's kind
abbrev pub IsValueOf : ExprKind → Value → Type 0
IsValueOf _ Overflows = ⊤
IsValueOf Any (Is c) = c ≡ cell.Null
IsValueOf Any (Holds t) = ⊥
IsValueOf Truth (Is c) = ⊥
IsValueOf Truth (Holds t) = ⊤
IsValueOf (Of kind) (Is c) = IsOfKind kind c × IsSoundCell c
IsValueOf (Of kind) (Holds t) = ⊥

abbrev pub all_hold : List Bool → Bool
all_hold answers = list_all (λ (b : Bool). b) answers

abbrev pub step : part.Expr-F Bool → Bool
step (part.Or parts) = all_hold parts
step (part.And parts) = all_hold parts
step (part.Not a) = a
step (part.Compare asked a b) = all_hold (a ∷ b ∷ [])
step (part.IsNull a negated) = a
step (part.Like text pattern negated) = all_hold (text ∷ pattern ∷ [])
step (part.In a choices negated) = all_hold (a ∷ choices)
step (part.Between a low high negated) = all_hold (a ∷ low ∷ high ∷ [])
step (part.Sum parts) = all_hold (map (λ p. p.1) parts)
step (part.Product parts) = all_hold parts
step (part.Negate a) = a
step (part.Number n) = has_digits n
step (part.Moment m) = nat_le m LAST_MOMENT
step _ = true

-- each number has at most 18 digits, and no moment is over the last one, as in every tree that a text is read as
abbrev pub has_sound_literals : Expr → Bool
has_sound_literals = fold-Expr Bool step
