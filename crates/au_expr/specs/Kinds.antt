-- The kind of an expression, and what each operator takes (SQL Language Reference, "Data Type Comparison Rules"; that
-- nothing is converted is this project's profile).
use Rattle.std.specs.Prelude.{ℕ, Bool, true, false, ◌||◌, List, [], ◌∷◌, map, Option, Some, None, if◌then◌else◌}
use Rattle.std.specs.List.{list_all}
use Rattle.au_base.specs.declared.table.ColumnKind.{ColumnKind}
use Rattle.au_base.specs.declared.table.ColumnKind.TheVariants.{Number, Text, Moment}
use Rattle.sql_ast.specs.declared.expression.Expr.{Expr}
use Rattle.sql_ast.specs.declared.expression.Expr.TheOpen as part
use Rattle.sql_ast.specs.declared.expression.Expr.TheFolds.{fold-Expr}
use Rattle.au_expr.specs.declared.placed.Place.{Place}
use Rattle.au_expr.specs.declared.placed.Placed.{Placed}
use Rattle.au_expr.specs.declared.placed.Placed.TheOpen as placed
use Rattle.au_expr.specs.declared.placed.Placed.TheFolds.{fold-Placed}
use Rattle.au_expr.specs.declared.kind.ExprKind.{ExprKind}
use Rattle.au_expr.specs.declared.kind.ExprKind.TheVariants.{Any, Truth, Of}
use Rattle.au_expr.specs.Names.{places}
use Rattle.au_expr.specs.Rows.{Range}
use Rattle.au_expr.specs.Sessions.{is_number, is_user}

abbrev pub same_kind : ColumnKind → ColumnKind → Bool
same_kind Number Number = true
same_kind Text Text = true
same_kind Moment Moment = true
same_kind _ _ = false

-- whether an operand is of this kind; NULL goes with each, and what has no kind with none
abbrev pub goes_with : ColumnKind → Option ExprKind → Bool
goes_with kind (Some Any) = true
goes_with kind (Some Truth) = false
goes_with kind (Some (Of other)) = same_kind kind other
goes_with kind None = false

-- whether all operands are of one kind
abbrev pub is_one_kind : List (Option ExprKind) → Bool
is_one_kind kinds = list_all (goes_with Number) kinds || (list_all (goes_with Text) kinds || list_all (goes_with Moment) kinds)

-- whether it may stand where a truth has to; NULL may
abbrev pub is_truth : Option ExprKind → Bool
is_truth (Some Any) = true
is_truth (Some Truth) = true
is_truth (Some (Of kind)) = false
is_truth None = false

abbrev pub given_where : ExprKind → Bool → Option ExprKind
given_where kind holds = if holds then Some kind else None

-- the kind of what stands at these places, if that is one
abbrev pub kind_of_places : List Place → Option ExprKind
kind_of_places [] = None
kind_of_places (place ∷ []) = Some (Of place.kind)
kind_of_places (place ∷ _ ∷ _) = None

-- SYS_CONTEXT gives a text, of an attribute that it has
abbrev pub kind_of_context : List ℕ → ExprKind
kind_of_context attribute = if is_number attribute then Of Text else (if is_user attribute then Of Text else Any)

-- what an expression is, once it is known what its parts are; nothing where one of them is of a wrong kind
abbrev pub step : List Range → part.Expr-F (Option ExprKind) → Option ExprKind
step ranges (part.Or parts) = given_where Truth (list_all is_truth parts)
step ranges (part.And parts) = given_where Truth (list_all is_truth parts)
step ranges (part.Not a) = given_where Truth (is_truth a)
step ranges (part.Compare asked a b) = given_where Truth (is_one_kind (a ∷ b ∷ []))
step ranges (part.IsNull a negated) = given_where Truth (is_one_kind (a ∷ []))
step ranges (part.Like text pattern negated) = given_where Truth (list_all (goes_with Text) (text ∷ pattern ∷ []))
step ranges (part.In a choices negated) = given_where Truth (is_one_kind (a ∷ choices))
step ranges (part.Between a low high negated) = given_where Truth (is_one_kind (a ∷ low ∷ high ∷ []))
step ranges (part.Sum parts) = given_where (Of Number) (list_all (goes_with Number) (map (λ p. p.1) parts))
step ranges (part.Product parts) = given_where (Of Number) (list_all (goes_with Number) parts)
step ranges (part.Negate a) = given_where (Of Number) (goes_with Number a)
step ranges (part.Number n) = Some (Of Number)
step ranges (part.Literal text) = Some (Of Text)
step ranges part.Null = Some Any
step ranges (part.Column written name) = kind_of_places (places ranges written name)
step ranges part.User = Some (Of Text)
step ranges part.Now = Some (Of Moment)
step ranges (part.Moment m) = Some (Of Moment)
step ranges (part.Context attribute) = Some (kind_of_context attribute)

-- the kind of an expression, and nothing where some part of it is of a wrong kind
abbrev pub kind : List Range → Expr → Option ExprKind
kind ranges = fold-Expr (Option ExprKind) (step ranges)

-- what an expression with places is; its outermost operator tells
abbrev pub placed_step : placed.Placed-F ExprKind → ExprKind
placed_step placed.Null = Any
placed_step (placed.Sum parts) = Of Number
placed_step (placed.Product parts) = Of Number
placed_step (placed.Negate a) = Of Number
placed_step (placed.Number n) = Of Number
placed_step (placed.Literal text) = Of Text
placed_step (placed.Column place) = Of place.kind
placed_step placed.User = Of Text
placed_step placed.SessionNumber = Of Text
placed_step placed.Now = Of Moment
placed_step (placed.Moment m) = Of Moment
placed_step _ = Truth

abbrev pub kind_at : Placed → ExprKind
kind_at = fold-Placed ExprKind placed_step
