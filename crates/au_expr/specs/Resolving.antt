-- An expression with places in place of names, and the code of one that has none.
use Rattle.std.specs.Prelude.{◌≡◌, ◌≢◌, IsTrue, ℕ, Bool, List, [], ◌∷◌, map, Option, Some, None, Result, Ok, Err, if◌then◌else◌}
use Rattle.au_base.specs.declared.code.Code.{Code}
use Rattle.au_base.specs.declared.table.ColumnKind.{ColumnKind}
use Rattle.au_base.specs.Codes.{WRONG_KIND}
use Rattle.sql_ast.specs.declared.expression.Expr.{Expr}
use Rattle.sql_ast.specs.declared.expression.Expr.TheOpen as part
use Rattle.sql_ast.specs.declared.expression.Expr.TheFolds.{fold-Expr}
use Rattle.au_expr.specs.declared.kind.ExprKind.{ExprKind}
use Rattle.au_expr.specs.declared.kind.ExprKind.TheVariants.{Truth}
use Rattle.au_expr.specs.declared.placed.Place.{Place}
use Rattle.au_expr.specs.declared.placed.Placed.{Placed}
use Rattle.au_expr.specs.declared.placed.Placed.TheVariants as tree
use Rattle.au_expr.specs.Kinds as kinds
use Rattle.au_expr.specs.Kinds.{kind}
use Rattle.au_expr.specs.Names.{name_code, or_code, places}
use Rattle.au_expr.specs.Rows.{Range}
use Rattle.au_expr.specs.Sessions.{is_number, is_user}

-- the column at the one place that its name means
abbrev pub column_at : List Place → Placed
column_at [] = tree.Null
column_at (place ∷ []) = tree.Column place
column_at (place ∷ _ ∷ _) = tree.Null

-- SYS_CONTEXT of USERENV: SESSIONID is the session's number, SESSION_USER the user
abbrev pub context_at : List ℕ → Placed
context_at attribute = if is_number attribute then tree.SessionNumber else (if is_user attribute then tree.User else tree.Null)

abbrev pub step : List Range → part.Expr-F Placed → Placed
step ranges (part.Or parts) = tree.Or parts
step ranges (part.And parts) = tree.And parts
step ranges (part.Not a) = tree.Not a
step ranges (part.Compare asked a b) = tree.Compare asked a b
step ranges (part.IsNull a negated) = tree.IsNull a negated
step ranges (part.Like text pattern negated) = tree.Like text pattern negated
step ranges (part.In a choices negated) = tree.In a choices negated
step ranges (part.Between a low high negated) = tree.Between a low high negated
step ranges (part.Sum parts) = tree.Sum parts
step ranges (part.Product parts) = tree.Product parts
step ranges (part.Negate a) = tree.Negate a
step ranges (part.Number n) = tree.Number n
step ranges (part.Literal text) = tree.Literal text
step ranges part.Null = tree.Null
step ranges (part.Column written name) = column_at (places ranges written name)
step ranges part.User = tree.User
step ranges part.Now = tree.Now
step ranges (part.Moment m) = tree.Moment m
step ranges (part.Context attribute) = context_at attribute

-- the expression with the places of its columns
abbrev pub placed : List Range → Expr → Placed
placed ranges = fold-Expr Placed (step ranges)

abbrev pub all_placed : List Range → List Expr → List Placed
all_placed ranges parts = map (placed ranges) parts

abbrev pub all_signed_placed : List Range → List (Bool × Expr) → List (Bool × Placed)
all_signed_placed ranges parts = map (λ part. (part.0, placed ranges part.1)) parts

-- 932 where there is no kind
abbrev pub kind_code : Option ExprKind → Option Code
kind_code None = Some WRONG_KIND
kind_code (Some k) = None

-- the first of 904 and 918 in written order, and where there is neither, 932 where a part is of a wrong kind
abbrev pub refusal : List Range → Expr → Option Code
refusal ranges x = or_code (name_code ranges x) (kind_code (kind ranges x))

-- nothing refuses the expression, this is it with places, and it has the kind that it had
pub record IsResolved (ranges : List Range) (x : Expr) (tree : Placed) : Type 0 where
  pub unrefused : refusal ranges x ≡ None
  pub places : tree ≡ placed ranges x
  pub kind : kinds.kind ranges x ≡ Some (kinds.kind_at tree)

-- what is answered of an expression: itself with places where nothing refuses it, and else the code
abbrev pub Resolves : List Range → Expr → Result Placed Code → Type 0
Resolves ranges x (Ok tree) = IsResolved ranges x tree
Resolves ranges x (Err code) = refusal ranges x ≡ Some code

-- the kind where nothing refuses the expression, and else the code
abbrev pub HasKind : List Range → Expr → Result ExprKind Code → Type 0
HasKind ranges x (Ok k) = (refusal ranges x ≡ None) × (kind ranges x ≡ Some k)
HasKind ranges x (Err code) = refusal ranges x ≡ Some code

-- the code of what has to be a condition, as ON, WHERE and a policy's condition: as of any expression, and 932 for
-- what is no truth
abbrev pub condition_code : List Range → Expr → Option Code
condition_code ranges x = or_code (name_code ranges x) (if kinds.is_truth (kind ranges x) then None else Some WRONG_KIND)

-- the expression resolves as a truth
abbrev pub IsCondition : List Range → Expr → Type 0
IsCondition ranges x = condition_code ranges x ≡ None

-- whether it may stand where a value has to, of this kind or of any
abbrev pub is_value : Option ColumnKind → Option ExprKind → Bool
is_value None k = kinds.is_one_kind (k ∷ [])
is_value (Some wanted) k = kinds.goes_with wanted k

-- the code of what has to be a value, as an item, or an inserted or a set value: as of any expression, and 932 for a
-- truth and for another kind
abbrev pub value_code : Option ColumnKind → List Range → Expr → Option Code
value_code wanted ranges x = or_code (name_code ranges x) (if is_value wanted (kind ranges x) then None else Some WRONG_KIND)

-- what is answered of what has to be a condition
abbrev pub ResolvesAsCondition : List Range → Expr → Result Placed Code → Type 0
ResolvesAsCondition ranges x (Ok tree) = IsResolved ranges x tree × IsTrue (kinds.is_truth (Some (kinds.kind_at tree)))
ResolvesAsCondition ranges x (Err code) = condition_code ranges x ≡ Some code

-- what is answered of what has to be a value
abbrev pub ResolvesAsValue : Option ColumnKind → List Range → Expr → Result Placed Code → Type 0
ResolvesAsValue wanted ranges x (Ok tree) = IsResolved ranges x tree × IsTrue (is_value wanted (Some (kinds.kind_at tree))) × (kinds.kind_at tree ≢ Truth)
ResolvesAsValue wanted ranges x (Err code) = value_code wanted ranges x ≡ Some code
