-- What the condition of a policy may hold (Database Security Guide, "Creating Custom Unified Audit Policies";
-- DBMS_FGA, "ADD_POLICY Procedure"; the choice is this project's profile).
use Rattle.std.specs.Prelude.{Bool, true, false, [], ◌∷◌}
use Rattle.std.specs.List.{list_all}
use Rattle.sql_ast.specs.declared.expression.Expr.{Expr}
use Rattle.sql_ast.specs.declared.expression.Expr.TheOpen as part
use Rattle.sql_ast.specs.declared.expression.Expr.TheFolds.{fold-Expr}

-- how plain a tree is: a number, another tree that a condition may hold, or one that it may not
pub data Plainness : Type 0 where
  Digits : Plainness
  Plain : Plainness
  Refused : Plainness

abbrev pub may_stand : Plainness → Bool
may_stand Digits = true
may_stand Plain = true
may_stand Refused = false

abbrev pub plain_where : Bool → Plainness
plain_where true = Plain
plain_where false = Refused

-- `-` stands only as a sign before a number
abbrev pub signed : Plainness → Plainness
signed Digits = Plain
signed _ = Refused

abbrev pub step : part.Expr-F Plainness → Plainness
step (part.Or parts) = plain_where (list_all may_stand parts)
step (part.And parts) = plain_where (list_all may_stand parts)
step (part.Not a) = plain_where (may_stand a)
step (part.Compare asked a b) = plain_where (list_all may_stand (a ∷ b ∷ []))
step (part.IsNull a negated) = plain_where (may_stand a)
step (part.Like text pattern negated) = plain_where (list_all may_stand (text ∷ pattern ∷ []))
step (part.In a choices negated) = plain_where (list_all may_stand (a ∷ choices))
step (part.Between a low high negated) = plain_where (list_all may_stand (a ∷ low ∷ high ∷ []))
step (part.Sum parts) = Refused
step (part.Product parts) = Refused
step (part.Negate a) = signed a
step (part.Number n) = Digits
step _ = Plain

abbrev pub plainness : Expr → Plainness
plainness = fold-Expr Plainness step

-- no `+` and no `*`, and `-` only as a sign before a number
abbrev pub is_plain : Expr → Bool
is_plain x = may_stand (plainness x)
