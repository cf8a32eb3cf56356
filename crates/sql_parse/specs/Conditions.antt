-- What a condition's text is.
use Rattle.std.specs.Prelude.{◌≡◌, ℕ, ◌+◌, ◌-◌, Bool, true, ◌&&◌, nat_lt, List, [], ◌∷◌}
use Rattle.au_base.specs.Limits.{OPEN_PARENTHESES}
use Rattle.sql_lex.specs.declared.token.Kind.{Kind}
use Rattle.sql_lex.specs.declared.token.Kind.TheVariants.{Mark}
use Rattle.sql_lex.specs.declared.token.Mark.TheVariants as mark
use Rattle.sql_lex.specs.declared.token.Token.{Token}
use Rattle.sql_lex.specs.Tokens.{AreTokens}
use Rattle.sql_ast.specs.declared.expression.Expr.{Expr}
use Rattle.sql_parse.specs.Symbols.{kinds}
use Rattle.sql_parse.specs.Expressions.{Cond, Within}

-- how many parentheses may be open at once
abbrev pub limit : ℕ
limit = OPEN_PARENTHESES

-- No more than the limit of parentheses are open at once, where this many are open already. A closing one closes nothing
-- where none is open.
abbrev pub opens_few : ℕ → List Kind → Bool
opens_few n [] = true
opens_few n (Mark mark.OpenParenthesis ∷ ts) = nat_lt n limit && opens_few (n + 1) ts
opens_few n (Mark mark.CloseParenthesis ∷ ts) = opens_few (n - 1) ts
opens_few n (t ∷ ts) = opens_few n ts

-- the tokens are this condition, all of them, however deep it nests
pub record IsCondition (ts : List Kind) (x : Expr) : Type 0 where
  pub few : opens_few 0 ts ≡ true
  pub depth : ℕ
  pub derived : Cond (Within depth) ts x []

-- the text is this condition
pub record ReadsCondition (text : List ℕ) (x : Expr) : Type 0 where
  pub tokens : List Token
  pub cut : AreTokens text tokens
  pub condition : IsCondition (kinds tokens) x

-- the text is no condition
abbrev pub HasNoCondition : List ℕ → Type 0
HasNoCondition text = (x : Expr) → ¬ (ReadsCondition text x)
