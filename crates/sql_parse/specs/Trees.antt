-- The tree of a condition's text, as a function of the text.
use Rattle.std.specs.Prelude.{ℕ, List, Option, Some, None}
use Rattle.sql_lex.specs.descent.Cutting.{tokens_of}
use Rattle.sql_ast.specs.declared.expression.Expr.{Expr}
use Rattle.sql_ast.specs.declared.expression.Expr.TheVariants.{Null}
use Rattle.sql_parse.specs.Symbols.{kinds}
use Rattle.sql_parse.specs.descent.Reading.{◌>>=◌}
use Rattle.sql_parse.specs.descent.Answers.{condition}

-- The tree that a text is read as, where it is one condition by itself, in which no more than 100 parentheses are open at
-- once, or else none. `ReadsCondition` says what that is; `tree_is_condition` is the law that both agree, in both directions.
unfoldable pub tree_of : List ℕ → Option Expr
tree_of text = tokens_of text >>= λ ts. condition (kinds ts)

-- the tree, or NULL where there is none
abbrev pub or_null : Option Expr → Expr
or_null (Some x) = x
or_null None = Null

-- a tree for any text: that of a condition, and NULL of a text that is none
abbrev pub tree_or_null : List ℕ → Expr
tree_or_null text = or_null (tree_of text)
