-- What the code answers of all tokens.
use Rattle.std.specs.Prelude.{List, Option, None, if◌then◌else◌}
use Rattle.sql_lex.specs.declared.token.Kind.{Kind}
use Rattle.sql_ast.specs.declared.expression.Expr.{Expr}
use Rattle.sql_parse.specs.descent.Reading.{whole, cond, inside}
use Rattle.sql_parse.specs.Conditions.{limit, opens_few}

abbrev pub condition : List Kind → Option Expr
condition ts = if opens_few 0 ts then whole (cond (inside limit) ts) else None
