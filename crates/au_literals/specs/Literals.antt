-- The numbers, moments and texts in the values of INSERT and UPDATE (SQL Language Reference, "Literals").
use Rattle.std.specs.Prelude.{⊤, IsTrue, IsUtf8}
use Rattle.std.specs.List.{AllByRecursion}
use Rattle.au_expr.specs.Soundness.{has_sound_literals}
use Rattle.sql_ast.specs.declared.expression.Expr.{Expr}
use Rattle.sql_ast.specs.declared.expression.Expr.TheVariants.{Literal}
use Rattle.sql_ast.specs.declared.rows.Assignment.{Assignment}
use Rattle.sql_ast.specs.declared.statement.Statement.{Statement}
use Rattle.sql_ast.specs.declared.statement.Statement.TheVariants.{Insert, Update}

-- a value that is a text alone is UTF-8
abbrev pub IsTextLiteral : Expr → Type 0
IsTextLiteral (Literal text) = IsUtf8 text
IsTextLiteral _ = ⊤

-- numbers have at most 18 digits, no moment is over the last one, and a value that is a text alone is UTF-8
abbrev pub IsSoundValue : Expr → Type 0
IsSoundValue value = IsTrue (has_sound_literals value) × IsTextLiteral value

-- so are the values that a statement inserts or sets
abbrev pub AreLiteralsSound : Statement → Type 0
AreLiteralsSound (Insert insert) = AllByRecursion IsSoundValue insert.values
AreLiteralsSound (Update update) = AllByRecursion (λ (assignment : Assignment). IsSoundValue assignment.value) update.assignments
AreLiteralsSound _ = ⊤
