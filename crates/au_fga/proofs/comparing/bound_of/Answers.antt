use Rattle.std.proofs.Common.{◌≡◌, ◌∙◌, [], ◌∷◌, rules, ap, w64, to_z, of_z}
use Rattle.au_base.specs.declared.cell.Cell.TheVariants as cell
use Rattle.au_expr.specs.Placing.{value_at}
use Rattle.au_expr.specs.Resolving.{placed}
use Rattle.au_expr.specs.Values.{Is}
use Rattle.au_fga.specs.Testing.{range_of}
use Rattle.au_fga.proofs.Compared.{number_given, some_bytes, text_found}
use Rattle.au_fga.proofs.comparing.bound_of.Goals as goal
use Rattle.sql_ast.specs.declared.expression.Expr.{Expr}

pub returns-in-Number : goal.returns-in-Number
returns-in-Number c = λ table session cells.
    ap (λ (x : Expr). value_at (cells ∷ []) session (placed (range_of table ∷ []) x)) c.in-Number.is
    ∙ number_given table c.in-Number.number session cells
    ∙ ap (λ n. Is (cell.Num n)) (let e : c.in-Number.number ≡ to_z w64 (of_z w64 c.in-Number.number) = search rules in e)

pub returns-in-Literal : goal.returns-in-Literal
returns-in-Literal c = λ table.
    text_found table c.args.side.now c.in-Literal.text c.in-Literal.is
    (some_bytes c.as_bytes.result.now c.in-Literal.text c.is_empty.result c.as_bytes.ensures.value c.is_empty.ensures c.if-not-is_empty.true)
