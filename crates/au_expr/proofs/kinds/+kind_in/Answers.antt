use Rattle.std.proofs.Common.{◌≡◌, ◌∙◌, sym, ap, ◌∷◌, map, Bool, List, Option}
use Rattle.std.specs.List.{list_all}
use Rattle.au_base.specs.declared.table.ColumnKind.TheVariants.{Number}
use Rattle.sql_ast.specs.declared.expression.Expr.{Expr}
use Rattle.sql_ast.specs.declared.expression.Expr.TheVariants as e
use Rattle.sql_ast.specs.declared.expression.Expr.TheOpen as part
use Rattle.sql_ast.specs.declared.expression.Expr.TheFolds.{fold-roll-Expr}
use Rattle.au_expr.specs.declared.kind.ExprKind.{ExprKind}
use Rattle.au_expr.specs.declared.kind.ExprKind.TheVariants.{Of}
use Rattle.au_expr.specs.Descent.{kinds_in_sum}
use Rattle.au_expr.specs.Kinds.{given_where, goes_with, kind, step}
use Rattle.au_expr.specs.Rows.{Range}
use Rattle.au_expr.proofs.Agreeing.{agreed_is}
use Rattle.au_expr.proofs.kinds.+kind_in.Goals as goal

kind_of_sum : (ranges : List Range) (parts : List (Bool × Expr)) → kind ranges (e.Sum parts) ≡ given_where (Of Number) (list_all (goes_with Number) (kinds_in_sum ranges parts))
kind_of_sum ranges parts = ap (kind ranges) (sym (e.rolls-Sum parts)) ∙ fold-roll-Expr (Option ExprKind) (step ranges) (part.Sum parts)

pub agrees_with_all-loop-other-init : goal.agrees_with_all-loop-other-init
agrees_with_all-loop-other-init t c = rw (c.with-agreed.ensures, c.everything.ensures) (agreed_is (c.args.first ∷ map (kind c.args.ranges.now) c.args.others.now))

pub kind_in-returns-in-Sum : goal.kind_in-returns-in-Sum
kind_in-returns-in-Sum t c = rw (c.in-Sum.is, kind_of_sum)
    (c.number_where.ensures ∙ ap (given_where (Of Number))
    (c.are_summands.ensures ∙ ap (λ ps. list_all (goes_with Number) (kinds_in_sum c.args.ranges.now ps)) c.as_slice-in-Sum.ensures))
