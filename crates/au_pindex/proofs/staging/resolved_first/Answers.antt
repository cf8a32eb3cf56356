use Rattle.std.proofs.Common.{◌∙◌, List, [], ap, arith, get_or, length, subst, sym}
use Rattle.std.proofs.lemmas.Result.{IfOk-weaker}
use Rattle.std.specs.Prelude.{Some}
use Rattle.au_expr.specs.Resolving.{IsCondition, placed}
use Rattle.au_pindex.proofs.staging.resolved_first.Goals as goal
use Rattle.sql_ast.specs.declared.expression.Expr.{Expr}

pub bounds-trees-0 : goal.bounds-trees-0
bounds-trees-0 c = omega (arith, ap length c.requires.1)

pub resolved_tree-requires : goal.resolved_tree-requires
resolved_tree-requires c =
    let first = c.index-trees-0.result in
    subst (IsCondition []) (sym (c.index-trees-0.is ∙ ap (λ (trees : List Expr). get_or trees 0 first) c.requires.1)) c.requires.2

pub returns : goal.returns
returns c =
    let first = c.index-trees-0.result in
    IfOk-weaker c.resolved_tree.result _ _
    (λ condition said tree one. said ∙ ap (λ (t : Expr). Some (placed [] t)) (c.index-trees-0.is ∙ ap (λ (trees : List Expr). get_or trees 0 first) one))
    c.resolved_tree.ensures
