use Rattle.std.proofs.Common.{◌∙◌, sym, ap₂}
use Rattle.std.proofs.lemmas.Option.{IfSome_then}
use Rattle.au_fga.proofs.Compared.{column_first, column_second}
use Rattle.au_fga.proofs.comparing.comparison_of.Goals as goal
use Rattle.sql_ast.specs.declared.expression.Expr.{Expr}
use Rattle.sql_ast.specs.declared.expression.Expr.TheVariants as expr

pub returns-in-Some : goal.returns-in-Some
returns-in-Some c =
    column_first c.names_or_places.ensures c.args.table.now c.args.tree.now c.in-Compare.relation c.get.result.now c.get-in-Compare.result.now c.in-Some.comparison
    (c.in-Compare.is ∙ ap₂ (λ (a b : Expr). expr.Compare c.in-Compare.relation a b) (sym c.get.ensures) (sym c.get-in-Compare.ensures))
    c.requires c.in-Some.ensures

pub returns-in-None : goal.returns-in-None
returns-in-None c =
    IfSome_then c.column_with-in-None.result c.column_with-in-None.ensures
    (λ comparison sides. column_second c.names_or_places.ensures c.args.table.now c.args.tree.now c.in-Compare.relation c.turned.result c.get-in-None-2.result.now c.get-in-None.result.now comparison
    (c.in-Compare.is ∙ ap₂ (λ (a b : Expr). expr.Compare c.in-Compare.relation a b) (sym c.get-in-None-2.ensures) (sym c.get-in-None.ensures))
    c.requires c.turned.ensures sides)
