use Rattle.std.proofs.Common.{◌∙◌, List, ap, subst, sym}
use Rattle.std.proofs.lemmas.Result.{IfOk-weaker}
use Rattle.std.specs.Vec.Iter.{into_iter_items}
use Rattle.au_catalog.specs.Staging.{Fits, Staged, edits_with}
use Rattle.au_catalog.proofs.Spared.{fits_own}
use Rattle.au_catalog.proofs.TreesStaged.{read_trees}
use Rattle.au_catalog.proofs.catalog.Catalog.stage.Goals as goal
use Rattle.sql_ast.specs.declared.expression.Expr.{Expr}

pub returns-clause-edits : goal.returns-clause-edits
returns-clause-edits c =
    IfOk-weaker c.of.result _ _ (λ staged is. ap (λ (ready : Staged). ready.edits) is ∙ ap (λ (trees : List Expr). edits_with trees c.args.changes.now) c.into_iter-trees.ensures.rest) c.of.ensures

pub returns-clause-staged : goal.returns-clause-staged
returns-clause-staged c =
    IfOk-weaker c.of.result _ _
    (λ staged is. λ tree same. ap (λ (ready : Staged). ready.edits) is ∙ read_trees tree c.args.changes.now (into_iter_items c.into_iter-trees.result) (same ∙ sym c.into_iter-trees.ensures.rest)) c.of.ensures

pub returns-clause-fits : goal.returns-clause-fits
returns-clause-fits c =
    IfOk-weaker c.of.result _ _
    (λ staged is. subst (λ (ready : Staged). Fits ready c.args.self.now) (sym is) (fits_own (edits_with (into_iter_items c.into_iter-trees.result) c.args.changes.now) c.args.self.now)) c.of.ensures
