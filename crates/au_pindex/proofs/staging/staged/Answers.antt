use Rattle.std.proofs.Common.{◌≡◌, List, [], ◌∷◌, ℕ, map, subst, sym}
use Rattle.au_catalog.specs.Settling.{catalog_after_all, condition_texts}
use Rattle.au_entries.specs.declared.change.Change.{Change}
use Rattle.au_policy.specs.Asking.{CanBeAsked}
use Rattle.au_pindex.specs.Staging.{IsStaged}
use Rattle.au_pindex.proofs.Afterwards.{only_one}
use Rattle.au_pindex.proofs.staging.staged.Goals as goal
use Rattle.sql_ast.specs.declared.expression.Expr.{Expr}

pub edit_for-requires-clause-after : goal.edit_for-requires-clause-after
edit_for-requires-clause-after c =
    let change = c.index-changes-0.result in
    let one : c.args.changes.now ≡ change ∷ [] = only_one c.args.changes.now change c.if-changes-eq1.true c.index-changes-0.is in
    subst (λ (changes : List Change). (tree : List ℕ → Expr) × (map tree (condition_texts changes) ≡ c.args.trees.now) × CanBeAsked (catalog_after_all tree changes c.args.catalog.now)) one c.requires.after

pub returns-then-changes-eq1-clause-staged : goal.returns-then-changes-eq1-clause-staged
returns-then-changes-eq1-clause-staged c =
    let change = c.index-changes-0.result in
    let one : c.args.changes.now ≡ change ∷ [] = only_one c.args.changes.now change c.if-changes-eq1.true c.index-changes-0.is in
    subst (λ (changes : List Change). (tree : List ℕ → Expr) → map tree (condition_texts changes) ≡ c.args.trees.now
    → IsStaged c.args.catalog.now (catalog_after_all tree changes c.args.catalog.now) (record { edit = c.in_ok-edit.edit })) (sym one) c.in_ok-edit.ensures.leads
