-- The catalogue changes by its parts.
use Rattle.std.proofs.Common.{◌≡◌, ℕ, List, [], ◌∷◌, refl}
use Rattle.au_entries.specs.declared.change.Change.{Change}
use Rattle.au_entries.specs.declared.kept.Kept.{Kept}
use Rattle.au_entries.specs.Changing.{changed, changed_all}
use Rattle.au_catalog.specs.Settling.{catalog_after_all, catalog_of}
use Rattle.sql_ast.specs.declared.expression.Expr.{Expr}

pub by_parts : (tree : List ℕ → Expr) (changes : List Change) (kept : Kept) → catalog_of (changed_all tree changes kept) ≡ catalog_after_all tree changes (catalog_of kept)
by_parts tree [] kept = refl
by_parts tree (change ∷ changes) kept = by_parts tree changes (changed tree change kept)
