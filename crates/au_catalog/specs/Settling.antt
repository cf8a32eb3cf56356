-- What changes make of the catalogue: of each part what they make of it wherever it is kept. Which tree the text of a
-- condition is read as is an argument.
use Rattle.std.specs.Prelude.{ℕ, List, [], ◌∷◌, ◌++◌, Option, Some, None, option_to_list}
use Rattle.au_entries.specs.declared.change.Change.{Change}
use Rattle.au_entries.specs.declared.change.Change.TheVariants.{Policy, Fga}
use Rattle.au_entries.specs.declared.kept.Kept.{Kept}
use Rattle.au_entries.specs.declared.policy.Evaluate.{Evaluate}
use Rattle.au_entries.specs.Changing.{archive_after, enabled_after, fga_after, policies_after, roles_after, tables_after, users_after}
use Rattle.au_catalog.specs.declared.catalog.Catalog.{Catalog}
use Rattle.sql_ast.specs.declared.expression.Expr.{Expr}

-- the catalogue of what is kept
abbrev pub catalog_of : Kept → Catalog
catalog_of kept = record {
  users = kept.users;
  roles = kept.roles;
  tables = kept.tables;
  policies = kept.policies;
  enabled = kept.enabled;
  fga = kept.fga;
  archive = kept.archive;
}

-- the catalogue after the change
abbrev pub catalog_after : (List ℕ → Expr) → Change → Catalog → Catalog
catalog_after tree change catalog = record {
  users = users_after change catalog.users;
  roles = roles_after change catalog.roles;
  tables = tables_after change catalog.tables;
  policies = policies_after tree change catalog.policies;
  enabled = enabled_after change catalog.enabled;
  fga = fga_after tree change catalog.fga;
  archive = archive_after change catalog.archive;
}

-- the catalogue after all changes, in their order
abbrev pub catalog_after_all : (List ℕ → Expr) → List Change → Catalog → Catalog
catalog_after_all tree [] catalog = catalog
catalog_after_all tree (change ∷ changes) catalog = catalog_after_all tree changes (catalog_after tree change catalog)

-- the text of the condition of an audit policy, where it has one
abbrev pub when_texts : Option (Evaluate × List ℕ) → List (List ℕ)
when_texts None = []
when_texts (Some when) = when.1 ∷ []

-- the texts of the conditions that a change holds: one at most, of an audit policy or of a fine-grained one
abbrev pub texts_in : Change → List (List ℕ)
texts_in (Policy name privileges actions roles when) = when_texts when
texts_in (Fga table policy condition columns all types enabled) = option_to_list condition
texts_in _ = []

-- the texts of the conditions that changes hold, in their order: as many trees are staged with them
abbrev pub condition_texts : List Change → List (List ℕ)
condition_texts [] = []
condition_texts (change ∷ changes) = texts_in change ++ condition_texts changes
