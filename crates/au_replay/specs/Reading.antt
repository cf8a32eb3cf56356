-- Conditions of policies: which texts are read, as which trees, and which trees are truths (Database Security Guide,
-- "Creating Custom Unified Audit Policies"; PL/SQL Packages and Types Reference, "DBMS_FGA.ADD_POLICY"; that a journal may
-- hold sums and products in a condition, which no statement makes, is this project's profile).
use Rattle.std.specs.Prelude.{◌<◌, ◌^◌, ⊤, ℕ, Bool, is_none, is_some, IsTrue, length, List, [], ◌∷◌, Option, Some, None}
use Rattle.au_entries.specs.declared.change.Change.{Change}
use Rattle.au_entries.specs.declared.change.Change.TheVariants.{Policy, Fga}
use Rattle.au_entries.specs.declared.policy.Evaluate.{Evaluate}
use Rattle.au_entries.specs.declared.table.Table.{Table}
use Rattle.au_entries.specs.Replaying.{Conditions}
use Rattle.au_expr.specs.Resolving.{condition_code}
use Rattle.au_expr.specs.Rows.{Range}
use Rattle.sql_ast.specs.declared.expression.Expr.{Expr}
use Rattle.sql_parse.specs.Trees.{tree_of, tree_or_null}

-- the text is one condition by itself
abbrev pub is_read : List ℕ → Bool
is_read text = is_some (tree_of text)

-- The columns that a condition may name: that of an audit policy none; that of a fine-grained policy those of its table, with
-- the table's own name before them or without.
abbrev pub ranges_of : Option Table → List Range
ranges_of None = []
ranges_of (Some table) = (table.name.name, table.columns) ∷ []

-- the tree resolves as a truth over these columns: each name means one of them, each part is of its kind, and the whole is a
-- truth, as NULL is
abbrev pub is_truth : Option Table → Expr → Bool
is_truth over tree = is_none (condition_code (ranges_of over) tree)

-- what conditions are
abbrev pub conditions : Conditions
conditions = record { is_read = is_read; tree = tree_or_null; is_truth = is_truth }

-- the text can be read, and is a truth over the columns of the table, or over none
abbrev pub IsConditionOver : Option Table → List ℕ → Type 0
IsConditionOver over text = IsTrue (conditions.is_read text) × IsTrue (conditions.is_truth over (conditions.tree text))

-- a text that a frame can spell
abbrev pub IsShortText : Option (List ℕ) → Type 0
IsShortText None = ⊤
IsShortText (Some text) = length text < 2 ^ 32

-- the text of an audit policy's condition, where it has one
abbrev pub when_text : Option (Evaluate × List ℕ) → Option (List ℕ)
when_text None = None
when_text (Some when) = Some when.1

-- the text of the change's condition, where it has one, is one that a frame can spell
abbrev pub HasShortText : Change → Type 0
HasShortText (Policy name privileges actions roles when) = IsShortText (when_text when)
HasShortText (Fga table policy condition columns all types enabled) = IsShortText condition
HasShortText _ = ⊤
