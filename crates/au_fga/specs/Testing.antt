-- Which fine-grained policies of a catalogue demand a record now, and when they can be tested (PL/SQL Packages and Types
-- Reference, "DBMS_FGA"; that a condition which overflows is unknown, as only one of a journal may, is this project's
-- profile).
use Rattle.std.specs.Prelude.{⊤, ℕ, IsTrue, List, [], ◌∷◌, find, map, Option, Some, None}
use Rattle.std.specs.Borrow.{Bor}
use Rattle.std.specs.List.{AllByRecursion}
use Rattle.au_base.specs.Codes.{DONE}
use Rattle.au_base.specs.declared.cell.Cell.{Cell}
use Rattle.au_base.specs.declared.table.TableName.{TableName}
use Rattle.au_base.specs.declared.truth.Truth.{Truth}
use Rattle.au_base.specs.declared.truth.Truth.TheVariants.{Unknown}
use Rattle.au_base.specs.Order.{fields_before, is_in_order}
use Rattle.au_base.specs.Sameness.{same_table}
use Rattle.au_audit.specs.Firing as firing
use Rattle.au_audit.specs.Firing.{fired}
use Rattle.au_catalog.specs.declared.catalog.Catalog.{Catalog}
use Rattle.au_entries.specs.declared.fine_grained.FgaName.{FgaName}
use Rattle.au_entries.specs.declared.policy.Condition.{Condition}
use Rattle.au_entries.specs.declared.table.Table.{Table}
use Rattle.au_entries.specs.Changing.{fga_fields, table_fields}
use Rattle.au_expr.specs.Expressions.{value}
use Rattle.au_expr.specs.Resolving.{IsCondition}
use Rattle.au_expr.specs.Rows.{FitsColumns, Range, named}
use Rattle.au_expr.specs.Sessions.{Session}
use Rattle.au_expr.specs.Values.{truth_in}
use Rattle.au_fga.specs.declared.facts.RowFacts.{RowFacts}
use Rattle.sql_ast.specs.declared.expression.Expr.{Expr}

-- the table of this name among those of the catalogue
abbrev pub table_of : List Table → TableName → Option Table
table_of tables name = find (λ table. same_table table.name name) tables

-- what a condition on the table may name: its columns, with the table's own name before them or without
abbrev pub range_of : Table → Range
range_of table = (table.name.name, table.columns)

-- the truth of a condition over a row of the table, by the event's user, session and moment
abbrev pub truth_in_table : Session → Option Table → Expr → List Cell → Truth
truth_in_table session None tree cells = Unknown
truth_in_table session (Some table) tree cells = truth_in (value (named (range_of table ∷ []) (cells ∷ [])) session tree)

abbrev pub truth_over : Session → List Table → TableName → Expr → List Cell → Truth
truth_over session tables name = truth_in_table session (table_of tables name)

-- the rows as they are lent, and as they are seen
abbrev pub seen_rows : TableName × List (Bor (List Cell)) → TableName × List (List Cell)
seen_rows entry = (entry.0, map (λ (cells : Bor (List Cell)). cells.now) entry.1)

abbrev pub seen : RowFacts → firing.RowFacts
seen facts = record { action = facts.action; touched = map seen_rows facts.touched; named = facts.named }

-- the policies of the catalogue that demand a record of a statement that was done, in the order of their records
abbrev pub firing_now : Catalog → Session → firing.RowFacts → List FgaName
firing_now catalog session facts = fired (truth_over session catalog.tables) DONE facts catalog.fga

-- the condition of a fine-grained policy, where it has one, resolves as a truth over its table, which is there
abbrev pub IsTruthOver : Option Table → Option Condition → Type 0
IsTruthOver table None = ⊤
IsTruthOver None (Some condition) = ⊥
IsTruthOver (Some table) (Some condition) = IsCondition (range_of table ∷ []) condition.tree

-- The fine-grained policies of the catalogue can be tested: their conditions are truths over their tables, and they and the
-- tables stand in order. It is so of all that is lawful.
pub record CanBeTested (catalog : Catalog) : Type 0 where
  pub truths : AllByRecursion (λ policy. IsTruthOver (table_of catalog.tables policy.name.table) policy.condition) catalog.fga
  pub tables : IsTrue (is_in_order fields_before (map (λ table. table_fields table.name) catalog.tables))
  pub fga : IsTrue (is_in_order fields_before (map (λ policy. fga_fields policy.name.table policy.name.policy) catalog.fga))

-- the rows of a table of the catalogue have one cell a column, NULL or of the column's kind
abbrev pub FitTable : Option Table → List (List Cell) → Type 0
FitTable None rows = ⊤
FitTable (Some table) rows = AllByRecursion (FitsColumns table.columns) rows

-- all rows fit their tables; of a table that isn't of the catalogue, as a built-in one, nothing is asked
abbrev pub RowsFit : List Table → List (TableName × List (List Cell)) → Type 0
RowsFit tables touched = AllByRecursion (λ (entry : TableName × List (List Cell)). FitTable (table_of tables entry.0) entry.1) touched
