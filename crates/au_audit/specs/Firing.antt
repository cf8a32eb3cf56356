-- Which fine-grained policies demand a record of a statement (PL/SQL Packages and Types Reference, "DBMS_FGA", "ADD_POLICY
-- Procedure"; which rows are touched and which columns are referenced is this project's profile). The truth of a condition
-- over a row of its table is an argument.
use Rattle.std.specs.Prelude.{ℕ, ◌==◌, ◌/◌, ◌%◌, Bool, true, false, not, ◌&&◌, ◌||◌, if◌then◌else◌, List, [], ◌∷◌, map, filter, Option, Some, None}
use Rattle.std.specs.List.{flat_map, list_all, list_any}
use Rattle.std.specs.Str.{bytes_eq}
use Rattle.au_base.specs.declared.action.Action.{Action}
use Rattle.au_base.specs.declared.action.Action.TheVariants as action
use Rattle.au_base.specs.declared.cell.Cell.{Cell}
use Rattle.au_base.specs.declared.code.Code.{Code}
use Rattle.au_base.specs.declared.table.TableName.{TableName}
use Rattle.au_base.specs.declared.truth.Truth.{Truth}
use Rattle.au_base.specs.Order.{fields_before, placed}
use Rattle.au_base.specs.Sameness.{same_table}
use Rattle.au_entries.specs.declared.fine_grained.FgaName.{FgaName}
use Rattle.au_entries.specs.declared.fine_grained.FgaPolicy.{FgaPolicy}
use Rattle.au_entries.specs.declared.policy.Condition.{Condition}
use Rattle.sql_ast.specs.declared.expression.Expr.{Expr}
use Rattle.au_audit.specs.Conditions.{is_yes}

-- what a statement did to rows: its action, the rows that it touched of each table, and the columns that it references of
-- each. A table may stand in both lists more than once, as it may in FROM.
pub record RowFacts : Type 0 where
  pub action : Action
  pub touched : List (TableName × List (List Cell))
  pub named : List (TableName × List (List ℕ))

-- all that stands of the table in these lists
abbrev pub of_table : {X : Type 0} → TableName → List (TableName × List X) → List X
of_table {X} table entries = flat_map (λ (entry : TableName × List X). if same_table entry.0 table then entry.1 else []) entries

-- the number names the kind of statement: 1 for SELECT, 2 for INSERT, 4 for UPDATE and 8 for DELETE are added up in it
abbrev pub names_type : ℕ → Action → Bool
names_type types action.Select = types % 2 == 1
names_type types action.Insert = types / 2 % 2 == 1
names_type types action.Update = types / 4 % 2 == 1
names_type types action.Delete = types / 8 % 2 == 1
names_type types _ = false

-- the column is among those that are referenced
abbrev pub is_referenced : List (List ℕ) → List ℕ → Bool
is_referenced named column = list_any (bytes_eq column) named

-- where there are no relevant columns, any statement references them; else it has to reference one of them, or all
abbrev pub are_referenced : List (List ℕ) → Bool → List (List ℕ) → Bool
are_referenced [] all named = true
are_referenced (column ∷ columns) true named = list_all (is_referenced named) (column ∷ columns)
are_referenced (column ∷ columns) false named = list_any (is_referenced named) (column ∷ columns)

-- the row meets the condition: each does where there is none, and unknown doesn't count
abbrev pub meets : (TableName → Expr → List Cell → Truth) → TableName → Option Condition → List Cell → Bool
meets truth table None row = true
meets truth table (Some condition) row = is_yes (truth table condition.tree row)

-- The policy demands a record: the statement was done, the policy is enabled, its types name the action, its relevant
-- columns are referenced, and some touched row of its table meets its condition.
abbrev pub fires : (TableName → Expr → List Cell → Truth) → Code → RowFacts → FgaPolicy → Bool
fires truth code facts policy =
    code.0 == 0 && (policy.enabled && (names_type policy.types facts.action
    && (are_referenced policy.columns policy.all (of_table policy.name.table facts.named)
    && list_any (meets truth policy.name.table policy.condition) (of_table policy.name.table facts.touched))))

-- ---- their order

-- the fields that order the records of fine-grained policies: the policy's name, the owner and the table
abbrev pub record_fields : FgaName → List (List ℕ)
record_fields name = name.policy ∷ name.table.owner ∷ name.table.name ∷ []

-- the record of the first policy comes before that of the second
abbrev pub record_before : FgaName → FgaName → Bool
record_before a b = fields_before (record_fields a) (record_fields b)

-- the names in the order of their records
abbrev pub in_record_order : List FgaName → List FgaName
in_record_order [] = []
in_record_order (name ∷ names) = placed record_before name (in_record_order names)

-- the fine-grained policies that demand a record of a statement with this code, in the order of their records
abbrev pub fired : (TableName → Expr → List Cell → Truth) → Code → RowFacts → List FgaPolicy → List FgaName
fired truth code facts policies = in_record_order (map (λ policy. policy.name) (filter (fires truth code facts) policies))
