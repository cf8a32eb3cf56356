-- What became of the condition in a statement: which text it is, over which table, and what that is read as (Database Security
-- Guide, "Creating Custom Unified Audit Policies"; PL/SQL Packages and Types Reference, "DBMS_FGA.ADD_POLICY"; what the
-- condition of a policy may hold, and the codes, are this project's profile).
use Rattle.std.specs.Prelude.{◌^◌, ℕ, nat_lt, Bool, if◌then◌else◌, List, length, find, Option, Some, None}
use Rattle.au_base.specs.Sameness.{same_table}
use Rattle.au_base.specs.declared.code.Code.{Code}
use Rattle.au_base.specs.declared.table.TableName.{TableName}
use Rattle.au_calls.specs.declared.requests.FgaParts.{FgaParts}
use Rattle.au_calls.specs.FineGrained.{parts_of, target_of}
use Rattle.au_entries.specs.declared.decision.ReadCondition.{ReadCondition}
use Rattle.au_entries.specs.declared.decision.ReadCondition.TheVariants.{NotAsked, Bad, Wrong, Tree}
use Rattle.au_entries.specs.declared.fine_grained.FgaName.{FgaName}
use Rattle.au_entries.specs.declared.table.Table.{Table}
use Rattle.au_expr.specs.Conditions.{is_plain}
use Rattle.au_expr.specs.Resolving.{condition_code}
use Rattle.au_expr.specs.Rows.{Range}
use Rattle.au_replay.specs.Reading.{ranges_of}
use Rattle.sql_ast.specs.declared.administration.PolicyCondition.{PolicyCondition}
use Rattle.sql_ast.specs.declared.call.Argument.{Argument}
use Rattle.sql_ast.specs.declared.call.Procedure.{Procedure}
use Rattle.sql_ast.specs.declared.call.Procedure.TheVariants.{AddPolicy}
use Rattle.sql_ast.specs.declared.expression.Expr.{Expr}
use Rattle.sql_ast.specs.declared.statement.Statement.{Statement}
use Rattle.sql_ast.specs.declared.statement.Statement.TheVariants.{CreatePolicy, Call}
use Rattle.sql_parse.specs.Trees.{tree_of}

-- ---- what a text is read as

-- the tree of the text is refused with the code, or else is the condition
abbrev pub by_code : List ℕ → Expr → Option Code → ReadCondition
by_code text tree (Some code) = Wrong code
by_code text tree None = Tree (record { text = text; tree = tree })

-- A policy may have the tree where it is plain: it holds no `+` and no `*`, and `-` only as a sign before a number. Then a name
-- that doesn't mean one of these columns refuses it, or else a wrong kind.
abbrev pub read_tree : List Range → List ℕ → Expr → ReadCondition
read_tree ranges text tree = if is_plain tree then by_code text tree (condition_code ranges tree) else Bad

-- the text is one condition, as this tree, or none
abbrev pub read_as : List Range → List ℕ → Option Expr → ReadCondition
read_as ranges text None = Bad
read_as ranges text (Some tree) = read_tree ranges text tree

-- a frame can spell the text; each that stands in a statement is so short
abbrev pub is_short : List ℕ → Bool
is_short text = nat_lt (length text) (2 ^ 32)

-- what became of the text as a condition over these columns
abbrev pub read_text : List Range → List ℕ → ReadCondition
read_text ranges text = if is_short text then read_as ranges text (tree_of text) else Bad

-- what became of the text as a condition over the columns of the table, or over none
abbrev pub read_over : Option Table → List ℕ → ReadCondition
read_over over text = read_text (ranges_of over) text

-- ---- the condition in a statement

-- the condition of a new audit policy, where it has one, is over no table
abbrev pub audit_condition : Option PolicyCondition → Option (Option Table × List ℕ)
audit_condition None = None
audit_condition (Some condition) = Some (None, condition.text)

-- the table of this name, where it is there
abbrev pub table_named : List Table → TableName → Option Table
table_named tables name = find (λ table. same_table table.name name) tables

-- the text over the table, where both are there
abbrev pub over_table : Option Table → Option (List ℕ) → Option (Option Table × List ℕ)
over_table (Some table) (Some text) = Some (Some table, text)
over_table _ _ = None

-- the condition of a new fine-grained policy is over the policy's table, where the call can be read
abbrev pub fga_condition : List Table → Option FgaName → Option FgaParts → Option (Option Table × List ℕ)
fga_condition tables (Some target) (Some parts) = over_table (table_named tables target.table) parts.condition
fga_condition tables _ _ = None

-- of all calls only that of ADD_POLICY has a condition
abbrev pub call_condition : List Table → List ℕ → Procedure → List Argument → Option (Option Table × List ℕ)
call_condition tables user AddPolicy arguments = fga_condition tables (target_of user arguments) (parts_of arguments)
call_condition tables user _ arguments = None

-- the text of the condition in the user's statement, with the table that it is over, where there is one
abbrev pub condition_in : List Table → List ℕ → Statement → Option (Option Table × List ℕ)
condition_in tables user (CreatePolicy create) = audit_condition create.condition
condition_in tables user (Call call) = call_condition tables user call.procedure call.arguments
condition_in tables user _ = None

-- what became of a condition, where there is one
abbrev pub read_where : Option (Option Table × List ℕ) → ReadCondition
read_where None = NotAsked
read_where (Some condition) = read_over condition.0 condition.1

-- what became of the condition in the user's statement, where the catalogue has these tables
abbrev pub condition_read : List Table → List ℕ → Statement → ReadCondition
condition_read tables user statement = read_where (condition_in tables user statement)
