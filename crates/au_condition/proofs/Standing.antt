-- A condition that isn't refused can be read, and is a truth.
use Rattle.std.proofs.Common.{◌≡◌, ◌∙◌, ℕ, Bool, true, false, List, Option, Some, None, refl, sym, ap, ap₂, subst}
use Rattle.std.specs.Prelude.{is_none, is_some, if◌then◌else◌, option_map}
use Rattle.au_admin.specs.Going.{IsReadIn}
use Rattle.au_base.specs.declared.code.Code.{Code}
use Rattle.au_calls.specs.declared.requests.FgaParts.{FgaParts}
use Rattle.au_calls.specs.Calling.{IsCallRead}
use Rattle.au_calls.specs.FineGrained.{parts_of, target_of}
use Rattle.au_calls.specs.Going.{IsReadAs}
use Rattle.au_calls.specs.Reading.{is_bad, is_wrong}
use Rattle.au_condition.specs.Reading.{audit_condition, by_code, call_condition, condition_read, fga_condition, is_short, over_table, read_as, read_over, read_where, table_named}
use Rattle.au_condition.proofs.Tables.{found}
use Rattle.au_entries.specs.declared.decision.ReadCondition.{ReadCondition}
use Rattle.au_entries.specs.declared.decision.ReadCondition.TheVariants.{Bad}
use Rattle.au_entries.specs.declared.fine_grained.FgaName.{FgaName}
use Rattle.au_entries.specs.declared.kept.Kept.{Kept}
use Rattle.au_entries.specs.declared.table.Table.{Table}
use Rattle.au_entries.specs.Lawful.{IsLawful}
use Rattle.au_expr.specs.Conditions.{is_plain}
use Rattle.au_expr.specs.Resolving.{condition_code}
use Rattle.au_expr.specs.Rows.{Range}
use Rattle.au_replay.specs.Reading.{IsConditionOver, conditions, ranges_of}
use Rattle.sql_ast.specs.declared.administration.PolicyCondition.{PolicyCondition}
use Rattle.sql_ast.specs.declared.call.Argument.{Argument}
use Rattle.sql_ast.specs.declared.call.Call.{Call as AnyCall}
use Rattle.sql_ast.specs.declared.call.Procedure.{Procedure}
use Rattle.sql_ast.specs.declared.call.Procedure.TheVariants as procedure
use Rattle.sql_ast.specs.declared.expression.Expr.{Expr}
use Rattle.sql_ast.specs.declared.statement.Statement.{Statement}
use Rattle.sql_ast.specs.declared.statement.Statement.TheVariants.{Select, Count, Insert, Update, Delete, Commit, Rollback, CreateTable, DropTable, CreateUser, AlterUser, DropUser, CreateRole, DropRole, Grant, CreatePolicy, DropPolicy, Audit, Noaudit, Call}
use Rattle.sql_parse.specs.Trees.{or_null, tree_of}

-- ---- texts

-- no code refuses it
code_none : (text : List ℕ) (tree : Expr) (code : Option Code) → is_wrong (by_code text tree code) ≡ false → is_none code ≡ true
code_none text tree (Some code) right = absurd (let e : true ≡ false = right in cc)
code_none text tree None right = refl

-- what isn't bad is what stands behind the test
tested : (P : Type 0) (test : Bool) (read : ReadCondition) → (is_bad read ≡ false → is_wrong read ≡ false → P)
    → is_bad (if test then read else Bad) ≡ false → is_wrong (if test then read else Bad) ≡ false → P
tested P true read holds good right = holds good right
tested P false read holds good right = absurd (let e : true ≡ false = good in cc)

-- the text is one condition, and nothing refuses its tree
abbrev Resolves : List Range → Option Expr → Type 0
Resolves ranges reading = (is_some reading ≡ true) × (is_none (condition_code ranges (or_null reading)) ≡ true)

as_resolves : (ranges : List Range) (text : List ℕ) (reading : Option Expr) → is_bad (read_as ranges text reading) ≡ false → is_wrong (read_as ranges text reading) ≡ false → Resolves ranges reading
as_resolves ranges text None good right = absurd (let e : true ≡ false = good in cc)
as_resolves ranges text (Some tree) good right =
    (refl, tested (is_none (condition_code ranges tree) ≡ true) (is_plain tree) (by_code text tree (condition_code ranges tree)) (λ good right. code_none text tree (condition_code ranges tree) right) good right)

text_stands : (over : Option Table) (text : List ℕ) → is_bad (read_over over text) ≡ false → is_wrong (read_over over text) ≡ false → IsConditionOver over text
text_stands over text =
    tested (IsConditionOver over text) (is_short text) (read_as (ranges_of over) text (tree_of text)) (λ good right. as_resolves (ranges_of over) text (tree_of text) good right)

-- ---- statements

audit_reads : (condition : Option PolicyCondition) → IsReadAs conditions None (option_map (λ condition. condition.text) condition) (read_where (audit_condition condition))
audit_reads None = tt
audit_reads (Some condition) = text_stands None condition.text

table_reads : (table : Table) (condition : Option (List ℕ)) → IsReadAs conditions (Some table) condition (read_where (over_table (Some table) condition))
table_reads table None = tt
table_reads table (Some text) = text_stands (Some table) text

-- the condition of a call of ADD_POLICY that can be read, whose table is found
asked_in : (tables : List Table) (user : List ℕ) (name : Procedure) (arguments : List Argument) (target : FgaName) (parts : FgaParts) (table : Table)
    → name ≡ procedure.AddPolicy → target_of user arguments ≡ Some target → parts_of arguments ≡ Some parts → table_named tables target.table ≡ Some table
    → call_condition tables user name arguments ≡ over_table (Some table) parts.condition
asked_in tables user name arguments target parts table adds aimed given there =
    ap (λ (name : Procedure). call_condition tables user name arguments) adds
    ∙ ap₂ (λ (target : Option FgaName) (parts : Option FgaParts). fga_condition tables target parts) aimed given
    ∙ ap (λ (table : Option Table). over_table table parts.condition) there

call_reads : (kept : Kept) → IsLawful conditions kept → (user : List ℕ) (call : AnyCall) → IsCallRead conditions kept user call (read_where (call_condition kept.tables user call.procedure call.arguments))
call_reads kept lawful user call adds target parts table aimed given there =
    subst (λ (asked : Option (Option Table × List ℕ)). IsReadAs conditions (Some table) parts.condition (read_where asked))
    (sym (asked_in kept.tables user call.procedure call.arguments target parts table adds aimed given (found kept.tables target.table table lawful.ordered.tables there.0 there.1)))
    (table_reads table parts.condition)

pub reads : (kept : Kept) (user : List ℕ) (statement : Statement) → IsLawful conditions kept → IsReadIn conditions kept user statement (condition_read kept.tables user statement)
reads kept user (CreatePolicy create) lawful = audit_reads create.condition
reads kept user (Call call) lawful = call_reads kept lawful user call
reads kept user (Select x) lawful = tt
reads kept user (Count x) lawful = tt
reads kept user (Insert x) lawful = tt
reads kept user (Update x) lawful = tt
reads kept user (Delete x) lawful = tt
reads kept user Commit lawful = tt
reads kept user Rollback lawful = tt
reads kept user (CreateTable x) lawful = tt
reads kept user (DropTable x) lawful = tt
reads kept user (CreateUser x y) lawful = tt
reads kept user (AlterUser x y) lawful = tt
reads kept user (DropUser x) lawful = tt
reads kept user (CreateRole x) lawful = tt
reads kept user (DropRole x) lawful = tt
reads kept user (Grant x) lawful = tt
reads kept user (DropPolicy x) lawful = tt
reads kept user (Audit x) lawful = tt
reads kept user (Noaudit x y) lawful = tt
