-- How the calls of DBMS_FGA are decided (PL/SQL Packages and Types Reference, "DBMS_FGA"; the order of the rules and their
-- codes are this project's profile).
use Rattle.std.specs.Prelude.{◌||◌, ℕ, Bool, true, false, not, if◌then◌else◌, List, [], ◌∷◌, length, Option, Some, None, find, option_map}
use Rattle.std.specs.List.{list_any}
use Rattle.std.specs.Str.{bytes_eq}
use Rattle.au_calls.specs.declared.requests.FgaFlags.{FgaFlags}
use Rattle.au_calls.specs.declared.requests.FgaParts.{FgaParts}
use Rattle.au_calls.specs.declared.rights.AuditRights.{AuditRights}
use Rattle.au_calls.specs.Arguments.{given, truth_in}
use Rattle.au_calls.specs.Literals.{columns_by, is_null, kinds_by, name_in, option_in, owner_by, text_in}
use Rattle.au_calls.specs.Reading.{is_bad, is_wrong, wrong_code}
use Rattle.au_calls.specs.Rules.{changes_alone, decided}
use Rattle.au_calls.specs.Settings.{AuditSetting}
use Rattle.au_base.specs.Codes.{BAD_ARGUMENT, FINE_GRAINED_POLICY_PRESENT, NO_SUCH_FINE_GRAINED_POLICY, NO_SUCH_TABLE, TOO_MANY_OBJECTS, UNKNOWN_COLUMN}
use Rattle.au_base.specs.Sameness.{same_table}
use Rattle.au_base.specs.declared.table.Column.{Column}
use Rattle.au_base.specs.declared.table.TableName.{TableName}
use Rattle.au_define.specs.Rules.{Rules}
use Rattle.au_define.specs.Settings.{has_table, is_full}
use Rattle.au_entries.specs.declared.change.Change.{Change}
use Rattle.au_entries.specs.declared.change.Change.TheVariants.{Fga, FgaGone}
use Rattle.au_entries.specs.declared.decision.Decision.{Decision}
use Rattle.au_entries.specs.declared.fine_grained.FgaName.{FgaName}
use Rattle.au_entries.specs.declared.fine_grained.FgaPolicy.{FgaPolicy}
use Rattle.au_entries.specs.declared.table.Table.{Table}
use Rattle.au_entries.specs.Changing.{is_fga}
use Rattle.sql_ast.specs.declared.call.Argument.{Argument}
use Rattle.sql_ast.specs.declared.call.Parameter.TheVariants.{AuditColumn, AuditColumnOpts, AuditCondition, Enable, HandlerModule, HandlerSchema, ObjectName, ObjectSchema, PolicyName, StatementTypes}

-- ---- what the arguments ask

-- a table and a policy's name, where all three names can be read
abbrev pub target_by : Option (List ℕ) → Option (List ℕ) → Option (List ℕ) → Option FgaName
target_by (Some owner) (Some name) (Some policy) = Some (record { table = record { owner = owner; name = name }; policy = policy })
target_by _ _ _ = None

-- the policy that a call of the user names
abbrev pub target_of : List ℕ → List Argument → Option FgaName
target_of user arguments =
    target_by (owner_by user (text_in (given arguments ObjectSchema))) (name_in (given arguments ObjectName)) (name_in (given arguments PolicyName))

-- the option on columns, the kinds of statements and whether it is enabled, where all three can be read
abbrev pub flags_by : Option Bool → Option ℕ → Option Bool → Option FgaFlags
flags_by (Some all) (Some types) (Some enabled) = Some (record { all = all; types = types; enabled = enabled })
flags_by _ _ _ = None

abbrev pub flags_of : List Argument → Option FgaFlags
flags_of arguments =
    flags_by (option_in (given arguments AuditColumnOpts)) (kinds_by (text_in (given arguments StatementTypes))) (truth_in (given arguments Enable))

-- a handler is given
abbrev pub has_handler : List Argument → Bool
has_handler arguments = not (is_null (given arguments HandlerSchema)) || not (is_null (given arguments HandlerModule))

-- the parts of a new policy, where all of them can be read
abbrev pub parts_by : Option (Option (List ℕ)) → Option (List (List ℕ)) → Option FgaFlags → Option FgaParts
parts_by (Some condition) (Some columns) (Some flags) = Some (record { condition = condition; columns = columns; flags = flags })
parts_by _ _ _ = None

-- those that a call names; a handler can't be had
abbrev pub parts_of : List Argument → Option FgaParts
parts_of arguments =
    if has_handler arguments then None
    else parts_by (text_in (given arguments AuditCondition)) (columns_by (text_in (given arguments AuditColumn))) (flags_of arguments)

-- ---- what is there

-- the fine-grained policy is there
abbrev pub has_fga : AuditSetting → FgaName → Bool
has_fga setting target = list_any (is_fga target.table target.policy) setting.fga

-- the fine-grained policy, where it is there
abbrev pub fga_found : AuditSetting → FgaName → Option FgaPolicy
fga_found setting target = find (is_fga target.table target.policy) setting.fga

-- a table's columns
abbrev pub columns_found : Option Table → List Column
columns_found None = []
columns_found (Some table) = table.columns

-- the columns of the table of this name, where it is there
abbrev pub columns_of : List Table → TableName → List Column
columns_of tables name = columns_found (find (λ table. same_table table.name name) tables)

-- a column of this name isn't among them
abbrev pub lacks : List Column → List ℕ → Bool
lacks columns name = not (list_any (λ column. bytes_eq column.name name) columns)

-- some of these is no column of the table
abbrev pub has_unknown : AuditSetting → TableName → List (List ℕ) → Bool
has_unknown setting table names = list_any (lacks (columns_of setting.setting.tables table)) names

-- ---- the changes

-- the new policy
abbrev pub new_fga : FgaName → FgaParts → Change
new_fga target parts = Fga target.table target.policy parts.condition parts.columns parts.flags.all parts.flags.types parts.flags.enabled

-- the policy is enabled or not as it is to be
abbrev pub is_so : Bool → FgaPolicy → Bool
is_so on policy = if on then policy.enabled else not policy.enabled

-- the policy as it stands, enabled or not
abbrev pub with_enabled : Bool → FgaPolicy → Change
with_enabled on policy =
    Fga policy.name.table policy.name.policy (option_map (λ condition. condition.text) policy.condition) policy.columns policy.all policy.types on

-- it is a change, unless the policy is so already
abbrev pub switching : Bool → Option FgaPolicy → List Change
switching on None = []
switching on (Some policy) = if is_so on policy then [] else with_enabled on policy ∷ []

-- ---- the calls

-- The arguments can be read: values of the right kinds, names, kinds of statements and an option, and no handler. Else, behind
-- the role, this is the one rule.
abbrev pub unread_rules : Rules
unread_rules = (true, BAD_ARGUMENT) ∷ []

abbrev pub unread : AuditRights → Decision
unread rights = decided (not rights.admin) unread_rules [] (changes_alone [])

-- ADD_POLICY, behind that: a table of that name, none of the built-in ones; a new policy on it; columns of the table; a
-- condition that can be read and is one that a policy may have, and then has neither an unknown column nor a wrong kind; room
-- for one more policy
abbrev pub add_rules : AuditSetting → FgaName → FgaParts → Rules
add_rules setting target parts =
    (not (has_table setting.setting target.table), NO_SUCH_TABLE) ∷ (has_fga setting target, FINE_GRAINED_POLICY_PRESENT)
    ∷ (has_unknown setting target.table parts.columns, UNKNOWN_COLUMN) ∷ (is_bad setting.read, BAD_ARGUMENT)
    ∷ (is_wrong setting.read, wrong_code setting.read) ∷ (is_full (length setting.fga), TOO_MANY_OBJECTS) ∷ []

abbrev pub add_by : AuditRights → AuditSetting → Option FgaName → Option FgaParts → Decision
add_by rights setting (Some target) (Some parts) =
    decided (not rights.admin) (add_rules setting target parts) [] (changes_alone (new_fga target parts ∷ []))
add_by rights setting _ _ = unread rights

abbrev pub add_fga : AuditRights → AuditSetting → List Argument → Decision
add_fga rights setting arguments = add_by rights setting (target_of setting.setting.user arguments) (parts_of arguments)

-- the other calls, behind that: a table of that name, none of the built-in ones; the policy on it
abbrev pub there_rules : AuditSetting → FgaName → Rules
there_rules setting target =
    (not (has_table setting.setting target.table), NO_SUCH_TABLE) ∷ (not (has_fga setting target), NO_SUCH_FINE_GRAINED_POLICY) ∷ []

abbrev pub on_there : AuditRights → AuditSetting → FgaName → List Change → Decision
on_there rights setting target changes = decided (not rights.admin) (there_rules setting target) [] (changes_alone changes)

-- DROP_POLICY
abbrev pub drop_by : AuditRights → AuditSetting → Option FgaName → Decision
drop_by rights setting (Some target) = on_there rights setting target (FgaGone target.table target.policy ∷ [])
drop_by rights setting None = unread rights

abbrev pub drop_fga : AuditRights → AuditSetting → List Argument → Decision
drop_fga rights setting arguments = drop_by rights setting (target_of setting.setting.user arguments)

-- ENABLE_POLICY and DISABLE_POLICY
abbrev pub switch_by : AuditRights → AuditSetting → Option FgaName → Option Bool → Decision
switch_by rights setting (Some target) (Some on) = on_there rights setting target (switching on (fga_found setting target))
switch_by rights setting _ _ = unread rights

-- ENABLE_POLICY with FALSE disables
abbrev pub enable_fga : AuditRights → AuditSetting → List Argument → Decision
enable_fga rights setting arguments = switch_by rights setting (target_of setting.setting.user arguments) (truth_in (given arguments Enable))

abbrev pub disable_fga : AuditRights → AuditSetting → List Argument → Decision
disable_fga rights setting arguments = switch_by rights setting (target_of setting.setting.user arguments) (Some false)
