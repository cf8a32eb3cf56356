-- How CREATE AUDIT POLICY and DROP AUDIT POLICY are decided (SQL Language Reference, "CREATE AUDIT POLICY (Unified
-- Auditing)" and "DROP AUDIT POLICY (Unified Auditing)"; the order of the rules and their codes are this project's profile).
use Rattle.std.specs.Prelude.{◌&&◌, ◌||◌, ℕ, Bool, true, false, not, List, [], ◌∷◌, length, map, Option, Some, None, option_map, unwrap_or}
use Rattle.std.specs.List.{filter, list_any}
use Rattle.std.specs.Str.{bytes_eq}
use Rattle.au_calls.specs.declared.rights.AuditRights.{AuditRights}
use Rattle.au_calls.specs.declared.rules.Effect.{Effect}
use Rattle.au_calls.specs.Once.{once}
use Rattle.au_calls.specs.Reading.{is_bad, is_wrong, wrong_code}
use Rattle.au_calls.specs.Rights.{DecidedByRights, may_not_audit, used_by}
use Rattle.au_calls.specs.Rules.{changes_alone, decided}
use Rattle.au_calls.specs.Settings.{AuditSetting}
use Rattle.au_admin.specs.Looking.{has_policy, is_enabled}
use Rattle.au_base.specs.BuiltIn.{dual, ora_mandatory, resolved_table, trail}
use Rattle.au_base.specs.Codes.{BAD_CONDITION, NO_SUCH_POLICY, NO_SUCH_ROLE, NO_SUCH_TABLE, POLICY_ENABLED, POLICY_PRESENT, TOO_MANY_OBJECTS}
use Rattle.au_base.specs.Privileges.{each_privilege}
use Rattle.au_base.specs.Sameness.{same_action, same_privilege, same_table}
use Rattle.au_base.specs.declared.action.Action.{Action}
use Rattle.au_base.specs.declared.privilege.Privilege.{Privilege}
use Rattle.au_base.specs.declared.table.TableName.{TableName}
use Rattle.au_base.specs.declared.table.TableReference.{TableReference}
use Rattle.au_define.specs.Rules.{Rules}
use Rattle.au_define.specs.Settings.{Setting, has_role, has_table, is_full}
use Rattle.au_entries.specs.declared.change.Change.{Change}
use Rattle.au_entries.specs.declared.change.Change.TheVariants.{Policy, PolicyGone}
use Rattle.au_entries.specs.declared.decision.Decision.{Decision}
use Rattle.au_entries.specs.declared.policy.Evaluate.{Evaluate}
use Rattle.au_entries.specs.declared.policy.Evaluate.TheVariants as evaluate
use Rattle.sql_ast.specs.declared.administration.ActionPart.{ActionPart}
use Rattle.sql_ast.specs.declared.administration.CreatePolicy.{CreatePolicy}
use Rattle.sql_ast.specs.declared.administration.Evaluation.{Evaluation}
use Rattle.sql_ast.specs.declared.administration.Evaluation.TheVariants.{Statement, Session, Instance}
use Rattle.sql_ast.specs.declared.administration.PolicyCondition.{PolicyCondition}

-- ---- what the new policy is for

-- a part is an action, on one table where one is named
abbrev pub Part : Type 0
Part = Action × Option TableName

-- the part that is written so by the user
abbrev pub part_of : List ℕ → ActionPart → Part
part_of user part = (part.action, option_map (resolved_table user) part.table)

-- both parts are on the same table, or on none
abbrev pub same_place : Option TableName → Option TableName → Bool
same_place None None = true
same_place (Some a) (Some b) = same_table a b
same_place _ _ = false

-- both parts are the same
abbrev pub same_part : Part → Part → Bool
same_part a b = same_action a.0 b.0 && same_place a.1 b.1

-- the system privileges that are named, in the order of their numbers, each once
abbrev pub privileges_of : CreatePolicy → List Privilege
privileges_of create = filter (λ privilege. list_any (same_privilege privilege) (unwrap_or create.privileges [])) each_privilege

-- the action parts as they are first written, each once
abbrev pub actions_of : List ℕ → CreatePolicy → List Part
actions_of user create = once same_part (map (part_of user) (unwrap_or create.actions []))

-- the roles as they are first written, each once
abbrev pub roles_of : CreatePolicy → List (List ℕ)
roles_of create = once bytes_eq (unwrap_or create.roles [])

-- how often a condition is evaluated
abbrev pub evaluate_of : Evaluation → Evaluate
evaluate_of Statement = evaluate.Statement
evaluate_of Session = evaluate.Session
evaluate_of Instance = evaluate.Instance

-- the condition, where there is one, as the catalogue has it
abbrev pub when_of : PolicyCondition → Evaluate × List ℕ
when_of condition = (evaluate_of condition.evaluation, condition.text)

-- the policy as it is created by the user
abbrev pub new_policy : List ℕ → CreatePolicy → Change
new_policy user create =
    Policy create.policy (privileges_of create) (actions_of user create) (roles_of create) (option_map when_of create.condition)

-- ---- CREATE AUDIT POLICY

-- a policy has the name, or it is that of what is mandatory
abbrev pub is_used : AuditSetting → List ℕ → Bool
is_used setting name = has_policy setting name || bytes_eq name ora_mandatory

-- the table is there; the two built-in ones always are
abbrev pub is_there : Setting → TableName → Bool
is_there setting table = has_table setting table || (same_table table dual || same_table table trail)

-- the table is named, and isn't there
abbrev pub is_absent : Setting → Option TableReference → Bool
is_absent setting None = false
is_absent setting (Some table) = not (is_there setting (resolved_table setting.user table))

-- some part names a table that isn't there
abbrev pub has_absent_table : AuditSetting → CreatePolicy → Bool
has_absent_table setting create = list_any (λ part. is_absent setting.setting part.table) (unwrap_or create.actions [])

-- some role that is named isn't there
abbrev pub has_absent_role : AuditSetting → CreatePolicy → Bool
has_absent_role setting create = list_any (λ role. not (has_role setting.setting role)) (unwrap_or create.roles [])

-- CREATE AUDIT POLICY, behind the right: a new name, and not that of what is mandatory; the tables of its parts are there, and
-- its roles; its condition can be read and is one that a policy may have, and then has neither a column nor a wrong kind; room
-- for one more policy
abbrev pub create_rules : AuditSetting → CreatePolicy → Rules
create_rules setting create =
    (is_used setting create.policy, POLICY_PRESENT) ∷ (has_absent_table setting create, NO_SUCH_TABLE)
    ∷ (has_absent_role setting create, NO_SUCH_ROLE) ∷ (is_bad setting.read, BAD_CONDITION)
    ∷ (is_wrong setting.read, wrong_code setting.read) ∷ (is_full (length setting.policies), TOO_MANY_OBJECTS) ∷ []

abbrev pub create_policy : AuditRights → AuditSetting → CreatePolicy → Decision
create_policy rights setting create =
    decided (may_not_audit rights) (create_rules setting create) (used_by rights)
    (changes_alone (new_policy setting.setting.user create ∷ []))

abbrev pub DecidesCreatePolicy : AuditSetting → CreatePolicy → Decision → Type 0
DecidesCreatePolicy setting create decision = DecidedByRights setting (λ rights. create_policy rights setting create) decision

-- ---- DROP AUDIT POLICY

-- the policy is dropped, and the results of its condition that are kept are forgotten
abbrev pub dropping : List ℕ → Effect
dropping policy = record { changes = PolicyGone policy ∷ []; purge = None; forgets = policy ∷ [] }

-- DROP AUDIT POLICY, behind the right: a policy of that name, which is enabled for nobody
abbrev pub drop_rules : AuditSetting → List ℕ → Rules
drop_rules setting policy = (not (has_policy setting policy), NO_SUCH_POLICY) ∷ (is_enabled setting policy, POLICY_ENABLED) ∷ []

abbrev pub drop_policy : AuditRights → AuditSetting → List ℕ → Decision
drop_policy rights setting policy = decided (may_not_audit rights) (drop_rules setting policy) (used_by rights) (dropping policy)

abbrev pub DecidesDropPolicy : AuditSetting → List ℕ → Decision → Type 0
DecidesDropPolicy setting policy decision = DecidedByRights setting (λ rights. drop_policy rights setting policy) decision
