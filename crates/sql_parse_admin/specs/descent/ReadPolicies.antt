-- Reading CREATE AUDIT POLICY by descent: what each function of the code answers.
use Rattle.std.specs.Prelude.{ℕ, Bool, true, false, ◌||◌, if◌then◌else◌, List, Option, Some, None, is_some, codes}
use Rattle.au_base.specs.declared.action.Action.{Action}
use Rattle.au_base.specs.declared.action.Action.TheVariants as actions
use Rattle.au_base.specs.declared.privilege.Privilege.{Privilege}
use Rattle.au_base.specs.declared.table.TableReference.{TableReference}
use Rattle.au_base.specs.Actions.{each_action}
use Rattle.sql_lex.specs.declared.token.Kind.TheVariants.{Word}
use Rattle.sql_ast.specs.declared.administration.ActionPart.{ActionPart}
use Rattle.sql_ast.specs.declared.administration.CreatePolicy.{CreatePolicy}
use Rattle.sql_ast.specs.declared.administration.Evaluation.{Evaluation}
use Rattle.sql_ast.specs.declared.administration.Evaluation.TheVariants as evaluation
use Rattle.sql_ast.specs.declared.administration.PolicyCondition.{PolicyCondition}
use Rattle.sql_ast.specs.declared.statement.Statement.{Statement}
use Rattle.sql_ast.specs.declared.statement.Statement.TheVariants as statement
use Rattle.sql_parse.specs.Symbols.{sees, comma}
use Rattle.sql_parse.specs.PolicyStatements.{words_of_action}
use Rattle.sql_parse.specs.descent.Reading.{Reader, ◌>>=◌, under, behind, expect, parted, literal, name}
use Rattle.sql_parse.specs.descent.ReadTables.{clause, names, table}
use Rattle.sql_parse_admin.specs.descent.ReadPrivileges.{privileges}
use Rattle.sql_parse_admin.specs.descent.ReadWords.{first_of}

unfoldable pub action : Reader Action
action = first_of words_of_action each_action

-- whether ON and a table may follow the action
abbrev pub may_have_table : Action → Bool
may_have_table actions.All = true
may_have_table actions.Select = true
may_have_table actions.Insert = true
may_have_table actions.Update = true
may_have_table actions.Delete = true
may_have_table _ = false

-- behind an action
unfoldable pub on_table : Action → Reader (Option TableReference)
on_table a i = if sees (Word (codes "ON")) i then (if may_have_table a then under (λ t. Some t) (table (behind i)) else None) else Some (None, i)

unfoldable pub part : Reader ActionPart
part i = action i >>= λ a. under (λ t. record { action = a.0; table = t }) (on_table a.0 a.1)

unfoldable pub parts : Reader (List ActionPart)
parts = parted comma part

unfoldable pub evaluated_per : Reader Evaluation
evaluated_per i =
    if sees (Word (codes "STATEMENT")) i then Some (evaluation.Statement, behind i) else (if sees (Word (codes "SESSION")) i then Some (evaluation.Session, behind i)
    else (if sees (Word (codes "INSTANCE")) i then Some (evaluation.Instance, behind i) else None))

-- behind WHEN
unfoldable pub condition : Reader PolicyCondition
condition i =
    literal i >>= λ t. expect (Word (codes "EVALUATE")) t.1 >>= λ j. expect (Word (codes "PER")) j >>= λ k. under (λ v. record { text = t.0; evaluation = v }) (evaluated_per k)

abbrev pub privileges_clause : Reader (Option (List Privilege))
privileges_clause = clause (Word (codes "PRIVILEGES")) privileges

abbrev pub actions_clause : Reader (Option (List ActionPart))
actions_clause = clause (Word (codes "ACTIONS")) parts

abbrev pub roles_clause : Reader (Option (List (List ℕ)))
roles_clause = clause (Word (codes "ROLES")) names

abbrev pub condition_clause : Reader (Option PolicyCondition)
condition_clause = clause (Word (codes "WHEN")) condition

-- whether the policy has one of the first three clauses
abbrev pub audits_some : CreatePolicy → Bool
audits_some x = is_some x.privileges || is_some x.actions || is_some x.roles

-- the policy of that name, behind its name
unfoldable pub clauses : List ℕ → Reader CreatePolicy
clauses p i =
    privileges_clause i >>= λ ps. actions_clause ps.1 >>= λ acts. roles_clause acts.1
    >>= λ rs. under (λ c. record { policy = p; privileges = ps.0; actions = acts.0; roles = rs.0; condition = c }) (condition_clause rs.1)

-- CREATE AUDIT POLICY and its name
unfoldable pub heading : Reader (List ℕ)
heading i = expect (Word (codes "CREATE")) i >>= λ j. expect (Word (codes "AUDIT")) j >>= λ k. expect (Word (codes "POLICY")) k >>= λ m. name m

unfoldable pub policy : Reader Statement
policy i = heading i >>= λ n. clauses n.0 n.1 >>= λ x. if audits_some x.0 then Some (statement.CreatePolicy x.0, x.1) else None
