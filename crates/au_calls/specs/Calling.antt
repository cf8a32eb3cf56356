-- What is decided of the calls of packages.
use Rattle.std.specs.Prelude.{◌≤◌, ◌≡◌, ℕ, List, Some}
use Rattle.au_calls.specs.declared.requests.FgaParts.{FgaParts}
use Rattle.au_calls.specs.declared.rights.AuditRights.{AuditRights}
use Rattle.au_calls.specs.Archiving.{clean_trail, clear_archive, set_archive}
use Rattle.au_calls.specs.Arguments.{given}
use Rattle.au_calls.specs.FineGrained.{add_fga, disable_fga, drop_fga, enable_fga, parts_of, target_of}
use Rattle.au_calls.specs.Going.{IsReadAs}
use Rattle.au_calls.specs.Rights.{DecidedByRights}
use Rattle.au_calls.specs.Settings.{AuditSetting}
use Rattle.au_base.specs.Limits.{LAST_MOMENT}
use Rattle.au_entries.specs.declared.decision.Decision.{Decision}
use Rattle.au_entries.specs.declared.decision.ReadCondition.{ReadCondition}
use Rattle.au_entries.specs.declared.fine_grained.FgaName.{FgaName}
use Rattle.au_entries.specs.declared.kept.Kept.{Kept}
use Rattle.au_entries.specs.declared.table.Table.{Table}
use Rattle.au_entries.specs.Replaying.{Conditions, IsKeptTable}
use Rattle.sql_ast.specs.declared.call.Argument.{Argument}
use Rattle.sql_ast.specs.declared.call.Call.{Call}
use Rattle.sql_ast.specs.declared.call.Parameter.TheVariants.{LastArchiveTime}
use Rattle.sql_ast.specs.declared.call.Procedure.{Procedure}
use Rattle.sql_ast.specs.declared.call.Procedure.TheVariants as procedure
use Rattle.sql_ast.specs.declared.call.Value.TheVariants.{Moment}

-- what is decided of a call of the procedure with these arguments, by the user's rights
abbrev pub call_decided : AuditRights → AuditSetting → Procedure → List Argument → Decision
call_decided rights setting procedure.AddPolicy arguments = add_fga rights setting arguments
call_decided rights setting procedure.DropPolicy arguments = drop_fga rights setting arguments
call_decided rights setting procedure.EnablePolicy arguments = enable_fga rights setting arguments
call_decided rights setting procedure.DisablePolicy arguments = disable_fga rights setting arguments
call_decided rights setting procedure.SetLastArchiveTimestamp arguments = set_archive rights setting arguments
call_decided rights setting procedure.ClearLastArchiveTimestamp arguments = clear_archive rights setting arguments
call_decided rights setting procedure.CleanAuditTrail arguments = clean_trail rights setting arguments

-- calls of packages need the role AUDIT_ADMIN, and use no privilege
abbrev pub DecidesCall : AuditSetting → Call → Decision → Type 0
DecidesCall setting call decision = DecidedByRights setting (λ rights. call_decided rights setting call.procedure call.arguments) decision

-- ---- what has to be so, so that the changes of a call go on from what is kept

-- so of the condition in the user's call of ADD_POLICY, which is over the table of its fine-grained policy
abbrev pub IsCallRead : Conditions → Kept → List ℕ → Call → ReadCondition → Type 0
IsCallRead conditions kept user call read =
    call.procedure ≡ procedure.AddPolicy → (target : FgaName) (parts : FgaParts) (table : Table) → target_of user call.arguments ≡ Some target → parts_of call.arguments ≡ Some parts
    → IsKeptTable kept target.table table → IsReadAs conditions (Some table) parts.condition read

-- the moment that a call is given, where it is given one, isn't over the last moment, as no TIMESTAMP literal is
abbrev pub IsCallTimely : Call → Type 0
IsCallTimely call = (moment : ℕ) → given call.arguments LastArchiveTime ≡ Some (Moment moment) → moment ≤ LAST_MOMENT
