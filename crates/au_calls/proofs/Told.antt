-- The code and the privileges of what is decided of a call can be written into a record.
use Rattle.std.proofs.Common.{◌<◌, ◌^◌, Bool, true, false, not, List, [], ◌∷◌, Option, Some, None, refl, sym, subst, arith}
use Rattle.std.specs.Prelude.{if◌then◌else◌, unwrap_or}
use Rattle.std.specs.List.{AllByRecursion}
use Rattle.au_calls.specs.declared.requests.FgaParts.{FgaParts}
use Rattle.au_calls.specs.declared.rights.AuditRights.{AuditRights}
use Rattle.au_calls.specs.declared.rules.Effect.{Effect}
use Rattle.au_calls.specs.Arguments.{given, truth_in}
use Rattle.au_calls.specs.Archiving.{archive_time, archiving, before_of, by_timestamp, clean_rules, clear_rules, purging, set_rules}
use Rattle.au_calls.specs.Calling.{DecidesCall, call_decided}
use Rattle.au_calls.specs.FineGrained.{add_by, add_rules, drop_by, fga_found, new_fga, on_there, parts_of, switch_by, switching, target_of, there_rules, unread, unread_rules}
use Rattle.au_calls.specs.Reading.{wrong_code}
use Rattle.au_calls.specs.Rules.{changes_alone, decided}
use Rattle.au_calls.specs.Settings.{AuditSetting}
use Rattle.au_base.specs.Codes.{PRIVILEGE_MISSING}
use Rattle.au_base.specs.FirstCode.{first_code}
use Rattle.au_base.specs.declared.code.Code.{Code}
use Rattle.au_base.specs.declared.privilege.Privilege.{Privilege}
use Rattle.au_define.specs.Rules.{Rules}
use Rattle.au_entries.specs.declared.change.Change.{Change}
use Rattle.au_entries.specs.declared.change.Change.TheVariants.{FgaGone}
use Rattle.au_entries.specs.declared.decision.Decision.{Decision}
use Rattle.au_entries.specs.declared.fine_grained.FgaName.{FgaName}
use Rattle.rec_parts.specs.Parts.{privileges_in_order}
use Rattle.sql_ast.specs.declared.call.Argument.{Argument}
use Rattle.sql_ast.specs.declared.call.Call.{Call}
use Rattle.sql_ast.specs.declared.call.Parameter.TheVariants.{Enable}
use Rattle.sql_ast.specs.declared.call.Procedure.{Procedure}
use Rattle.sql_ast.specs.declared.call.Procedure.TheVariants as procedure

abbrev IsTold : Decision → Type 0
IsTold decision = (decision.code.0 < 2 ^ 32) × privileges_in_order.IsSpellable decision.used

none_used : privileges_in_order.IsSpellable []
unfolding privileges_in_order
none_used = ((omega arith, tt), refl)

first_small : (rules : Rules) → AllByRecursion (λ (rule : Bool × Code). rule.1.0 < 2 ^ 32) rules → (first_code rules).0 < 2 ^ 32
first_small [] small = omega arith
first_small ((true, code) ∷ rules) small = small.0
first_small ((false, code) ∷ rules) small = first_small rules small.1

used_at : (barred : Bool) (needed : List Privilege) → privileges_in_order.IsSpellable needed → privileges_in_order.IsSpellable (if barred then [] else needed)
used_at true needed usable = none_used
used_at false needed usable = usable

by_rules : (barred : Bool) (others : Rules) (needed : List Privilege) (effect : Effect) → AllByRecursion (λ (rule : Bool × Code). rule.1.0 < 2 ^ 32) others → privileges_in_order.IsSpellable needed
    → IsTold (decided barred others needed effect)
by_rules barred others needed effect small usable = (first_small ((barred, PRIVILEGE_MISSING) ∷ others) (omega arith, small), used_at barred needed usable)

no_reading : (rights : AuditRights) → IsTold (unread rights)
no_reading rights = by_rules (not rights.admin) unread_rules [] (changes_alone []) (omega arith, tt) none_used

added : (rights : AuditRights) (setting : AuditSetting) → (wrong_code setting.read).0 < 2 ^ 32 → (target : Option FgaName) (parts : Option FgaParts) → IsTold (add_by rights setting target parts)
added rights setting small (Some target) (Some parts) =
    by_rules (not rights.admin) (add_rules setting target parts) [] (changes_alone (new_fga target parts ∷ []))
    (omega arith, (omega arith, (omega arith, (omega arith, (small, (omega arith, tt)))))) none_used
added rights setting small (Some target) None = no_reading rights
added rights setting small None (Some parts) = no_reading rights
added rights setting small None None = no_reading rights

there : (rights : AuditRights) (setting : AuditSetting) (target : FgaName) (changes : List Change) → IsTold (on_there rights setting target changes)
there rights setting target changes = by_rules (not rights.admin) (there_rules setting target) [] (changes_alone changes) (omega arith, (omega arith, tt)) none_used

dropped : (rights : AuditRights) (setting : AuditSetting) (target : Option FgaName) → IsTold (drop_by rights setting target)
dropped rights setting (Some target) = there rights setting target (FgaGone target.table target.policy ∷ [])
dropped rights setting None = no_reading rights

switched : (rights : AuditRights) (setting : AuditSetting) (target : Option FgaName) (on : Option Bool) → IsTold (switch_by rights setting target on)
switched rights setting (Some target) (Some on) = there rights setting target (switching on (fga_found setting target))
switched rights setting (Some target) None = no_reading rights
switched rights setting None (Some on) = no_reading rights
switched rights setting None None = no_reading rights

called : (rights : AuditRights) (setting : AuditSetting) → (wrong_code setting.read).0 < 2 ^ 32 → (name : Procedure) (arguments : List Argument) → IsTold (call_decided rights setting name arguments)
called rights setting small procedure.AddPolicy arguments = added rights setting small (target_of setting.setting.user arguments) (parts_of arguments)
called rights setting small procedure.DropPolicy arguments = dropped rights setting (target_of setting.setting.user arguments)
called rights setting small procedure.EnablePolicy arguments = switched rights setting (target_of setting.setting.user arguments) (truth_in (given arguments Enable))
called rights setting small procedure.DisablePolicy arguments = switched rights setting (target_of setting.setting.user arguments) (Some false)
called rights setting small procedure.SetLastArchiveTimestamp arguments =
    by_rules (not rights.admin) (set_rules setting arguments) [] (changes_alone (archiving setting.archive (archive_time setting arguments))) (omega arith, (omega arith, tt)) none_used
called rights setting small procedure.ClearLastArchiveTimestamp arguments =
    by_rules (not rights.admin) (clear_rules arguments) [] (changes_alone (archiving setting.archive None)) (omega arith, tt) none_used
called rights setting small procedure.CleanAuditTrail arguments =
    by_rules (not rights.admin) (clean_rules arguments) [] (purging (before_of setting.archive (unwrap_or (by_timestamp arguments) true))) (omega arith, (omega arith, tt)) none_used

pub told : (setting : AuditSetting) (call : Call) (decision : Decision) → (wrong_code setting.read).0 < 2 ^ 32 → DecidesCall setting call decision → IsTold decision
told setting call decision small (rights, are, is) = subst (λ (d : Decision). IsTold d) (sym is) (called rights setting small call.procedure call.arguments)
