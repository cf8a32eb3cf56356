-- A call that is refused changes nothing, purges nothing and forgets nothing.
use Rattle.std.proofs.Common.{◌≡◌, ◌≢◌, ◌||◌, Bool, true, false, not, List, [], ◌∷◌, Option, Some, None, refl, sym, subst}
use Rattle.std.specs.Prelude.{if◌then◌else◌, unwrap_or}
use Rattle.au_calls.specs.declared.requests.FgaParts.{FgaParts}
use Rattle.au_calls.specs.declared.rights.AuditRights.{AuditRights}
use Rattle.au_calls.specs.declared.rules.Effect.{Effect}
use Rattle.au_calls.specs.Arguments.{given, truth_in}
use Rattle.au_calls.specs.Archiving.{archive_time, archiving, before_of, by_timestamp, clean_rules, clear_rules, purging, set_rules}
use Rattle.au_calls.specs.Calling.{DecidesCall, call_decided}
use Rattle.au_calls.specs.FineGrained.{add_by, add_rules, drop_by, fga_found, new_fga, on_there, parts_of, switch_by, switching, target_of, there_rules, unread, unread_rules}
use Rattle.au_calls.specs.Rules.{changes_alone, decided}
use Rattle.au_calls.specs.Settings.{AuditSetting}
use Rattle.au_base.specs.Codes.{DONE, PRIVILEGE_MISSING}
use Rattle.au_base.specs.FirstCode.{first_code}
use Rattle.au_base.specs.declared.privilege.Privilege.{Privilege}
use Rattle.au_define.specs.Rules.{Rules, is_broken}
use Rattle.au_entries.specs.declared.change.Change.{Change}
use Rattle.au_entries.specs.declared.change.Change.TheVariants.{FgaGone}
use Rattle.au_entries.specs.declared.decision.Decision.{Decision}
use Rattle.au_entries.specs.declared.fine_grained.FgaName.{FgaName}
use Rattle.sql_ast.specs.declared.call.Argument.{Argument}
use Rattle.sql_ast.specs.declared.call.Call.{Call}
use Rattle.sql_ast.specs.declared.call.Parameter.TheVariants.{Enable}
use Rattle.sql_ast.specs.declared.call.Procedure.{Procedure}
use Rattle.sql_ast.specs.declared.call.Procedure.TheVariants as procedure

unbroken : (rules : Rules) → is_broken rules ≡ false → first_code rules ≡ DONE
unbroken [] is = refl
unbroken ((true, code) ∷ rules) is = absurd (let e : true ≡ false = is in cc)
unbroken ((false, code) ∷ rules) is = unbroken rules is

abbrev Nothing : Decision → Type 0
Nothing decision = (decision.changes ≡ []) × (decision.purge ≡ None) × (decision.forgets ≡ [])

none_if : {X : Type 0} (broken : Bool) (none some : X) → ((broken ≡ false) → ⊥) → (if broken then none else some) ≡ none
none_if true none some isnt = refl
none_if false none some isnt = absurd (isnt refl)

of_decided : (barred : Bool) (others : Rules) (needed : List Privilege) (effect : Effect) → (decided barred others needed effect).code ≢ DONE → Nothing (decided barred others needed effect)
of_decided barred others needed effect refused =
    let isnt : ((barred || is_broken others) ≡ false) → ⊥ = λ clear. refused (unbroken ((barred, PRIVILEGE_MISSING) ∷ others) clear) in
    (none_if (barred || is_broken others) [] effect.changes isnt, none_if (barred || is_broken others) None effect.purge isnt, none_if (barred || is_broken others) [] effect.forgets isnt)

at : (answer decision : Decision) → decision ≡ answer → (answer.code ≢ DONE → Nothing answer) → decision.code ≢ DONE → Nothing decision
at answer decision is nothing = subst (λ (d : Decision). d.code ≢ DONE → Nothing d) (sym is) nothing

no_reading : (rights : AuditRights) → (unread rights).code ≢ DONE → Nothing (unread rights)
no_reading rights = of_decided (not rights.admin) unread_rules [] (changes_alone [])

added : (rights : AuditRights) (setting : AuditSetting) (target : Option FgaName) (parts : Option FgaParts) → (add_by rights setting target parts).code ≢ DONE → Nothing (add_by rights setting target parts)
added rights setting (Some target) (Some parts) = of_decided (not rights.admin) (add_rules setting target parts) [] (changes_alone (new_fga target parts ∷ []))
added rights setting (Some target) None = no_reading rights
added rights setting None (Some parts) = no_reading rights
added rights setting None None = no_reading rights

there : (rights : AuditRights) (setting : AuditSetting) (target : FgaName) (changes : List Change) → (on_there rights setting target changes).code ≢ DONE → Nothing (on_there rights setting target changes)
there rights setting target changes = of_decided (not rights.admin) (there_rules setting target) [] (changes_alone changes)

dropped : (rights : AuditRights) (setting : AuditSetting) (target : Option FgaName) → (drop_by rights setting target).code ≢ DONE → Nothing (drop_by rights setting target)
dropped rights setting (Some target) = there rights setting target (FgaGone target.table target.policy ∷ [])
dropped rights setting None = no_reading rights

switched : (rights : AuditRights) (setting : AuditSetting) (target : Option FgaName) (on : Option Bool) → (switch_by rights setting target on).code ≢ DONE → Nothing (switch_by rights setting target on)
switched rights setting (Some target) (Some on) = there rights setting target (switching on (fga_found setting target))
switched rights setting (Some target) None = no_reading rights
switched rights setting None (Some on) = no_reading rights
switched rights setting None None = no_reading rights

called : (rights : AuditRights) (setting : AuditSetting) (name : Procedure) (arguments : List Argument) → (call_decided rights setting name arguments).code ≢ DONE → Nothing (call_decided rights setting name arguments)
called rights setting procedure.AddPolicy arguments = added rights setting (target_of setting.setting.user arguments) (parts_of arguments)
called rights setting procedure.DropPolicy arguments = dropped rights setting (target_of setting.setting.user arguments)
called rights setting procedure.EnablePolicy arguments = switched rights setting (target_of setting.setting.user arguments) (truth_in (given arguments Enable))
called rights setting procedure.DisablePolicy arguments = switched rights setting (target_of setting.setting.user arguments) (Some false)
called rights setting procedure.SetLastArchiveTimestamp arguments =
    of_decided (not rights.admin) (set_rules setting arguments) [] (changes_alone (archiving setting.archive (archive_time setting arguments)))
called rights setting procedure.ClearLastArchiveTimestamp arguments = of_decided (not rights.admin) (clear_rules arguments) [] (changes_alone (archiving setting.archive None))
called rights setting procedure.CleanAuditTrail arguments =
    of_decided (not rights.admin) (clean_rules arguments) [] (purging (before_of setting.archive (unwrap_or (by_timestamp arguments) true)))

pub refused : (setting : AuditSetting) (call : Call) (decision : Decision) → DecidesCall setting call decision → decision.code ≢ DONE → Nothing decision
refused setting call decision (rights, are, is) = at (call_decided rights setting call.procedure call.arguments) decision is (called rights setting call.procedure call.arguments)
