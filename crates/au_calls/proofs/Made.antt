-- What changes the decision on a call can have, case by case.
use Rattle.std.proofs.Common.{◌≡◌, Bool, true, false, not, ◌||◌, List, [], ◌∷◌, Option, Some, None, length, refl, sym, subst}
use Rattle.std.specs.Prelude.{if◌then◌else◌, unwrap_or}
use Rattle.std.specs.List.{Contains}
use Rattle.std.proofs.lemmas.Bool.{or_parts}
use Rattle.au_calls.specs.declared.requests.FgaParts.{FgaParts}
use Rattle.au_calls.specs.declared.rights.AuditRights.{AuditRights}
use Rattle.au_calls.specs.declared.rules.Effect.{Effect}
use Rattle.au_calls.specs.Archiving.{archive_time, archiving, before_of, by_timestamp, clean_rules, clear_rules, purging, same_archive, set_rules}
use Rattle.au_calls.specs.Arguments.{given, truth_in}
use Rattle.au_calls.specs.Calling.{DecidesCall, call_decided}
use Rattle.au_calls.specs.FineGrained.{add_by, add_rules, drop_by, fga_found, has_fga, has_unknown, is_so, new_fga, on_there, parts_of, switch_by, switching, target_of, there_rules, unread, unread_rules, with_enabled}
use Rattle.au_calls.specs.Reading.{is_bad, is_wrong}
use Rattle.au_calls.specs.Rules.{changes_alone, decided}
use Rattle.au_calls.specs.Settings.{AuditSetting}
use Rattle.au_calls.proofs.Members.{found}
use Rattle.au_base.specs.declared.privilege.Privilege.{Privilege}
use Rattle.au_define.specs.Rules.{Rules, is_broken}
use Rattle.au_define.specs.Settings.{has_table, is_full}
use Rattle.au_entries.specs.declared.change.Change.{Change}
use Rattle.au_entries.specs.declared.change.Change.TheVariants as change
use Rattle.au_entries.specs.declared.decision.Decision.{Decision}
use Rattle.au_entries.specs.declared.fine_grained.FgaName.{FgaName}
use Rattle.au_entries.specs.declared.fine_grained.FgaPolicy.{FgaPolicy}
use Rattle.au_entries.specs.Changing.{is_fga}
use Rattle.sql_ast.specs.declared.call.Argument.{Argument}
use Rattle.sql_ast.specs.declared.call.Parameter.TheVariants.{Enable}
use Rattle.sql_ast.specs.declared.call.Procedure.{Procedure}
use Rattle.sql_ast.specs.declared.call.Procedure.TheVariants as procedure

second : (a b : Bool) → (a || b) ≡ false → b ≡ false
second a b is = (or_parts a b is).1

first : (a b : Bool) → (a || b) ≡ false → a ≡ false
first a b is = (or_parts a b is).0

-- of six rules none of which is broken the last isn't
sixth : (a b c d e f : Bool) → (a || (b || (c || (d || (e || (f || false)))))) ≡ false → f ≡ false
sixth a b c d e f is =
    first f false (second e (f || false) (second d (e || (f || false)) (second c (d || (e || (f || false))) (second b (c || (d || (e || (f || false)))) (second a (b || (c || (d || (e || (f || false))))) is)))))

-- Of changes it is so where there is none, of a new policy that there is room for, of the end of one, of one that stands and
-- is switched, of an archive timestamp that is taken away, and of one that is set.
module _ (P : List Change → Type 0) (setting : AuditSetting) (arguments : List Argument) (none : P [])
    (adds : (target : FgaName) (parts : FgaParts) → target_of setting.setting.user arguments ≡ Some target → parts_of arguments ≡ Some parts → is_full (length setting.fga) ≡ false
    → P (new_fga target parts ∷ []))
    (drops : (target : FgaName) → target_of setting.setting.user arguments ≡ Some target → P (change.FgaGone target.table target.policy ∷ []))
    (switches : (on : Bool) (policy : FgaPolicy) → Contains setting.fga policy → P (with_enabled on policy ∷ []))
    (clears : P (change.Archive None ∷ []))
    (sets : P (change.Archive (archive_time setting arguments) ∷ [])) where
  at_test : (broken : Bool) (changes : List Change) → (broken ≡ false → P changes) → P (if broken then [] else changes)
  at_test true changes goes = none
  at_test false changes goes = goes refl

  by_rules : (barred : Bool) (others : Rules) (needed : List Privilege) (effect : Effect) → ((barred || is_broken others) ≡ false → P effect.changes) → P (decided barred others needed effect).changes
  by_rules barred others needed effect goes = at_test (barred || is_broken others) effect.changes goes

  no_reading : (rights : AuditRights) → P (unread rights).changes
  no_reading rights = by_rules (not rights.admin) unread_rules [] (changes_alone []) (λ clear. none)

  added : (rights : AuditRights) (target : Option FgaName) (parts : Option FgaParts) → target_of setting.setting.user arguments ≡ target → parts_of arguments ≡ parts → P (add_by rights setting target parts).changes
  added rights (Some target) (Some parts) named read =
      by_rules (not rights.admin) (add_rules setting target parts) [] (changes_alone (new_fga target parts ∷ []))
      (λ clear. adds target parts named read
      (sixth (not (has_table setting.setting target.table)) (has_fga setting target) (has_unknown setting target.table parts.columns) (is_bad setting.read) (is_wrong setting.read) (is_full (length setting.fga))
      (second (not rights.admin) (is_broken (add_rules setting target parts)) clear)))
  added rights (Some target) None named read = no_reading rights
  added rights None (Some parts) named read = no_reading rights
  added rights None None named read = no_reading rights

  there : (rights : AuditRights) (target : FgaName) (changes : List Change) → P changes → P (on_there rights setting target changes).changes
  there rights target changes goes = by_rules (not rights.admin) (there_rules setting target) [] (changes_alone changes) (λ clear. goes)

  dropped : (rights : AuditRights) (target : Option FgaName) → target_of setting.setting.user arguments ≡ target → P (drop_by rights setting target).changes
  dropped rights (Some target) named = there rights target (change.FgaGone target.table target.policy ∷ []) (drops target named)
  dropped rights None named = no_reading rights

  unless_so : (so : Bool) (one : Change) → P (one ∷ []) → P (if so then [] else one ∷ [])
  unless_so true one goes = none
  unless_so false one goes = goes

  switched_one : (on : Bool) (target : FgaName) (policy : Option FgaPolicy) → fga_found setting target ≡ policy → P (switching on policy)
  switched_one on target None is = none
  switched_one on target (Some policy) is =
      unless_so (is_so on policy) (with_enabled on policy) (switches on policy (found (is_fga target.table target.policy) setting.fga policy is))

  switched : (rights : AuditRights) (target : Option FgaName) (on : Option Bool) → P (switch_by rights setting target on).changes
  switched rights (Some target) (Some on) = there rights target (switching on (fga_found setting target)) (switched_one on target (fga_found setting target) refl)
  switched rights (Some target) None = no_reading rights
  switched rights None (Some on) = no_reading rights
  switched rights None None = no_reading rights

  called : (rights : AuditRights) (name : Procedure) → P (call_decided rights setting name arguments).changes
  called rights procedure.AddPolicy = added rights (target_of setting.setting.user arguments) (parts_of arguments) refl refl
  called rights procedure.DropPolicy = dropped rights (target_of setting.setting.user arguments) refl
  called rights procedure.EnablePolicy = switched rights (target_of setting.setting.user arguments) (truth_in (given arguments Enable))
  called rights procedure.DisablePolicy = switched rights (target_of setting.setting.user arguments) (Some false)
  called rights procedure.SetLastArchiveTimestamp =
      by_rules (not rights.admin) (set_rules setting arguments) [] (changes_alone (archiving setting.archive (archive_time setting arguments)))
      (λ clear. unless_so (same_archive setting.archive (archive_time setting arguments)) (change.Archive (archive_time setting arguments)) sets)
  called rights procedure.ClearLastArchiveTimestamp =
      by_rules (not rights.admin) (clear_rules arguments) [] (changes_alone (archiving setting.archive None)) (λ clear. unless_so (same_archive setting.archive None) (change.Archive None) clears)
  called rights procedure.CleanAuditTrail =
      by_rules (not rights.admin) (clean_rules arguments) [] (purging (before_of setting.archive (unwrap_or (by_timestamp arguments) true))) (λ clear. none)

  pub made : (name : Procedure) (decision : Decision) → DecidesCall setting (record { procedure = name; arguments = arguments }) decision → P decision.changes
  made name decision (rights, are, is) = subst (λ (d : Decision). P d.changes) (sym is) (called rights name)
