-- What the changes of a decision are: none, one that touches no row, or two of these; of DROP TABLE the table's, and of GRANT and
-- REVOKE those of grants.
-- And statements on tables, users, roles and grants forget and purge nothing.
use Rattle.std.proofs.Common.{◌≡◌, ◌&&◌, Bool, true, false, not, ℕ, List, [], ◌∷◌, ◌++◌, map, Option, Some, None, Result, Ok, Err, refl, ap, sym, subst}
use Rattle.std.specs.Prelude.{⊤, if◌then◌else◌}
use Rattle.std.specs.List.{AllByRecursion}
use Rattle.au_admin.specs.Deciding as administration
use Rattle.au_admin.specs.Enabling.{audit_makes, enabling, noaudit_makes}
use Rattle.au_base.specs.BuiltIn.{dual, resolved_table, trail}
use Rattle.au_base.specs.Codes.{LOCKED, NO_SUCH_TABLE, PRIVILEGE_MISSING, TRAIL_READ_ONLY}
use Rattle.au_base.specs.Sameness.{same_table}
use Rattle.au_base.specs.declared.code.Code.{Code}
use Rattle.au_base.specs.declared.grant.GrantStatement.{GrantStatement}
use Rattle.au_base.specs.declared.numbers.Stamp.{Stamp}
use Rattle.au_base.specs.declared.table.TableName.{TableName}
use Rattle.au_base.specs.declared.table.TableReference.{TableReference}
use Rattle.au_calls.specs.declared.requests.FgaParts.{FgaParts}
use Rattle.au_calls.specs.declared.rights.AuditRights.{AuditRights}
use Rattle.au_calls.specs.Archiving.{archive_time, archiving, same_archive}
use Rattle.au_calls.specs.Arguments.{given, truth_in}
use Rattle.au_calls.specs.Calling.{call_decided}
use Rattle.au_calls.specs.FineGrained.{add_by, drop_by, fga_found, is_so, parts_of, switch_by, switching, target_of}
use Rattle.au_calls.specs.Settings.{AuditSetting}
use Rattle.au_define.specs.Deciding as definitions
use Rattle.au_define.specs.Granting.{change_of, known_of}
use Rattle.au_define.specs.Rules.{Rules, is_broken}
use Rattle.au_define.specs.Settings.{Setting, has_table}
use Rattle.au_define.specs.Tables.{is_changed, is_own}
use Rattle.au_define.specs.Users.{has_verifier, new_verifier, verifier}
use Rattle.au_entries.specs.declared.change.Change.{Change}
use Rattle.au_entries.specs.declared.change.Change.TheVariants as change
use Rattle.au_entries.specs.declared.decision.Decision.{Decision}
use Rattle.au_entries.specs.declared.fine_grained.FgaName.{FgaName}
use Rattle.au_entries.specs.declared.fine_grained.FgaPolicy.{FgaPolicy}
use Rattle.au_entries.specs.declared.policy.Enabled.{Enabled}
use Rattle.au_grants.specs.declared.change.GrantChange.{GrantChange}
use Rattle.au_grants.specs.declared.change.GrantChange.TheVariants as grant
use Rattle.au_kept.specs.Staging.{IsOfRow}
use Rattle.au_priv.specs.declared.decided.Decided.{Decided}
use Rattle.au_priv.specs.Deciding.{Decides as DecidesRights}
use Rattle.sql_ast.specs.declared.call.Argument.{Argument}
use Rattle.sql_ast.specs.declared.call.Parameter.TheVariants.{Enable}
use Rattle.sql_ast.specs.declared.call.Procedure.{Procedure}
use Rattle.sql_ast.specs.declared.call.Procedure.TheVariants as procedure
use Rattle.sql_ast.specs.declared.statement.Statement.{Statement}
use Rattle.sql_ast.specs.declared.statement.Statement.TheVariants as is

-- the change is of a row, or takes away a table with its rows
abbrev pub TouchesRows : Change → Type 0
TouchesRows (change.TableGone table) = ⊤
TouchesRows other = IsOfRow other

-- the last of some rules isn't broken where none is
last_unbroken : (rules : Rules) (broken : Bool) (code : Code) → is_broken (rules ++ (broken, code) ∷ []) ≡ false → broken ≡ false
last_unbroken [] false code none = refl
last_unbroken [] true code none = absurd cc
last_unbroken ((true, first) ∷ rules) broken code none = absurd cc
last_unbroken ((false, first) ∷ rules) broken code none = last_unbroken rules broken code none

-- the rules of DROP TABLE on what is there and on rights
abbrev drop_rights : Bool → Code → Setting → TableName → Rules
drop_rights held refusal setting table =
    (same_table table trail, TRAIL_READ_ONLY) ∷ (same_table table dual, PRIVILEGE_MISSING)
    ∷ (not (has_table setting table), NO_SUCH_TABLE) ∷ (not (is_own setting table) && not held, refusal) ∷ []

-- ---- what holds of no change, of one that touches no row, and of two of them

module _ (P : List Change → Type 0) (none : P []) (one : (change : Change) → ¬ TouchesRows change → P (change ∷ [])) where
  unless : (broken : Bool) (changes : List Change) → (broken ≡ false → P changes) → P (if broken then [] else changes)
  unless true changes holds = none
  unless false changes holds = holds refl

  either : (broken : Bool) (changes : List Change) → P changes → P (if broken then [] else changes)
  either true changes holds = none
  either false changes holds = holds

  by_changes : (decision : Decision) (changes : List Change) → decision.changes ≡ changes → P changes → P decision.changes
  by_changes decision changes is_so holds = subst P (sym is_so) holds

  enabled_so : (same : Bool) (policy : List ℕ) (made : Result Enabled Code) → P (enabling same policy made)
  enabled_so same policy (Ok made) = either same _ (one _ (λ it. it))
  enabled_so same policy (Err code) = none

  added : (rights : AuditRights) (setting : AuditSetting) (target : Option FgaName) (parts : Option FgaParts) → P (add_by rights setting target parts).changes
  added rights setting (Some target) (Some parts) = either _ _ (one _ (λ it. it))
  added rights setting (Some target) None = either _ [] none
  added rights setting None (Some parts) = either _ [] none
  added rights setting None None = either _ [] none

  dropped : (rights : AuditRights) (setting : AuditSetting) (target : Option FgaName) → P (drop_by rights setting target).changes
  dropped rights setting (Some target) = either _ _ (one _ (λ it. it))
  dropped rights setting None = either _ [] none

  switching_so : (on : Bool) (policy : Option FgaPolicy) → P (switching on policy)
  switching_so on None = none
  switching_so on (Some policy) = either (is_so on policy) _ (one _ (λ it. it))

  switched : (rights : AuditRights) (setting : AuditSetting) (target : Option FgaName) (on : Option Bool) → P (switch_by rights setting target on).changes
  switched rights setting (Some target) (Some on) = either _ (switching on (fga_found setting target)) (switching_so on (fga_found setting target))
  switched rights setting (Some target) None = either _ [] none
  switched rights setting None (Some on) = either _ [] none
  switched rights setting None None = either _ [] none

  archived : (standing archive : Option Stamp) → P (archiving standing archive)
  archived standing archive = either (same_archive standing archive) _ (one _ (λ it. it))

  called : (rights : AuditRights) (setting : AuditSetting) (name : Procedure) (arguments : List Argument) → P (call_decided rights setting name arguments).changes
  called rights setting procedure.AddPolicy arguments = added rights setting (target_of setting.setting.user arguments) (parts_of arguments)
  called rights setting procedure.DropPolicy arguments = dropped rights setting (target_of setting.setting.user arguments)
  called rights setting procedure.EnablePolicy arguments = switched rights setting (target_of setting.setting.user arguments) (truth_in (given arguments Enable))
  called rights setting procedure.DisablePolicy arguments = switched rights setting (target_of setting.setting.user arguments) (Some false)
  called rights setting procedure.SetLastArchiveTimestamp arguments =
      either _ (archiving setting.archive (archive_time setting arguments)) (archived setting.archive (archive_time setting arguments))
  called rights setting procedure.ClearLastArchiveTimestamp arguments = either _ (archiving setting.archive None) (archived setting.archive None)
  called rights setting procedure.CleanAuditTrail arguments = either _ [] none

  pub administered_so : (setting : AuditSetting) (x : Statement) (decision : Decision) → administration.Decides setting x decision → P decision.changes
  administered_so setting (is.Select x) decision decides = absurd decides
  administered_so setting (is.Count x) decision decides = absurd decides
  administered_so setting (is.Insert x) decision decides = absurd decides
  administered_so setting (is.Update x) decision decides = absurd decides
  administered_so setting (is.Delete x) decision decides = absurd decides
  administered_so setting is.Commit decision decides = absurd decides
  administered_so setting is.Rollback decision decides = absurd decides
  administered_so setting (is.CreateTable x) decision decides = absurd decides
  administered_so setting (is.DropTable x) decision decides = absurd decides
  administered_so setting (is.CreateUser x y) decision decides = absurd decides
  administered_so setting (is.AlterUser x y) decision decides = absurd decides
  administered_so setting (is.DropUser x) decision decides = absurd decides
  administered_so setting (is.CreateRole x) decision decides = absurd decides
  administered_so setting (is.DropRole x) decision decides = absurd decides
  administered_so setting (is.Grant x) decision decides = absurd decides
  administered_so setting (is.CreatePolicy x) decision decides = by_changes decision _ (ap (λ d. d.changes) decides.2) (either _ _ (one _ (λ it. it)))
  administered_so setting (is.DropPolicy x) decision decides = by_changes decision _ (ap (λ d. d.changes) decides.2) (either _ _ (one _ (λ it. it)))
  administered_so setting (is.Audit x) decision decides =
      by_changes decision _ (ap (λ d. d.changes) decides.4) (either _ (enabling decides.1 x.policy (audit_makes setting x)) (enabled_so decides.1 x.policy (audit_makes setting x)))
  administered_so setting (is.Noaudit x y) decision decides =
      by_changes decision _ (ap (λ d. d.changes) decides.4) (either _ (enabling decides.1 x (noaudit_makes setting x y)) (enabled_so decides.1 x (noaudit_makes setting x y)))
  administered_so setting (is.Call x) decision decides = by_changes decision _ (ap (λ d. d.changes) decides.2) (called decides.0 setting x.procedure x.arguments)

  -- what a dropped table's change is, where no other client has a change in it, and what those of grants are, is told
  pub defined_so : ((a b : Change) → ¬ TouchesRows a → ¬ TouchesRows b → P (a ∷ b ∷ [])) → (setting : Setting) (x : Statement) (decision : Decision)
      → ((table : TableReference) → x ≡ is.DropTable table → is_changed setting (resolved_table setting.user table) ≡ false → P (change.TableGone (resolved_table setting.user table) ∷ []))
      → ((statement : GrantStatement) (decided : Decided) → x ≡ is.Grant statement → DecidesRights setting.grants (known_of setting) setting.user statement decided → P (map change_of decided.grants))
      → definitions.Decides setting x decision → P decision.changes
  defined_so two setting (is.Select x) decision gone granted decides = absurd decides
  defined_so two setting (is.Count x) decision gone granted decides = absurd decides
  defined_so two setting (is.Insert x) decision gone granted decides = absurd decides
  defined_so two setting (is.Update x) decision gone granted decides = absurd decides
  defined_so two setting (is.Delete x) decision gone granted decides = absurd decides
  defined_so two setting is.Commit decision gone granted decides = absurd decides
  defined_so two setting is.Rollback decision gone granted decides = absurd decides
  defined_so two setting (is.CreateTable x) decision gone granted decides = by_changes decision _ (ap (λ d. d.changes) decides.3) (either _ _ (one _ (λ it. it)))
  defined_so two setting (is.DropTable x) decision gone granted decides =
      let table = resolved_table setting.user x in
      by_changes decision _ (ap (λ d. d.changes) decides.4)
      (unless (is_broken (drop_rights decides.0 decides.1 setting table ++ (is_changed setting table, LOCKED) ∷ [])) (change.TableGone table ∷ [])
      (λ unbroken. gone x refl (last_unbroken (drop_rights decides.0 decides.1 setting table) (is_changed setting table) LOCKED unbroken)))
  defined_so two setting (is.CreateUser x y) decision gone granted decides = by_changes decision _ (ap (λ d. d.changes) decides.2) (either _ _ (one _ (λ it. it)))
  defined_so two setting (is.AlterUser x y) decision gone granted decides = by_changes decision _ (ap (λ d. d.changes) decides.2) (either _ (new_verifier setting x (verifier x y.text)) (either (has_verifier setting x (verifier x y.text)) _ (one _ (λ it. it))))
  defined_so two setting (is.DropUser x) decision gone granted decides = by_changes decision _ (ap (λ d. d.changes) decides.2) (either _ _ (one _ (λ it. it)))
  defined_so two setting (is.CreateRole x) decision gone granted decides = by_changes decision _ (ap (λ d. d.changes) decides.2) (either _ _ (two _ _ (λ it. it) (λ it. it)))
  defined_so two setting (is.DropRole x) decision gone granted decides = by_changes decision _ (ap (λ d. d.changes) decides.4) (either _ _ (one _ (λ it. it)))
  defined_so two setting (is.Grant x) decision gone granted decides = by_changes decision _ (ap (λ d. d.changes) decides.2) (granted x decides.0 refl decides.1)
  defined_so two setting (is.CreatePolicy x) decision gone granted decides = absurd decides
  defined_so two setting (is.DropPolicy x) decision gone granted decides = absurd decides
  defined_so two setting (is.Audit x) decision gone granted decides = absurd decides
  defined_so two setting (is.Noaudit x y) decision gone granted decides = absurd decides
  defined_so two setting (is.Call x) decision gone granted decides = absurd decides

-- ---- no row

abbrev pub IsRowless : List Change → Type 0
IsRowless changes = AllByRecursion (λ change. ¬ IsOfRow change) changes

-- what touches no row is of none
untouching : (one : Change) → ¬ TouchesRows one → ¬ IsOfRow one
untouching (change.User name verifier) free = free
untouching (change.UserGone name) free = free
untouching (change.Role name) free = free
untouching (change.RoleGone name) free = free
untouching (change.SysGrant grantee privilege admin) free = free
untouching (change.SysRevoke grantee privilege) free = free
untouching (change.RoleGrant grantee role admin) free = free
untouching (change.RoleRevoke grantee role) free = free
untouching (change.ObjGrant grantee table action) free = free
untouching (change.ObjRevoke grantee table action) free = free
untouching (change.Table name columns key) free = free
untouching (change.TableGone table) free = λ it. it
untouching (change.Put name row cells) free = free
untouching (change.Gone name row) free = free
untouching (change.Policy name privileges actions roles when) free = free
untouching (change.PolicyGone name) free = free
untouching (change.Enable policy enabled) free = free
untouching (change.Fga table policy condition columns all types enabled) free = free
untouching (change.FgaGone table policy) free = free
untouching (change.Archive stamp) free = free
untouching (change.Start instance) free = free

pub one_rowless : (change : Change) → ¬ TouchesRows change → IsRowless (change ∷ [])
one_rowless one free = (untouching one free, tt)

two_rowless : (a b : Change) → ¬ TouchesRows a → ¬ TouchesRows b → IsRowless (a ∷ b ∷ [])
two_rowless a b free other = (untouching a free, (untouching b other, tt))

granted_rowless : (change : GrantChange) → ¬ IsOfRow (change_of change)
granted_rowless (grant.UserGone user) = λ it. it
granted_rowless (grant.RoleGone role) = λ it. it
granted_rowless (grant.SystemGrant grantee privilege admin) = λ it. it
granted_rowless (grant.SystemRevoke grantee privilege) = λ it. it
granted_rowless (grant.RoleGrant grantee role admin) = λ it. it
granted_rowless (grant.RoleRevoke grantee role) = λ it. it
granted_rowless (grant.ObjectGrant grantee table action) = λ it. it
granted_rowless (grant.ObjectRevoke grantee table action) = λ it. it
granted_rowless (grant.TableGone table) = λ it. it

all_granted : (changes : List GrantChange) → IsRowless (map change_of changes)
all_granted [] = tt
all_granted (change ∷ changes) = (granted_rowless change, all_granted changes)

pub defined_rowless : (setting : Setting) (x : Statement) (decision : Decision) → definitions.Decides setting x decision → IsRowless decision.changes
defined_rowless setting x decision decides =
    defined_so IsRowless tt one_rowless two_rowless setting x decision (λ table same unchanged. (λ it. it, tt)) (λ statement decided same rights. all_granted decided.grants) decides

pub administered_rowless : (setting : AuditSetting) (x : Statement) (decision : Decision) → administration.Decides setting x decision → IsRowless decision.changes
administered_rowless setting x decision decides = administered_so IsRowless tt one_rowless setting x decision decides

-- ---- nothing is forgotten

pub forgets_none : (setting : Setting) (x : Statement) (decision : Decision) → definitions.Decides setting x decision → decision.forgets ≡ []
forgets_none setting (is.Select x) decision decides = absurd decides
forgets_none setting (is.Count x) decision decides = absurd decides
forgets_none setting (is.Insert x) decision decides = absurd decides
forgets_none setting (is.Update x) decision decides = absurd decides
forgets_none setting (is.Delete x) decision decides = absurd decides
forgets_none setting is.Commit decision decides = absurd decides
forgets_none setting is.Rollback decision decides = absurd decides
forgets_none setting (is.CreateTable x) decision decides = ap (λ d. d.forgets) decides.3
forgets_none setting (is.DropTable x) decision decides = ap (λ d. d.forgets) decides.4
forgets_none setting (is.CreateUser x y) decision decides = ap (λ d. d.forgets) decides.2
forgets_none setting (is.AlterUser x y) decision decides = ap (λ d. d.forgets) decides.2
forgets_none setting (is.DropUser x) decision decides = ap (λ d. d.forgets) decides.2
forgets_none setting (is.CreateRole x) decision decides = ap (λ d. d.forgets) decides.2
forgets_none setting (is.DropRole x) decision decides = ap (λ d. d.forgets) decides.4
forgets_none setting (is.Grant x) decision decides = ap (λ d. d.forgets) decides.2
forgets_none setting (is.CreatePolicy x) decision decides = absurd decides
forgets_none setting (is.DropPolicy x) decision decides = absurd decides
forgets_none setting (is.Audit x) decision decides = absurd decides
forgets_none setting (is.Noaudit x y) decision decides = absurd decides
forgets_none setting (is.Call x) decision decides = absurd decides

-- ---- nothing is purged

pub defined_purge : (setting : Setting) (x : Statement) (decision : Decision) → definitions.Decides setting x decision → decision.purge ≡ None
defined_purge setting (is.Select x) decision decides = absurd decides
defined_purge setting (is.Count x) decision decides = absurd decides
defined_purge setting (is.Insert x) decision decides = absurd decides
defined_purge setting (is.Update x) decision decides = absurd decides
defined_purge setting (is.Delete x) decision decides = absurd decides
defined_purge setting is.Commit decision decides = absurd decides
defined_purge setting is.Rollback decision decides = absurd decides
defined_purge setting (is.CreateTable x) decision decides = ap (λ d. d.purge) decides.3
defined_purge setting (is.DropTable x) decision decides = ap (λ d. d.purge) decides.4
defined_purge setting (is.CreateUser x y) decision decides = ap (λ d. d.purge) decides.2
defined_purge setting (is.AlterUser x y) decision decides = ap (λ d. d.purge) decides.2
defined_purge setting (is.DropUser x) decision decides = ap (λ d. d.purge) decides.2
defined_purge setting (is.CreateRole x) decision decides = ap (λ d. d.purge) decides.2
defined_purge setting (is.DropRole x) decision decides = ap (λ d. d.purge) decides.4
defined_purge setting (is.Grant x) decision decides = ap (λ d. d.purge) decides.2
defined_purge setting (is.CreatePolicy x) decision decides = absurd decides
defined_purge setting (is.DropPolicy x) decision decides = absurd decides
defined_purge setting (is.Audit x) decision decides = absurd decides
defined_purge setting (is.Noaudit x y) decision decides = absurd decides
defined_purge setting (is.Call x) decision decides = absurd decides
