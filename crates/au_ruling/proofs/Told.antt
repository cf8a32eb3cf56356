-- What a statement comes to can be written: its code, its privileges and its changes; and there is little of it.
use Rattle.std.proofs.Common.{◌≤◌, ◌<◌, ◌+◌, ◌^◌, ℕ, List, length, sym, subst, arith}
use Rattle.std.specs.List.{AllByRecursion}
use Rattle.au_admin.specs.Deciding as administration
use Rattle.au_admin.specs.Going.{IsTimely}
use Rattle.au_admin.specs.Names as administration_names
use Rattle.au_admin.specs.Names.{IsAuditSpelled, IsShort}
use Rattle.au_base.specs.Limits.{CATALOG_OBJECTS, LAST_MOMENT, TRANSACTION_CHANGES}
use Rattle.au_base.specs.Naming.{IsName}
use Rattle.au_base.specs.declared.numbers.ClientNo.{ClientNo}
use Rattle.au_base.specs.declared.numbers.Stamp.{Stamp}
use Rattle.au_calls.specs.Settings as auditing
use Rattle.au_calls.specs.Reading.{wrong_code}
use Rattle.au_calls.specs.Settings.{AuditSetting}
use Rattle.au_condition.specs.Reading.{condition_read}
use Rattle.au_define.specs.Deciding as definitions
use Rattle.au_define.specs.Deciding.{IsWellFormed}
use Rattle.au_define.specs.Names.{IsNamed}
use Rattle.au_define.specs.Settings.{Setting}
use Rattle.au_entries.specs.declared.decision.Busy.{Busy}
use Rattle.au_entries.specs.declared.decision.Decision.{Decision}
use Rattle.au_entries.specs.declared.decision.ReadCondition.{ReadCondition}
use Rattle.au_entries.specs.declared.kept.Kept.{Kept}
use Rattle.au_entries.specs.Lawful.{IsLawful, IsWhole}
use Rattle.au_entries.specs.Replaying.{Conditions}
use Rattle.au_replay.specs.Reading.{conditions}
use Rattle.au_entries.specs.declared.fine_grained.FgaName.{FgaName}
use Rattle.au_entries.specs.declared.table.Table.{Table}
use Rattle.au_fga.specs.Testing.{truth_over}
use Rattle.au_ruling.specs.declared.kind.StatementKind.{StatementKind}
use Rattle.au_ruling.specs.declared.kind.StatementKind.TheVariants.{OnRows, Commit, Rollback, Definition, Administration}
use Rattle.au_ruling.specs.declared.ruling.Ruling.{Ruling}
use Rattle.au_ruling.specs.Rulings.{ComesAs, Ground, IsPlanIn, sight_in}
use Rattle.au_ruling.specs.Sound.{IsNamedFga, IsSoundGround, IsSoundStatement}
use Rattle.au_ruling.proofs.Few.{administered_few, defined_few}
use Rattle.au_ruling.proofs.Fired.{audit_spelled, fired_few, fired_named, kept_named, plan_fired}
use Rattle.au_ruling.proofs.Once.{audit_setting_in, setting_in}
use Rattle.au_ruling.proofs.Codes.{ConditionsFit, NamesFit}
use Rattle.au_ruling.proofs.PlanCodes.{plan_told}
use Rattle.au_ruling.proofs.RightCodes.{TablesAreSame, none_usable}
use Rattle.au_world.specs.declared.row_plan.RowPlan.{RowPlan}
use Rattle.rec_codec.specs.Changes.{IsChangeSpellable}
use Rattle.rec_parts.specs.Parts.{privileges_in_order}
use Rattle.sql_ast.specs.declared.statement.Statement.{Statement}

-- ---- what is known below

abbrev pub DefinitionsAreTold : Type 0
DefinitionsAreTold =
    (setting : Setting) (statement : Statement) (decision : Decision) → definitions.Decides setting statement decision → (decision.code.0 < 2 ^ 32) × privileges_in_order.IsSpellable decision.used

abbrev pub AdministrationsAreTold : Type 0
AdministrationsAreTold =
    (setting : AuditSetting) (statement : Statement) (decision : Decision) → (wrong_code setting.read).0 < 2 ^ 32 → administration.Decides setting statement decision
    → (decision.code.0 < 2 ^ 32) × privileges_in_order.IsSpellable decision.used

abbrev pub ConditionsAreTold : Type 0
ConditionsAreTold = (tables : List Table) (user : List ℕ) (statement : Statement) → (wrong_code (condition_read tables user statement)).0 < 2 ^ 32

abbrev pub DefinitionsAreWritten : Type 0
DefinitionsAreWritten =
    (setting : Setting) (statement : Statement) (decision : Decision) → IsNamed statement → IsName setting.user → IsWellFormed statement → definitions.Decides setting statement decision
    → AllByRecursion IsChangeSpellable decision.changes

abbrev pub AdministrationsAreWritten : Type 0
AdministrationsAreWritten =
    (conditions : Conditions) (kept : Kept) (user : List ℕ) (client : ClientNo) (busy : Busy) (stamp : Stamp) (read : ReadCondition) (statement : Statement) (decision : Decision)
    → IsLawful conditions kept → IsWhole kept → IsAuditSpelled kept → administration_names.IsNamed statement → IsShort statement → IsTimely statement → IsName user → stamp.0 ≤ LAST_MOMENT
    → administration.Decides (auditing.setting_of kept user client busy stamp read) statement decision → AllByRecursion IsChangeSpellable decision.changes

-- ---- the code and the privileges

abbrev IsTold : Ruling → Type 0
IsTold ruling = (ruling.code.0 < 2 ^ 32) × privileges_in_order.IsSpellable ruling.used

pub told : DefinitionsAreTold → AdministrationsAreTold → ConditionsAreTold → NamesFit → ConditionsFit → TablesAreSame
    → (kind : StatementKind) (basis : Ground) (x : Statement) (ruling : Ruling) → ComesAs kind basis x ruling → (ruling.code.0 < 2 ^ 32) × privileges_in_order.IsSpellable ruling.used
told defined administered reads names conditions same OnRows basis x ruling comes =
    subst IsTold (sym comes.2) (plan_told names conditions same (truth_over basis.session basis.kept.tables) (sight_in basis) basis.client basis.session x comes.0 comes.1)
told defined administered reads names conditions same Commit basis x ruling comes = subst IsTold (sym comes) (omega arith, none_usable)
told defined administered reads names conditions same Rollback basis x ruling comes = subst IsTold (sym comes) (omega arith, none_usable)
told defined administered reads names conditions same Definition basis x ruling comes = subst IsTold (sym comes.2) (defined (setting_in basis) x comes.0 comes.1)
told defined administered reads names conditions same Administration basis x ruling comes =
    subst IsTold (sym comes.2) (administered (audit_setting_in basis x) x comes.0 (reads basis.kept.tables basis.session.user x) comes.1)

-- ---- the policies that fire

abbrev AreNamed : Ruling → Type 0
AreNamed ruling = AllByRecursion IsNamedFga ruling.fired

module _ (basis : Ground) (sound : IsSoundGround basis) (x : Statement) (ruling : Ruling) where
  plan_named : (plan : RowPlan) → IsPlanIn basis x plan → AllByRecursion IsNamedFga plan.fired
  plan_named plan is_plan =
      plan_fired (AllByRecursion IsNamedFga) tt (truth_over basis.session basis.kept.tables) (sight_in basis) basis.client basis.session
      (λ test. fired_named test basis.kept.fga (kept_named basis.kept sound.kept.spelled.entries)) x plan is_plan

  pub all_named : (kind : StatementKind) → ComesAs kind basis x ruling → AllByRecursion IsNamedFga ruling.fired
  all_named OnRows comes = subst AreNamed (sym comes.2) (plan_named comes.0 comes.1)
  all_named Commit comes = subst AreNamed (sym comes) tt
  all_named Rollback comes = subst AreNamed (sym comes) tt
  all_named Definition comes = subst AreNamed (sym comes.2) tt
  all_named Administration comes = subst AreNamed (sym comes.2) tt

  -- ---- the changes

  abbrev AreSpelled : Ruling → Type 0
  AreSpelled some = AllByRecursion IsChangeSpellable some.changes

  pub all_spelled : DefinitionsAreWritten → AdministrationsAreWritten → IsSoundStatement x → (kind : StatementKind) → ComesAs kind basis x ruling → AllByRecursion IsChangeSpellable ruling.changes
  all_spelled defined administered stated OnRows comes = subst AreSpelled (sym comes.2) tt
  all_spelled defined administered stated Commit comes = subst AreSpelled (sym comes) tt
  all_spelled defined administered stated Rollback comes = subst AreSpelled (sym comes) tt
  all_spelled defined administered stated Definition comes = subst AreSpelled (sym comes.2) (defined (setting_in basis) x comes.0 stated.named sound.named stated.formed comes.1)
  all_spelled defined administered stated Administration comes =
      subst AreSpelled (sym comes.2) (administered conditions basis.kept basis.session.user basis.client basis.busy basis.session.stamp (condition_read basis.kept.tables basis.session.user x) x comes.0
      sound.kept.lawful sound.kept.whole (audit_spelled basis.kept sound.kept.spelled.entries) stated.administered stated.short stated.timely sound.named sound.stamp comes.1)

  -- ---- how much of it there is

  within : (n m : ℕ) → n ≤ m → m ≤ CATALOG_OBJECTS → n ≤ CATALOG_OBJECTS
  within n m less few = omega (arith, less, few)

  plan_few : (plan : RowPlan) → IsPlanIn basis x plan → length plan.fired ≤ CATALOG_OBJECTS
  plan_few plan is_plan =
      plan_fired (λ (names : List FgaName). length names ≤ CATALOG_OBJECTS) (omega arith) (truth_over basis.session basis.kept.tables) (sight_in basis) basis.client basis.session
      (λ test. within _ (length basis.kept.fga) (fired_few test basis.kept.fga) sound.kept.whole.few.fga) x plan is_plan

  abbrev AreFew : Ruling → Type 0
  AreFew some = (length some.changes + TRANSACTION_CHANGES < 2 ^ 32) × (length some.fired ≤ CATALOG_OBJECTS)

  pub all_few : IsSoundStatement x → (kind : StatementKind) → ComesAs kind basis x ruling → (length ruling.changes + TRANSACTION_CHANGES < 2 ^ 32) × (length ruling.fired ≤ CATALOG_OBJECTS)
  all_few stated OnRows comes = subst AreFew (sym comes.2) (omega arith, plan_few comes.0 comes.1)
  all_few stated Commit comes = subst AreFew (sym comes) (omega arith, omega arith)
  all_few stated Rollback comes = subst AreFew (sym comes) (omega arith, omega arith)
  all_few stated Definition comes = subst AreFew (sym comes.2) (defined_few (setting_in basis) x comes.0 stated.few comes.1, omega arith)
  all_few stated Administration comes = subst AreFew (sym comes.2) (administered_few (audit_setting_in basis x) x comes.0 comes.1, omega arith)
