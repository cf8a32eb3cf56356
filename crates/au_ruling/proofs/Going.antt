-- What a statement changes goes on from what is kept, and leaves it whole.
use Rattle.std.proofs.Common.{◌≤◌, ℕ, false, List, sym, subst}
use Rattle.std.specs.Prelude.{IsTrue}
use Rattle.au_admin.specs.Deciding as administration
use Rattle.au_admin.specs.Going.{IsReadIn, IsTimely}
use Rattle.au_base.specs.BuiltIn.{sys}
use Rattle.au_base.specs.Limits.{LAST_MOMENT}
use Rattle.au_base.specs.declared.numbers.ClientNo.{ClientNo}
use Rattle.au_base.specs.declared.numbers.Stamp.{Stamp}
use Rattle.au_calls.specs.Settings as auditing
use Rattle.au_condition.specs.Reading.{condition_read}
use Rattle.au_define.specs.Deciding as definitions
use Rattle.au_define.specs.Deciding.{IsWellFormed}
use Rattle.au_define.specs.Settings as defining
use Rattle.au_entries.specs.Changing.{changed_all}
use Rattle.au_entries.specs.declared.decision.Busy.{Busy}
use Rattle.au_entries.specs.declared.decision.Decision.{Decision}
use Rattle.au_entries.specs.declared.decision.ReadCondition.{ReadCondition}
use Rattle.au_entries.specs.declared.kept.Kept.{Kept}
use Rattle.au_entries.specs.Lawful.{IsLawful, IsWhole}
use Rattle.au_entries.specs.Replaying.{AllGoOn, Conditions, has_user}
use Rattle.au_replay.specs.Reading.{conditions}
use Rattle.au_ruling.specs.declared.kind.StatementKind.{StatementKind}
use Rattle.au_ruling.specs.declared.kind.StatementKind.TheVariants.{OnRows, Commit, Rollback, Definition, Administration}
use Rattle.au_ruling.specs.declared.ruling.Ruling.{Ruling}
use Rattle.au_ruling.specs.Rulings.{ComesAs, Ground}
use Rattle.au_ruling.specs.Sound.{IsSoundGround, IsSoundStatement, is_connected}
use Rattle.au_ruling.proofs.Changed.{IsRowless, administered_rowless, defined_rowless}
use Rattle.au_ruling.proofs.Once.{audit_setting_in, setting_in}
use Rattle.sql_ast.specs.declared.expression.Expr.{Expr}
use Rattle.sql_ast.specs.declared.statement.Statement.{Statement}

-- ---- what is known below

abbrev pub DefinitionsGo : Type 0
DefinitionsGo =
    (conditions : Conditions) (kept : Kept) (user : List ℕ) (client : ClientNo) (busy : Busy) (statement : Statement) (decision : Decision)
    → IsWellFormed statement → IsLawful conditions kept → IsTrue (has_user kept user)
    → definitions.Decides (defining.setting_of kept user client busy) statement decision → AllGoOn conditions false kept decision.changes

abbrev pub DefinitionsStayWhole : Type 0
DefinitionsStayWhole =
    (conditions : Conditions) (tree : List ℕ → Expr) (kept : Kept) (user : List ℕ) (client : ClientNo) (busy : Busy) (statement : Statement) (decision : Decision)
    → IsLawful conditions kept → IsWhole kept → IsTrue (has_user kept sys) → definitions.Decides (defining.setting_of kept user client busy) statement decision
    → IsTrue (has_user (changed_all tree decision.changes kept) sys) × IsWhole (changed_all tree decision.changes kept)

abbrev pub DefinitionsKeepUsers : Type 0
DefinitionsKeepUsers =
    (conditions : Conditions) (tree : List ℕ → Expr) (kept : Kept) (user : List ℕ) (client : ClientNo) (busy : Busy) (statement : Statement) (decision : Decision) (who : List ℕ)
    → IsLawful conditions kept → IsWhole kept → IsTrue (has_user kept who) → IsTrue (defining.is_connected (defining.setting_of kept user client busy) who)
    → definitions.Decides (defining.setting_of kept user client busy) statement decision → IsTrue (has_user (changed_all tree decision.changes kept) who)

abbrev pub AdministrationsGo : Type 0
AdministrationsGo =
    (conditions : Conditions) (kept : Kept) (user : List ℕ) (client : ClientNo) (busy : Busy) (stamp : Stamp) (read : ReadCondition) (statement : Statement) (decision : Decision)
    → IsLawful conditions kept → stamp.0 ≤ LAST_MOMENT → IsTimely statement → IsReadIn conditions kept user statement read
    → administration.Decides (auditing.setting_of kept user client busy stamp read) statement decision → AllGoOn conditions false kept decision.changes

abbrev pub AdministrationsStayWhole : Type 0
AdministrationsStayWhole =
    (tree : List ℕ → Expr) (kept : Kept) (user : List ℕ) (client : ClientNo) (busy : Busy) (stamp : Stamp) (read : ReadCondition) (statement : Statement) (decision : Decision)
    → IsWhole kept → administration.Decides (auditing.setting_of kept user client busy stamp read) statement decision → IsWhole (changed_all tree decision.changes kept)

abbrev pub AdministrationsKeepUsers : Type 0
AdministrationsKeepUsers =
    (tree : List ℕ → Expr) (kept : Kept) (user : List ℕ) (client : ClientNo) (busy : Busy) (stamp : Stamp) (read : ReadCondition) (statement : Statement) (decision : Decision) (who : List ℕ)
    → IsTrue (has_user kept who) → administration.Decides (auditing.setting_of kept user client busy stamp read) statement decision → IsTrue (has_user (changed_all tree decision.changes kept) who)

abbrev pub ConditionsAreRead : Type 0
ConditionsAreRead = (kept : Kept) (user : List ℕ) (statement : Statement) → IsLawful conditions kept → IsReadIn conditions kept user statement (condition_read kept.tables user statement)

-- ---- changes go on

module _ (basis : Ground) (sound : IsSoundGround basis) (x : Statement) (ruling : Ruling) where
  abbrev Goes : Ruling → Type 0
  Goes some = AllGoOn conditions false basis.kept some.changes

  pub goes : DefinitionsGo → AdministrationsGo → ConditionsAreRead → IsSoundStatement x → (kind : StatementKind) → ComesAs kind basis x ruling → AllGoOn conditions false basis.kept ruling.changes
  goes defined administered reads stated OnRows comes = subst Goes (sym comes.2) tt
  goes defined administered reads stated Commit comes = subst Goes (sym comes) tt
  goes defined administered reads stated Rollback comes = subst Goes (sym comes) tt
  goes defined administered reads stated Definition comes =
      subst Goes (sym comes.2) (defined conditions basis.kept basis.session.user basis.client basis.busy x comes.0 stated.formed sound.kept.lawful sound.user comes.1)
  goes defined administered reads stated Administration comes =
      subst Goes (sym comes.2) (administered conditions basis.kept basis.session.user basis.client basis.busy basis.session.stamp (condition_read basis.kept.tables basis.session.user x) x comes.0
      sound.kept.lawful sound.stamp stated.timely (reads basis.kept basis.session.user x sound.kept.lawful) comes.1)

  abbrev Leaves : Ruling → Type 0
  Leaves some = IsWhole (changed_all conditions.tree some.changes basis.kept) × IsTrue (has_user (changed_all conditions.tree some.changes basis.kept) sys)

  pub leaves_whole : DefinitionsStayWhole → AdministrationsStayWhole → AdministrationsKeepUsers → (kind : StatementKind) → ComesAs kind basis x ruling
      → IsWhole (changed_all conditions.tree ruling.changes basis.kept) × IsTrue (has_user (changed_all conditions.tree ruling.changes basis.kept) sys)
  leaves_whole defined whole users OnRows comes = subst Leaves (sym comes.2) (sound.kept.whole, sound.system)
  leaves_whole defined whole users Commit comes = subst Leaves (sym comes) (sound.kept.whole, sound.system)
  leaves_whole defined whole users Rollback comes = subst Leaves (sym comes) (sound.kept.whole, sound.system)
  leaves_whole defined whole users Definition comes =
      let both = defined conditions conditions.tree basis.kept basis.session.user basis.client basis.busy x comes.0 sound.kept.lawful sound.kept.whole sound.system comes.1 in
      subst Leaves (sym comes.2) (both.1, both.0)
  leaves_whole defined whole users Administration comes =
      let read = condition_read basis.kept.tables basis.session.user x in
      subst Leaves (sym comes.2) (
        whole conditions.tree basis.kept basis.session.user basis.client basis.busy basis.session.stamp read x comes.0 sound.kept.whole comes.1,
        users conditions.tree basis.kept basis.session.user basis.client basis.busy basis.session.stamp read x comes.0 sys sound.system comes.1,
      )

  module _ (who : List ℕ) (there : IsTrue (has_user basis.kept who)) where
    abbrev Keeps : Ruling → Type 0
    Keeps some = IsTrue (has_user (changed_all conditions.tree some.changes basis.kept) who)

    pub stays : DefinitionsKeepUsers → AdministrationsKeepUsers → IsTrue (is_connected basis who) → (kind : StatementKind) → ComesAs kind basis x ruling
        → IsTrue (has_user (changed_all conditions.tree ruling.changes basis.kept) who)
    stays defined users connected OnRows comes = subst Keeps (sym comes.2) there
    stays defined users connected Commit comes = subst Keeps (sym comes) there
    stays defined users connected Rollback comes = subst Keeps (sym comes) there
    stays defined users connected Definition comes =
        subst Keeps (sym comes.2) (defined conditions conditions.tree basis.kept basis.session.user basis.client basis.busy x comes.0 who sound.kept.lawful sound.kept.whole there connected comes.1)
    stays defined users connected Administration comes =
        subst Keeps (sym comes.2) (users conditions.tree basis.kept basis.session.user basis.client basis.busy basis.session.stamp (condition_read basis.kept.tables basis.session.user x) x comes.0 who there comes.1)

-- ---- no row is changed

abbrev NoRows : Ruling → Type 0
NoRows some = IsRowless some.changes

pub rowless : (kind : StatementKind) (basis : Ground) (x : Statement) (ruling : Ruling) → ComesAs kind basis x ruling → IsRowless ruling.changes
rowless OnRows basis x ruling comes = subst NoRows (sym comes.2) tt
rowless Commit basis x ruling comes = subst NoRows (sym comes) tt
rowless Rollback basis x ruling comes = subst NoRows (sym comes) tt
rowless Definition basis x ruling comes = subst NoRows (sym comes.2) (defined_rowless (setting_in basis) x comes.0 comes.1)
rowless Administration basis x ruling comes = subst NoRows (sym comes.2) (administered_rowless (audit_setting_in basis x) x comes.0 comes.1)
