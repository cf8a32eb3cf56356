-- A statement comes to one thing, and to nothing where it is refused.
use Rattle.std.proofs.Common.{◌≡◌, ◌≢◌, ◌∙◌, List, [], None, refl, ap, sym, subst}
use Rattle.au_admin.specs.Deciding as administration
use Rattle.au_base.specs.Codes.{DONE}
use Rattle.au_base.specs.declared.numbers.ClientNo.{ClientNo}
use Rattle.au_calls.specs.Settings as auditing
use Rattle.au_calls.specs.Settings.{AuditSetting}
use Rattle.au_condition.specs.Reading.{condition_read}
use Rattle.au_define.specs.Deciding as definitions
use Rattle.au_define.specs.Settings as defining
use Rattle.au_define.specs.Settings.{Setting}
use Rattle.au_entries.specs.declared.decision.Busy.{Busy}
use Rattle.au_entries.specs.declared.decision.Decision.{Decision}
use Rattle.au_entries.specs.declared.kept.Kept.{Kept}
use Rattle.au_expr.specs.Sessions.{Session}
use Rattle.au_fga.specs.Testing.{truth_over}
use Rattle.au_plan.specs.Plans.{IsPlanOf}
use Rattle.au_query.specs.Answers.{refused}
use Rattle.au_ruling.specs.declared.kind.StatementKind.{StatementKind}
use Rattle.au_ruling.specs.declared.kind.StatementKind.TheVariants.{OnRows, Commit, Rollback, Definition, Administration}
use Rattle.au_ruling.specs.declared.ruling.Ruling.{Ruling}
use Rattle.au_ruling.specs.Rulings.{ComesAs, Ground, of_decision, of_plan, sight_in}
use Rattle.au_ruling.specs.Sound.{AreAlike}
use Rattle.au_ruling.proofs.Changed.{defined_purge, forgets_none}
use Rattle.au_txn.specs.declared.change.RowChange.{RowChange}
use Rattle.au_world.specs.declared.row_plan.RowPlan.{RowPlan}
use Rattle.au_world.specs.Plans.{ShowTheSame, Truths}
use Rattle.au_world.specs.Sights.{Sight}
use Rattle.sql_ast.specs.declared.statement.Statement.{Statement}

-- ---- what is known below

abbrev pub PlansAreOne : Type 0
PlansAreOne =
    (truth : Truths) (sight : Sight) (client : ClientNo) (session : Session) (statement : Statement) (one other : RowPlan)
    → IsPlanOf truth sight client session statement one → IsPlanOf truth sight client session statement other → one ≡ other

abbrev pub PlansAreRefused : Type 0
PlansAreRefused =
    (truth : Truths) (sight : Sight) (client : ClientNo) (session : Session) (statement : Statement) (plan : RowPlan)
    → IsPlanOf truth sight client session statement plan → plan.code ≢ DONE
    → (plan.reply ≡ (refused plan.code).reply) × (plan.changes ≡ []) × (plan.fired ≡ [])

abbrev pub PlansAreTheSame : Type 0
PlansAreTheSame =
    (truth : Truths) (a b : Sight) (client : ClientNo) (session : Session) (statement : Statement) (plan : RowPlan)
    → ShowTheSame a b → IsPlanOf truth a client session statement plan → IsPlanOf truth b client session statement plan

abbrev pub DefinitionsAreOne : Type 0
DefinitionsAreOne =
    (setting : Setting) (statement : Statement) (a b : Decision) → definitions.Decides setting statement a → definitions.Decides setting statement b → a ≡ b

abbrev pub DefinitionsAreRefused : Type 0
DefinitionsAreRefused =
    (setting : Setting) (statement : Statement) (decision : Decision) → definitions.Decides setting statement decision → decision.code ≢ DONE → decision.changes ≡ []

abbrev pub AdministrationsAreOne : Type 0
AdministrationsAreOne =
    (setting : AuditSetting) (statement : Statement) (a b : Decision) → administration.Decides setting statement a → administration.Decides setting statement b → a ≡ b

abbrev pub AdministrationsAreRefused : Type 0
AdministrationsAreRefused =
    (setting : AuditSetting) (statement : Statement) (decision : Decision) → administration.Decides setting statement decision → decision.code ≢ DONE
    → (decision.changes ≡ []) × (decision.purge ≡ None) × (decision.forgets ≡ [])

-- by what the statement is decided in this basis
abbrev pub setting_in : Ground → Setting
setting_in basis = defining.setting_of basis.kept basis.session.user basis.client basis.busy

abbrev pub audit_setting_in : Ground → Statement → AuditSetting
audit_setting_in basis x =
    auditing.setting_of basis.kept basis.session.user basis.client basis.busy basis.session.stamp (condition_read basis.kept.tables basis.session.user x)

-- ---- one

pub once : PlansAreOne → DefinitionsAreOne → AdministrationsAreOne
    → (kind : StatementKind) (basis : Ground) (x : Statement) (a b : Ruling) → ComesAs kind basis x a → ComesAs kind basis x b → a ≡ b
once plans defined administered OnRows basis x a b one other =
    one.2 ∙ ap of_plan (plans (truth_over basis.session basis.kept.tables) (sight_in basis) basis.client basis.session x one.0 other.0 one.1 other.1) ∙ sym other.2
once plans defined administered Commit basis x a b one other = one ∙ sym other
once plans defined administered Rollback basis x a b one other = one ∙ sym other
once plans defined administered Definition basis x a b one other =
    one.2 ∙ ap of_decision (defined (setting_in basis) x one.0 other.0 one.1 other.1) ∙ sym other.2
once plans defined administered Administration basis x a b one other =
    one.2 ∙ ap of_decision (administered (audit_setting_in basis x) x one.0 other.0 one.1 other.1) ∙ sym other.2

-- ---- refused

abbrev pub IsNothing : Ruling → Type 0
IsNothing ruling = (ruling.changes ≡ []) × (ruling.rows ≡ []) × (ruling.purge ≡ None) × (ruling.forgets ≡ []) × (ruling.fired ≡ [])

abbrev IsNothingUnlessDone : Ruling → Type 0
IsNothingUnlessDone ruling = ruling.code ≢ DONE → IsNothing ruling

pub refused_so : PlansAreRefused → DefinitionsAreRefused → AdministrationsAreRefused
    → (kind : StatementKind) (basis : Ground) (x : Statement) (ruling : Ruling) → ComesAs kind basis x ruling → ruling.code ≢ DONE → IsNothing ruling
refused_so plans defined administered OnRows basis x ruling comes =
    subst IsNothingUnlessDone (sym comes.2) (λ not_done.
    let nothing = plans (truth_over basis.session basis.kept.tables) (sight_in basis) basis.client basis.session x comes.0 comes.1 not_done in (refl, nothing.1, refl, refl, nothing.2))
refused_so plans defined administered Commit basis x ruling comes = subst IsNothingUnlessDone (sym comes) (λ not_done. (refl, refl, refl, refl, refl))
refused_so plans defined administered Rollback basis x ruling comes = subst IsNothingUnlessDone (sym comes) (λ not_done. (refl, refl, refl, refl, refl))
refused_so plans defined administered Definition basis x ruling comes =
    subst IsNothingUnlessDone (sym comes.2) (λ not_done.
    (defined (setting_in basis) x comes.0 comes.1 not_done, refl, defined_purge (setting_in basis) x comes.0 comes.1, forgets_none (setting_in basis) x comes.0 comes.1, refl))
refused_so plans defined administered Administration basis x ruling comes =
    subst IsNothingUnlessDone (sym comes.2) (λ not_done.
    let nothing = administered (audit_setting_in basis x) x comes.0 comes.1 not_done in (nothing.0, refl, nothing.1, nothing.2, refl))

-- ---- the same

-- as it stands in the first, but with the changes of clients as they are kept in the second
abbrev with_transactions : Ground → Ground → Ground
with_transactions a b = record { kept = a.kept; busy = a.busy; client = a.client; session = a.session; transactions = b.transactions }

abbrev made : Kept → Busy → ClientNo → Session → (ClientNo → List RowChange) → Ground
made kept busy client session transactions = record { kept = kept; busy = busy; client = client; session = session; transactions = transactions }

is_second : (a b : Ground) → AreAlike a b → with_transactions a b ≡ b
is_second a b alike =
    ap (λ kept. made kept a.busy a.client a.session b.transactions) alike.kept
    ∙ ap (λ busy. made b.kept busy a.client a.session b.transactions) alike.busy
    ∙ ap (λ client. made b.kept b.busy client a.session b.transactions) alike.client
    ∙ ap (λ session. made b.kept b.busy b.client session b.transactions) alike.session

show_the_same : (a b : Ground) → AreAlike a b → ShowTheSame (sight_in a) (sight_in (with_transactions a b))
show_the_same a b alike = record {
  catalog = refl;
  grants = refl;
  rows = refl;
  own = alike.transactions a.client;
  transactions = alike.transactions;
  trail = refl;
}

comes_beside : PlansAreTheSame → (kind : StatementKind) (a b : Ground) (x : Statement) (ruling : Ruling) → AreAlike a b → ComesAs kind a x ruling → ComesAs kind (with_transactions a b) x ruling
comes_beside plans OnRows a b x ruling alike comes =
    (comes.0, plans (truth_over a.session a.kept.tables) (sight_in a) (sight_in (with_transactions a b)) a.client a.session x comes.0 (show_the_same a b alike) comes.1, comes.2)
comes_beside plans Commit a b x ruling alike comes = comes
comes_beside plans Rollback a b x ruling alike comes = comes
comes_beside plans Definition a b x ruling alike comes = comes
comes_beside plans Administration a b x ruling alike comes = comes

pub comes_alike : PlansAreTheSame → (kind : StatementKind) (a b : Ground) (x : Statement) (ruling : Ruling) → AreAlike a b → ComesAs kind a x ruling → ComesAs kind b x ruling
comes_alike plans kind a b x ruling alike comes =
    subst (λ (basis : Ground). ComesAs kind basis x ruling) (is_second a b alike) (comes_beside plans kind a b x ruling alike comes)
