-- A statement on audit policies, or a call of a package, has one decision.
use Rattle.std.proofs.Common.{◌≡◌, ◌∙◌, Bool, true, false, refl, sym, ap, ap₂}
use Rattle.au_calls.specs.declared.rights.AuditRights.{AuditRights}
use Rattle.au_admin.specs.Deciding.{Decides}
use Rattle.au_admin.specs.Enabling.{audit, noaudit}
use Rattle.au_admin.specs.Policies.{create_policy, drop_policy}
use Rattle.au_calls.specs.Rights.{AreRights, DecidedByRights}
use Rattle.au_calls.specs.Settings.{AuditSetting}
use Rattle.au_calls.specs.Calling.{DecidesCall}
use Rattle.au_define.specs.Rules.{Tells}
use Rattle.au_entries.specs.declared.decision.Decision.{Decision}
use Rattle.sql_ast.specs.declared.call.Call.{Call as AnyCall}
use Rattle.sql_ast.specs.declared.statement.Statement.{Statement}
use Rattle.sql_ast.specs.declared.statement.Statement.TheVariants.{Select, Count, Insert, Update, Delete, Commit, Rollback, CreateTable, DropTable, CreateUser, AlterUser, DropUser, CreateRole, DropRole, Grant, CreatePolicy, DropPolicy, Audit, Noaudit, Call}

-- two tests of one fact are the same
same_test : (P : Type 0) (a b : Bool) → Tells a P → Tells b P → a ≡ b
same_test P true true one other = refl
same_test P false false one other = refl
same_test P true false one other = absurd (let e : false ≡ true = other.1 (one.0 refl) in cc)
same_test P false true one other = absurd (let e : false ≡ true = one.1 (other.0 refl) in cc)

module _ (are_one : (setting : AuditSetting) (a b : AuditRights) → AreRights setting a → AreRights setting b → a ≡ b)
    (calls : (setting : AuditSetting) (call : AnyCall) (a b : Decision) → DecidesCall setting call a → DecidesCall setting call b → a ≡ b) where
  by_rights : (setting : AuditSetting) (answer : AuditRights → Decision) (a b : Decision) → DecidedByRights setting answer a → DecidedByRights setting answer b → a ≡ b
  by_rights setting answer a b (r, rights, is) (q, others, are) = is ∙ ap answer (are_one setting r q rights others) ∙ sym are

  by_same : (setting : AuditSetting) (P : Type 0) (answer : AuditRights → Bool → Decision) (a b : Decision)
      → ((rights : AuditRights) × (same : Bool) × AreRights setting rights × Tells same P × (a ≡ answer rights same))
      → ((rights : AuditRights) × (same : Bool) × AreRights setting rights × Tells same P × (b ≡ answer rights same)) → a ≡ b
  by_same setting P answer a b (r, s, rights, tells, is) (q, t, others, told, are) =
      is ∙ ap₂ answer (are_one setting r q rights others) (same_test P s t tells told) ∙ sym are

  pub one : (setting : AuditSetting) (statement : Statement) (a b : Decision) → Decides setting statement a → Decides setting statement b → a ≡ b
  one setting (CreatePolicy create) a b = by_rights setting (λ rights. create_policy rights setting create) a b
  one setting (DropPolicy policy) a b = by_rights setting (λ rights. drop_policy rights setting policy) a b
  one setting (Audit statement) a b = by_same setting _ (λ rights same. audit rights same setting statement) a b
  one setting (Noaudit policy users) a b = by_same setting _ (λ rights same. noaudit rights same setting policy users) a b
  one setting (Call call) a b = calls setting call a b
  one setting (Select x) a b = λ never. absurd never
  one setting (Count x) a b = λ never. absurd never
  one setting (Insert x) a b = λ never. absurd never
  one setting (Update x) a b = λ never. absurd never
  one setting (Delete x) a b = λ never. absurd never
  one setting Commit a b = λ never. absurd never
  one setting Rollback a b = λ never. absurd never
  one setting (CreateTable x) a b = λ never. absurd never
  one setting (DropTable x) a b = λ never. absurd never
  one setting (CreateUser x y) a b = λ never. absurd never
  one setting (AlterUser x y) a b = λ never. absurd never
  one setting (DropUser x) a b = λ never. absurd never
  one setting (CreateRole x) a b = λ never. absurd never
  one setting (DropRole x) a b = λ never. absurd never
  one setting (Grant x) a b = λ never. absurd never
