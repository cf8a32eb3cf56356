-- What is decided of the statements on audit policies, and of the calls of packages.
use Rattle.std.specs.Prelude.{Bool, true, false}
use Rattle.au_admin.specs.Enabling.{DecidesAudit, DecidesNoaudit}
use Rattle.au_admin.specs.Policies.{DecidesCreatePolicy, DecidesDropPolicy}
use Rattle.au_calls.specs.Calling.{DecidesCall}
use Rattle.au_calls.specs.Settings.{AuditSetting}
use Rattle.au_entries.specs.declared.decision.Decision.{Decision}
use Rattle.sql_ast.specs.declared.statement.Statement.{Statement}
use Rattle.sql_ast.specs.declared.statement.Statement.TheVariants.{CreatePolicy, DropPolicy, Audit, Noaudit, Call}

-- the statement is one on audit policies, or a call of a package
abbrev pub is_administration : Statement → Bool
is_administration (CreatePolicy create) = true
is_administration (DropPolicy policy) = true
is_administration (Audit audit) = true
is_administration (Noaudit policy users) = true
is_administration (Call call) = true
is_administration _ = false

-- what is decided of a statement; of another statement nothing is
abbrev pub Decides : AuditSetting → Statement → Decision → Type 0
Decides setting (CreatePolicy create) decision = DecidesCreatePolicy setting create decision
Decides setting (DropPolicy policy) decision = DecidesDropPolicy setting policy decision
Decides setting (Audit audit) decision = DecidesAudit setting audit decision
Decides setting (Noaudit policy users) decision = DecidesNoaudit setting policy users decision
Decides setting (Call call) decision = DecidesCall setting call decision
Decides setting _ decision = ⊥
