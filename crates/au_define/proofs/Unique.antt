-- A statement on tables, users, roles or grants has one decision.
use Rattle.std.proofs.Common.{◌≡◌, ◌∙◌, Bool, List, sym, ap}
use Rattle.au_base.specs.BuiltIn.{resolved_table}
use Rattle.au_base.specs.declared.code.Code.{Code}
use Rattle.au_base.specs.declared.table.TableName.{TableName}
use Rattle.au_base.specs.declared.grant.GrantStatement.{GrantStatement}
use Rattle.au_define.specs.Deciding.{Decides}
use Rattle.au_define.specs.Granting.{DecidesGrant, known_of, of_decided}
use Rattle.au_define.specs.Roles.{create_role, drop_role}
use Rattle.au_define.specs.Rules.{Tells}
use Rattle.au_define.specs.Settings.{Setting}
use Rattle.au_define.specs.Tables.{DecidesCreating, DecidesDropping, create_table, drop_table}
use Rattle.au_define.specs.Users.{alter_user, create_user, drop_user}
use Rattle.au_define.proofs.Granted.{granted_one}
use Rattle.au_define.proofs.Same.{same_refusal, same_test}
use Rattle.au_entries.specs.declared.decision.Decision.{Decision}
use Rattle.sql_ast.specs.declared.statement.Statement.{Statement}
use Rattle.sql_ast.specs.declared.statement.Statement.TheVariants.{Select, Count, Insert, Update, Delete, Commit, Rollback, CreateTable, DropTable, CreateUser, AlterUser, DropUser, CreateRole, DropRole, Grant, CreatePolicy, DropPolicy, Audit, Noaudit, Call}
use Rattle.sql_ast.specs.declared.table.Element.{Element}

by_one : (P : Type 0) (answer : Bool → Decision) (a b : Decision) → ((held : Bool) × Tells held P × (a ≡ answer held)) → ((held : Bool) × Tells held P × (b ≡ answer held)) → a ≡ b
by_one P answer a b (h, tells, is) (k, told, are) = is ∙ ap answer (same_test P h k tells told) ∙ sym are

by_two : (P Q : Type 0) (answer : Bool → Bool → Decision) (a b : Decision) → ((one other : Bool) × Tells one P × Tells other Q × (a ≡ answer one other))
    → ((one other : Bool) × Tells one P × Tells other Q × (b ≡ answer one other)) → a ≡ b
by_two P Q answer a b (h, i, tells, says, is) (k, l, told, said, are) =
    is ∙ ap (λ one. answer one i) (same_test P h k tells told) ∙ ap (answer k) (same_test Q i l says said) ∙ sym are

created : (setting : Setting) (table : TableName) (elements : List Element) (a b : Decision) → DecidesCreating setting table elements a → DecidesCreating setting table elements b → a ≡ b
created setting table elements a b (held, own, any, is) (had, owned, some, are) =
    let answer : Bool → Bool → Decision = λ own any. create_table (record { own = own; any = any }) setting table elements in
    is ∙ ap (λ own. answer own held.any) (same_test _ held.own had.own own owned) ∙ ap (answer had.own) (same_test _ held.any had.any any some) ∙ sym are

dropped : (setting : Setting) (table : TableName) (a b : Decision) → DecidesDropping setting table a → DecidesDropping setting table b → a ≡ b
dropped setting table a b (held, code, tells, refuses, is) (had, other, told, refused, are) =
    is ∙ ap (λ (h : Bool). drop_table h code setting table) (same_test _ held had tells told)
    ∙ ap (λ (c : Code). drop_table had c setting table) (same_refusal setting.grants setting.user table code other refuses refused) ∙ sym are

granted : (setting : Setting) (statement : GrantStatement) (a b : Decision) → DecidesGrant setting statement a → DecidesGrant setting statement b → a ≡ b
granted setting statement a b (made, decides, is) (other, decided, are) =
    is ∙ ap of_decided (granted_one setting.grants (known_of setting) setting.user statement made other decides decided) ∙ sym are

pub one : (setting : Setting) (statement : Statement) (a b : Decision) → Decides setting statement a → Decides setting statement b → a ≡ b
one setting (CreateTable create) a b = created setting (resolved_table setting.user create.table) create.elements a b
one setting (DropTable table) a b = dropped setting (resolved_table setting.user table) a b
one setting (CreateUser user password) a b = by_one _ (λ held. create_user held setting user password.text) a b
one setting (AlterUser user password) a b = by_one _ (λ held. alter_user held setting user password.text) a b
one setting (DropUser user) a b = by_one _ (λ held. drop_user held setting user) a b
one setting (CreateRole role) a b = by_one _ (λ held. create_role held setting role) a b
one setting (DropRole role) a b = by_two _ _ (λ administered held. drop_role administered held setting role) a b
one setting (Grant grant) a b = granted setting grant a b
one setting (Select x) a b = λ never. absurd never
one setting (Count x) a b = λ never. absurd never
one setting (Insert x) a b = λ never. absurd never
one setting (Update x) a b = λ never. absurd never
one setting (Delete x) a b = λ never. absurd never
one setting Commit a b = λ never. absurd never
one setting Rollback a b = λ never. absurd never
one setting (CreatePolicy x) a b = λ never. absurd never
one setting (DropPolicy x) a b = λ never. absurd never
one setting (Audit x) a b = λ never. absurd never
one setting (Noaudit x y) a b = λ never. absurd never
one setting (Call x) a b = λ never. absurd never
