-- What a statement AUDIT, NOAUDIT or DROP AUDIT POLICY is (SQL Language Reference, "AUDIT (Unified Auditing)", "NOAUDIT
-- (Unified Auditing)" and "DROP AUDIT POLICY (Unified Auditing)"; the choice of rules is this project's profile).
use Rattle.std.specs.Prelude.{ℕ, List, ◌∷◌, Option, codes}
use Rattle.sql_lex.specs.declared.token.Kind.{Kind}
use Rattle.sql_lex.specs.declared.token.Kind.TheVariants.{Word}
use Rattle.sql_ast.specs.declared.administration.AuditedUsers.{AuditedUsers}
use Rattle.sql_ast.specs.declared.administration.AuditedUsers.TheVariants as audited
use Rattle.sql_ast.specs.declared.administration.Whenever.{Whenever}
use Rattle.sql_ast.specs.declared.administration.Whenever.TheVariants as whenever
use Rattle.sql_ast.specs.declared.statement.Statement.{Statement}
use Rattle.sql_ast.specs.declared.statement.Statement.TheVariants as statement
use Rattle.sql_parse.specs.Rules.{After, Optional}
use Rattle.sql_parse.specs.Tables.{Name}
use Rattle.sql_parse.specs.Whole.{WholeOf}
use Rattle.sql_parse.specs.Grants.{Names}

-- BY name {, name} | EXCEPT name {, name}
pub data AreUsers : List Kind → AuditedUsers → List Kind → Type 0 where
  by : {i o : List Kind} {ns : List (List ℕ)} → Names i ns o → AreUsers (Word (codes "BY") ∷ i) (audited.By ns) o
  except : {i o : List Kind} {ns : List (List ℕ)} → Names i ns o → AreUsers (Word (codes "EXCEPT") ∷ i) (audited.Except ns) o

-- [NOT] SUCCESSFUL
pub data Outcome : List Kind → Whenever → List Kind → Type 0 where
  successful : {o : List Kind} → Outcome (Word (codes "SUCCESSFUL") ∷ o) whenever.Successful o
  not_successful : {o : List Kind} → Outcome (Word (codes "NOT") ∷ Word (codes "SUCCESSFUL") ∷ o) whenever.NotSuccessful o

-- a statement of these, without the `;` behind it
pub data AuditStatement : List Kind → Statement → List Kind → Type 0 where
  -- Audit = AUDIT POLICY name [BY name {, name} | EXCEPT name {, name}] [WHENEVER [NOT] SUCCESSFUL]
  audits : {i m n o : List Kind} {p : List ℕ} {u : Option AuditedUsers} {w : Option Whenever} → Name i p m → Optional AreUsers m u n → Optional (After (Word (codes "WHENEVER")) Outcome) n w o
      → AuditStatement (Word (codes "AUDIT") ∷ Word (codes "POLICY") ∷ i) (statement.Audit (record { policy = p; users = u; whenever = w })) o
  -- Noaudit = NOAUDIT POLICY name [BY name {, name}]
  stops_auditing : {i m o : List Kind} {p : List ℕ} {ns : Option (List (List ℕ))} → Name i p m → Optional (After (Word (codes "BY")) Names) m ns o
      → AuditStatement (Word (codes "NOAUDIT") ∷ Word (codes "POLICY") ∷ i) (statement.Noaudit p ns) o
  -- DropPolicy = DROP AUDIT POLICY name
  drops : {i o : List Kind} {p : List ℕ} → Name i p o → AuditStatement (Word (codes "DROP") ∷ Word (codes "AUDIT") ∷ Word (codes "POLICY") ∷ i) (statement.DropPolicy p) o

-- the tokens are this statement, with `;` behind it or without
abbrev pub IsAuditStatement : List Kind → Statement → Type 0
IsAuditStatement = WholeOf AuditStatement
