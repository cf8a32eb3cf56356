-- What a statement CREATE AUDIT POLICY is (SQL Language Reference, "CREATE AUDIT POLICY (Unified Auditing)"; the choice of
-- rules is this project's profile).
use Rattle.std.specs.Prelude.{◌≡◌, ℕ, true, ◌||◌, List, ◌∷◌, ◌++◌, Option, Some, None, is_some, codes}
use Rattle.au_base.specs.declared.action.Action.{Action}
use Rattle.au_base.specs.declared.action.Action.TheVariants as actions
use Rattle.au_base.specs.declared.privilege.Privilege.{Privilege}
use Rattle.au_base.specs.declared.table.TableReference.{TableReference}
use Rattle.au_base.specs.Actions.{name_of}
use Rattle.sql_lex.specs.declared.token.Kind.{Kind}
use Rattle.sql_lex.specs.declared.token.Kind.TheVariants.{Word, Text}
use Rattle.sql_ast.specs.declared.administration.ActionPart.{ActionPart}
use Rattle.sql_ast.specs.declared.administration.Evaluation.{Evaluation}
use Rattle.sql_ast.specs.declared.administration.Evaluation.TheVariants as evaluation
use Rattle.sql_ast.specs.declared.administration.PolicyCondition.{PolicyCondition}
use Rattle.sql_ast.specs.declared.statement.Statement.{Statement}
use Rattle.sql_ast.specs.declared.statement.Statement.TheVariants as statement
use Rattle.sql_parse.specs.Symbols.{comma}
use Rattle.sql_parse.specs.Rules.{After, Optional, Parted}
use Rattle.sql_parse.specs.Tables.{Name, Table}
use Rattle.sql_parse.specs.Grants.{Names}
use Rattle.sql_parse.specs.Privileges.{IsPrivilege, tokens_of, words}
use Rattle.sql_parse.specs.Whole.{WholeOf}

-- the words that an action's name has
abbrev pub words_of_action : Action → List (List ℕ)
words_of_action action = words (name_of action)

-- action = the words of an action, one behind the other
pub data IsAction : List Kind → Action → List Kind → Type 0 where
  action : {a : Action} {o : List Kind} → IsAction (tokens_of (words_of_action a) ++ o) a o

-- ALL | SELECT | INSERT | UPDATE | DELETE
pub data IsTableAction : List Kind → Action → List Kind → Type 0 where
  all : {o : List Kind} → IsTableAction (Word (codes "ALL") ∷ o) actions.All o
  select : {o : List Kind} → IsTableAction (Word (codes "SELECT") ∷ o) actions.Select o
  insert : {o : List Kind} → IsTableAction (Word (codes "INSERT") ∷ o) actions.Insert o
  update : {o : List Kind} → IsTableAction (Word (codes "UPDATE") ∷ o) actions.Update o
  delete : {o : List Kind} → IsTableAction (Word (codes "DELETE") ∷ o) actions.Delete o

-- part = action | (ALL | SELECT | INSERT | UPDATE | DELETE) ON table
pub data IsPart : List Kind → ActionPart → List Kind → Type 0 where
  anywhere : {i o : List Kind} {a : Action} → IsAction i a o → IsPart i (record { action = a; table = None }) o
  on_table : {i j o : List Kind} {a : Action} {t : TableReference} → IsTableAction i a (Word (codes "ON") ∷ j) → Table j t o → IsPart i (record { action = a; table = Some t }) o

-- STATEMENT | SESSION | INSTANCE
pub data IsEvaluation : List Kind → Evaluation → List Kind → Type 0 where
  per_statement : {o : List Kind} → IsEvaluation (Word (codes "STATEMENT") ∷ o) evaluation.Statement o
  per_session : {o : List Kind} → IsEvaluation (Word (codes "SESSION") ∷ o) evaluation.Session o
  per_instance : {o : List Kind} → IsEvaluation (Word (codes "INSTANCE") ∷ o) evaluation.Instance o

-- literal EVALUATE PER (STATEMENT | SESSION | INSTANCE)
pub data IsPolicyCondition : List Kind → PolicyCondition → List Kind → Type 0 where
  evaluated : {i o : List Kind} {t : List ℕ} {v : Evaluation} → IsEvaluation i v o
      → IsPolicyCondition (Text t ∷ Word (codes "EVALUATE") ∷ Word (codes "PER") ∷ i) (record { text = t; evaluation = v }) o

-- CreatePolicy = CREATE AUDIT POLICY name [PRIVILEGES privilege {, privilege}] [ACTIONS part {, part}]
--                [ROLES name {, name}] [WHEN literal EVALUATE PER (STATEMENT | SESSION | INSTANCE)]
-- with at least one of the first three
pub data PolicyStatement : List Kind → Statement → List Kind → Type 0 where
  creates : {i j m n q o : List Kind} {p : List ℕ} {ps : Option (List Privilege)} {parts : Option (List ActionPart)} {rs : Option (List (List ℕ))} {c : Option PolicyCondition}
      → Name i p j → Optional (After (Word (codes "PRIVILEGES")) (Parted comma IsPrivilege)) j ps m → Optional (After (Word (codes "ACTIONS")) (Parted comma IsPart)) m parts n
      → Optional (After (Word (codes "ROLES")) Names) n rs q → Optional (After (Word (codes "WHEN")) IsPolicyCondition) q c o → (is_some ps || is_some parts || is_some rs) ≡ true
      → PolicyStatement (Word (codes "CREATE") ∷ Word (codes "AUDIT") ∷ Word (codes "POLICY") ∷ i)
      (statement.CreatePolicy (record { policy = p; privileges = ps; actions = parts; roles = rs; condition = c })) o

-- the tokens are this statement, with `;` behind it or without
abbrev pub IsPolicyStatement : List Kind → Statement → Type 0
IsPolicyStatement = WholeOf PolicyStatement
