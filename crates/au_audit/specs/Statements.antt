-- What auditing asks of a statement: its action, the tables that it names, the object that its record names, and its text
-- without passwords (Database Security Guide, "Auditing Activities with Unified Audit Policies"; Database Reference,
-- "UNIFIED_AUDIT_TRAIL"; which table is the object of a query is this project's profile).
use Rattle.std.specs.Prelude.{ℕ, ◌<◌, ◌≤◌, nat_le, ◌&&◌, if◌then◌else◌, ⊤, IsUtf8, List, [], ◌∷◌, ◌++◌, length, map, take, drop, codes, Option, Some, None}
use Rattle.au_base.specs.declared.action.Action.{Action}
use Rattle.au_base.specs.declared.action.Action.TheVariants as action
use Rattle.au_base.specs.declared.code.Code.{Code}
use Rattle.au_base.specs.declared.grant.GrantStatement.{GrantStatement}
use Rattle.au_base.specs.declared.grant.GrantStatement.TheVariants as grants
use Rattle.au_base.specs.declared.privilege.Privilege.{Privilege}
use Rattle.au_base.specs.declared.table.TableName.{TableName}
use Rattle.au_base.specs.declared.table.TableReference.{TableReference}
use Rattle.au_base.specs.BuiltIn.{resolved_table}
use Rattle.au_base.specs.Naming.{identifier_of}
use Rattle.au_entries.specs.declared.facts.Facts.{Facts}
use Rattle.sql_ast.specs.declared.administration.Password.{Password}
use Rattle.sql_ast.specs.Procedures.{package_of}
use Rattle.sql_ast.specs.declared.query.FromClause.{FromClause}
use Rattle.sql_ast.specs.declared.statement.Statement.{Statement}
use Rattle.sql_ast.specs.declared.statement.Statement.TheVariants.{Select, Count, Insert, Update, Delete, Commit, Rollback, CreateTable, DropTable, CreateUser, AlterUser, DropUser, CreateRole, DropRole, Grant, CreatePolicy, DropPolicy, Audit, Noaudit, Call}

-- ---- the action

-- GRANT and REVOKE, of rights and of object privileges
abbrev pub grant_action : GrantStatement → Action
grant_action (grants.Grant rights grantees admin) = action.Grant
grant_action (grants.Revoke rights grantees) = action.Revoke
grant_action (grants.GrantObject rights table grantees) = action.Grant
grant_action (grants.RevokeObject rights table grantees) = action.Revoke

-- the action as which a statement is audited
abbrev pub action_of : Statement → Action
action_of (Select select) = action.Select
action_of (Count count) = action.Select
action_of (Insert insert) = action.Insert
action_of (Update update) = action.Update
action_of (Delete delete) = action.Delete
action_of Commit = action.Commit
action_of Rollback = action.Rollback
action_of (CreateTable create) = action.CreateTable
action_of (DropTable table) = action.DropTable
action_of (CreateUser user password) = action.CreateUser
action_of (AlterUser user password) = action.AlterUser
action_of (DropUser user) = action.DropUser
action_of (CreateRole role) = action.CreateRole
action_of (DropRole role) = action.DropRole
action_of (Grant grant) = grant_action grant
action_of (CreatePolicy create) = action.CreateAuditPolicy
action_of (DropPolicy policy) = action.DropAuditPolicy
action_of (Audit audit) = action.Audit
action_of (Noaudit policy users) = action.Noaudit
action_of (Call call) = action.Execute

-- ---- the tables

-- the tables of FROM as they are written, the first first
abbrev pub from_tables : FromClause → List TableReference
from_tables from = from.first.table ∷ map (λ join. join.table.table) from.joins

-- the table of GRANT .. ON and REVOKE .. ON
abbrev pub grant_tables : GrantStatement → List TableReference
grant_tables (grants.Grant rights grantees admin) = []
grant_tables (grants.Revoke rights grantees) = []
grant_tables (grants.GrantObject rights table grantees) = table ∷ []
grant_tables (grants.RevokeObject rights table grantees) = table ∷ []

-- The tables that a statement names, as they are written: those in FROM, the target of INSERT, UPDATE and DELETE, and the
-- table of CREATE TABLE, DROP TABLE, GRANT .. ON and REVOKE .. ON. The tables of an audit policy's parts and of a package
-- call aren't among them.
abbrev pub written_tables : Statement → List TableReference
written_tables (Select select) = from_tables select.from
written_tables (Count count) = count.table.table ∷ []
written_tables (Insert insert) = insert.table ∷ []
written_tables (Update update) = update.table ∷ []
written_tables (Delete delete) = delete.table ∷ []
written_tables (CreateTable create) = create.table ∷ []
written_tables (DropTable table) = table ∷ []
written_tables (Grant grant) = grant_tables grant
written_tables _ = []

-- the tables that the user's statement names, whether they are there or not
abbrev pub tables_of : List ℕ → Statement → List TableName
tables_of user statement = map (resolved_table user) (written_tables statement)

-- ---- the object

-- an object of a record: its owner, where it has one, and its name
abbrev pub Object : Type 0
Object = Option (List ℕ) × List ℕ

-- a table as an object
abbrev pub table_object : TableName → Object
table_object table = (Some table.owner, table.name)

-- the first of the tables that the user's statement names, where there is one
abbrev pub first_object : List ℕ → List TableReference → Option Object
first_object user [] = None
first_object user (table ∷ tables) = Some (table_object (resolved_table user table))

-- The object that the record of a statement names: a user, a role or a policy, without an owner; SYS and the package of a
-- call; else the table that it names, of a query the first; none for GRANT and REVOKE of rights, COMMIT and ROLLBACK.
abbrev pub object_of : List ℕ → Statement → Option Object
object_of user (CreateUser name password) = Some (None, name)
object_of user (AlterUser name password) = Some (None, name)
object_of user (DropUser name) = Some (None, name)
object_of user (CreateRole role) = Some (None, role)
object_of user (DropRole role) = Some (None, role)
object_of user (CreatePolicy create) = Some (None, create.policy)
object_of user (DropPolicy policy) = Some (None, policy)
object_of user (Audit audit) = Some (None, audit.policy)
object_of user (Noaudit policy users) = Some (None, policy)
object_of user (Call call) = Some (Some (codes "SYS"), package_of call.procedure)
object_of user statement = first_object user (written_tables statement)

-- ---- the text

-- the password's token stands in the text, and what stands before it and behind it is text
pub record IsPasswordIn (text : List ℕ) (password : Password) : Type 0 where
  pub some : password.from < password.to
  pub within : password.to ≤ length text
  pub before : IsUtf8 (take password.from text)
  pub behind : IsUtf8 (drop password.to text)

-- the password that the statement has stands in the text
abbrev pub IsPlaced : List ℕ → Statement → Type 0
IsPlaced text (CreateUser user password) = IsPasswordIn text password
IsPlaced text (AlterUser user password) = IsPasswordIn text password
IsPlaced text _ = ⊤

-- the text with a `*` (42) in the place of the password's token
abbrev pub without_password : List ℕ → Password → List ℕ
without_password text password = take password.from text ++ 42 ∷ drop password.to text

-- the text of a statement as its record has it: as it was given, without a password
abbrev pub recorded_text : List ℕ → Statement → List ℕ
recorded_text text (CreateUser user password) = without_password text password
recorded_text text (AlterUser user password) = without_password text password
recorded_text text _ = text

-- ---- what policies are asked

-- what is known of the user's statement when policies are asked
abbrev pub statement_facts : List ℕ → Statement → List Privilege → Code → Facts
statement_facts user statement used code =
    record { user = user; action = action_of statement; tables = tables_of user statement; used = used; code = code }

-- the user that a logon names, by whom a refused one is recorded too: the text as an identifier, and `?` (63) where that is
-- no name
abbrev pub logon_user : List ℕ → List ℕ
logon_user text =
    let name = identifier_of text in
    if nat_le 1 (length name) && nat_le (length name) 128 then name else 63 ∷ []

-- the same of a logon of this user, which names no table
abbrev pub logon_facts : List ℕ → List Privilege → Code → Facts
logon_facts user used code = record { user = user; action = action.Logon; tables = []; used = used; code = code }

-- and of a logoff
abbrev pub logoff_facts : List ℕ → Code → Facts
logoff_facts user code = record { user = user; action = action.Logoff; tables = []; used = []; code = code }
