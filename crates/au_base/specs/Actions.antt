-- The numbers and names of actions (Database Security Guide, "Auditing Commonly Used SQL Statements").
use Rattle.std.specs.Prelude.{ℕ, List, [], ◌∷◌, codes}
use Rattle.au_base.specs.declared.action.Action.{Action}
use Rattle.au_base.specs.declared.action.Action.TheVariants.{All, Select, Insert, Update, Delete, Commit, Rollback, CreateTable, DropTable, CreateUser, AlterUser, DropUser, CreateRole, DropRole, Grant, Revoke, CreateAuditPolicy, DropAuditPolicy, Audit, Noaudit, Execute, Logon, Logoff}

-- the number by which the journal names the action
abbrev pub code_of : Action → ℕ
code_of All = 0
code_of Select = 1
code_of Insert = 2
code_of Update = 3
code_of Delete = 4
code_of Commit = 5
code_of Rollback = 6
code_of CreateTable = 7
code_of DropTable = 8
code_of CreateUser = 9
code_of AlterUser = 10
code_of DropUser = 11
code_of CreateRole = 12
code_of DropRole = 13
code_of Grant = 14
code_of Revoke = 15
code_of CreateAuditPolicy = 16
code_of DropAuditPolicy = 17
code_of Audit = 18
code_of Noaudit = 19
code_of Execute = 20
code_of Logon = 21
code_of Logoff = 22

-- all actions, in the order of their numbers
abbrev pub each_action : List Action
each_action =
    All ∷ Select ∷ Insert ∷ Update ∷ Delete ∷ Commit ∷
    Rollback ∷ CreateTable ∷ DropTable ∷ CreateUser ∷ AlterUser ∷ DropUser ∷
    CreateRole ∷ DropRole ∷ Grant ∷ Revoke ∷ CreateAuditPolicy ∷ DropAuditPolicy ∷
    Audit ∷ Noaudit ∷ Execute ∷ Logon ∷ Logoff ∷ []

-- the name that the trail prints
abbrev pub name_of : Action → List ℕ
name_of All = codes "ALL"
name_of Select = codes "SELECT"
name_of Insert = codes "INSERT"
name_of Update = codes "UPDATE"
name_of Delete = codes "DELETE"
name_of Commit = codes "COMMIT"
name_of Rollback = codes "ROLLBACK"
name_of CreateTable = codes "CREATE TABLE"
name_of DropTable = codes "DROP TABLE"
name_of CreateUser = codes "CREATE USER"
name_of AlterUser = codes "ALTER USER"
name_of DropUser = codes "DROP USER"
name_of CreateRole = codes "CREATE ROLE"
name_of DropRole = codes "DROP ROLE"
name_of Grant = codes "GRANT"
name_of Revoke = codes "REVOKE"
name_of CreateAuditPolicy = codes "CREATE AUDIT POLICY"
name_of DropAuditPolicy = codes "DROP AUDIT POLICY"
name_of Audit = codes "AUDIT"
name_of Noaudit = codes "NOAUDIT"
name_of Execute = codes "EXECUTE"
name_of Logon = codes "LOGON"
name_of Logoff = codes "LOGOFF"
