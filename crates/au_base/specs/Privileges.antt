-- The numbers and names of system privileges (SQL Language Reference, "GRANT", "System Privileges").
use Rattle.std.specs.Prelude.{ℕ, List, [], ◌∷◌, codes}
use Rattle.au_base.specs.declared.privilege.Privilege.{Privilege}
use Rattle.au_base.specs.declared.privilege.Privilege.TheVariants.{AlterUser, AuditSystem, CreateAnyTable, CreateRole, CreateSession, CreateTable, CreateUser, DeleteAnyTable, DropAnyRole, DropAnyTable, DropUser, GrantAnyObjectPrivilege, GrantAnyPrivilege, GrantAnyRole, InsertAnyTable, SelectAnyTable, UpdateAnyTable}

-- the number by which the journal names the privilege
abbrev pub code_of : Privilege → ℕ
code_of AlterUser = 1
code_of AuditSystem = 2
code_of CreateAnyTable = 3
code_of CreateRole = 4
code_of CreateSession = 5
code_of CreateTable = 6
code_of CreateUser = 7
code_of DeleteAnyTable = 8
code_of DropAnyRole = 9
code_of DropAnyTable = 10
code_of DropUser = 11
code_of GrantAnyObjectPrivilege = 12
code_of GrantAnyPrivilege = 13
code_of GrantAnyRole = 14
code_of InsertAnyTable = 15
code_of SelectAnyTable = 16
code_of UpdateAnyTable = 17

-- all system privileges, in the order of their numbers
abbrev pub each_privilege : List Privilege
each_privilege =
    AlterUser ∷ AuditSystem ∷ CreateAnyTable ∷ CreateRole ∷ CreateSession ∷ CreateTable ∷
    CreateUser ∷ DeleteAnyTable ∷ DropAnyRole ∷ DropAnyTable ∷ DropUser ∷ GrantAnyObjectPrivilege ∷
    GrantAnyPrivilege ∷ GrantAnyRole ∷ InsertAnyTable ∷ SelectAnyTable ∷ UpdateAnyTable ∷ []

-- the name that the trail prints
abbrev pub name_of : Privilege → List ℕ
name_of AlterUser = codes "ALTER USER"
name_of AuditSystem = codes "AUDIT SYSTEM"
name_of CreateAnyTable = codes "CREATE ANY TABLE"
name_of CreateRole = codes "CREATE ROLE"
name_of CreateSession = codes "CREATE SESSION"
name_of CreateTable = codes "CREATE TABLE"
name_of CreateUser = codes "CREATE USER"
name_of DeleteAnyTable = codes "DELETE ANY TABLE"
name_of DropAnyRole = codes "DROP ANY ROLE"
name_of DropAnyTable = codes "DROP ANY TABLE"
name_of DropUser = codes "DROP USER"
name_of GrantAnyObjectPrivilege = codes "GRANT ANY OBJECT PRIVILEGE"
name_of GrantAnyPrivilege = codes "GRANT ANY PRIVILEGE"
name_of GrantAnyRole = codes "GRANT ANY ROLE"
name_of InsertAnyTable = codes "INSERT ANY TABLE"
name_of SelectAnyTable = codes "SELECT ANY TABLE"
name_of UpdateAnyTable = codes "UPDATE ANY TABLE"
