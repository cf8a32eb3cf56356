-- Each privilege is the first with its number, and the first with its name.
use Rattle.std.proofs.Common.{◌≡◌, ◌==◌, Some, refl}
use Rattle.std.specs.List.{find}
use Rattle.std.specs.Str.{bytes_eq}
use Rattle.au_base.specs.declared.privilege.Privilege.{Privilege}
use Rattle.au_base.specs.declared.privilege.Privilege.TheVariants.{AlterUser, AuditSystem, CreateAnyTable, CreateRole, CreateSession, CreateTable, CreateUser, DeleteAnyTable, DropAnyRole, DropAnyTable, DropUser, GrantAnyObjectPrivilege, GrantAnyPrivilege, GrantAnyRole, InsertAnyTable, SelectAnyTable, UpdateAnyTable}
use Rattle.au_base.specs.declared.privilege.TheConstants.Privilege.{EACH}
use Rattle.au_base.specs.Privileges.{code_of, name_of}

pub first_with_code : (privilege : Privilege) → find (λ other. code_of other == code_of privilege) EACH ≡ Some privilege
first_with_code AlterUser = refl
first_with_code AuditSystem = refl
first_with_code CreateAnyTable = refl
first_with_code CreateRole = refl
first_with_code CreateSession = refl
first_with_code CreateTable = refl
first_with_code CreateUser = refl
first_with_code DeleteAnyTable = refl
first_with_code DropAnyRole = refl
first_with_code DropAnyTable = refl
first_with_code DropUser = refl
first_with_code GrantAnyObjectPrivilege = refl
first_with_code GrantAnyPrivilege = refl
first_with_code GrantAnyRole = refl
first_with_code InsertAnyTable = refl
first_with_code SelectAnyTable = refl
first_with_code UpdateAnyTable = refl

pub first_with_name : (privilege : Privilege) → find (λ other. bytes_eq (name_of other) (name_of privilege)) EACH ≡ Some privilege
first_with_name AlterUser = refl
first_with_name AuditSystem = refl
first_with_name CreateAnyTable = refl
first_with_name CreateRole = refl
first_with_name CreateSession = refl
first_with_name CreateTable = refl
first_with_name CreateUser = refl
first_with_name DeleteAnyTable = refl
first_with_name DropAnyRole = refl
first_with_name DropAnyTable = refl
first_with_name DropUser = refl
first_with_name GrantAnyObjectPrivilege = refl
first_with_name GrantAnyPrivilege = refl
first_with_name GrantAnyRole = refl
first_with_name InsertAnyTable = refl
first_with_name SelectAnyTable = refl
first_with_name UpdateAnyTable = refl
