-- Each action is the first with its number, and the first with its name.
use Rattle.std.proofs.Common.{◌≡◌, ◌==◌, Some, refl}
use Rattle.std.specs.List.{find}
use Rattle.std.specs.Str.{bytes_eq}
use Rattle.au_base.specs.declared.action.Action.{Action}
use Rattle.au_base.specs.declared.action.Action.TheVariants.{All, Select, Insert, Update, Delete, Commit, Rollback, CreateTable, DropTable, CreateUser, AlterUser, DropUser, CreateRole, DropRole, Grant, Revoke, CreateAuditPolicy, DropAuditPolicy, Audit, Noaudit, Execute, Logon, Logoff}
use Rattle.au_base.specs.declared.action.TheConstants.Action.{EACH}
use Rattle.au_base.specs.Actions.{code_of, name_of}

pub first_with_code : (action : Action) → find (λ other. code_of other == code_of action) EACH ≡ Some action
first_with_code All = refl
first_with_code Select = refl
first_with_code Insert = refl
first_with_code Update = refl
first_with_code Delete = refl
first_with_code Commit = refl
first_with_code Rollback = refl
first_with_code CreateTable = refl
first_with_code DropTable = refl
first_with_code CreateUser = refl
first_with_code AlterUser = refl
first_with_code DropUser = refl
first_with_code CreateRole = refl
first_with_code DropRole = refl
first_with_code Grant = refl
first_with_code Revoke = refl
first_with_code CreateAuditPolicy = refl
first_with_code DropAuditPolicy = refl
first_with_code Audit = refl
first_with_code Noaudit = refl
first_with_code Execute = refl
first_with_code Logon = refl
first_with_code Logoff = refl

pub first_with_name : (action : Action) → find (λ other. bytes_eq (name_of other) (name_of action)) EACH ≡ Some action
first_with_name All = refl
first_with_name Select = refl
first_with_name Insert = refl
first_with_name Update = refl
first_with_name Delete = refl
first_with_name Commit = refl
first_with_name Rollback = refl
first_with_name CreateTable = refl
first_with_name DropTable = refl
first_with_name CreateUser = refl
first_with_name AlterUser = refl
first_with_name DropUser = refl
first_with_name CreateRole = refl
first_with_name DropRole = refl
first_with_name Grant = refl
first_with_name Revoke = refl
first_with_name CreateAuditPolicy = refl
first_with_name DropAuditPolicy = refl
first_with_name Audit = refl
first_with_name Noaudit = refl
first_with_name Execute = refl
first_with_name Logon = refl
first_with_name Logoff = refl
