-- How CREATE USER, ALTER USER and DROP USER are decided (SQL Language Reference, "CREATE USER", "ALTER USER" and "DROP
-- USER"; the order of the rules and their codes are this project's profile). The verifier of a password is a digest by FIPS
-- 180-4, section 6.2.
use Rattle.std.specs.Prelude.{◌≡◌, ◌&&◌, ◌++◌, ℕ, not, Bool, if◌then◌else◌, List, [], ◌∷◌, length}
use Rattle.std.specs.List.{list_any}
use Rattle.std.specs.Str.{bytes_eq}
use Rattle.sha2.specs.Sha256.{sha256}
use Rattle.au_base.specs.BuiltIn.{sys}
use Rattle.au_base.specs.Codes.{NO_SUCH_USER, PRIVILEGE_MISSING, TOO_MANY_OBJECTS, USER_CONNECTED, USER_NAME_USED, USER_OWNS_TABLES}
use Rattle.au_base.specs.declared.privilege.Privilege.TheVariants.{AlterUser, CreateUser, DropUser}
use Rattle.au_define.specs.Rules.{Tells, decided}
use Rattle.au_define.specs.Settings.{Setting, has_user, is_connected, is_full, is_taken, owns_table}
use Rattle.au_entries.specs.declared.change.Change.{Change}
use Rattle.au_entries.specs.declared.change.Change.TheVariants.{User, UserGone}
use Rattle.au_entries.specs.declared.decision.Decision.{Decision}
use Rattle.au_grants.specs.Rights.{HoldsPrivilege}
use Rattle.sql_ast.specs.declared.administration.Password.{Password}

-- the digest of the user's name, a byte 0 and the password
abbrev pub verifier : List ℕ → List ℕ → List ℕ
verifier user password = sha256 (user ++ 0 ∷ password)

-- the user is there with this verifier
abbrev pub has_verifier : Setting → List ℕ → List ℕ → Bool
has_verifier setting name verifier = list_any (λ user. bytes_eq user.0 name && bytes_eq user.1 verifier) setting.users

-- the user gets the verifier, unless it has that already
abbrev pub new_verifier : Setting → List ℕ → List ℕ → List Change
new_verifier setting name verifier = if has_verifier setting name verifier then [] else User name verifier ∷ []

-- CREATE USER: the privilege; a name that can be a new one; room for one more user
abbrev pub create_user : Bool → Setting → List ℕ → List ℕ → Decision
create_user held setting name password =
    decided ((not held, PRIVILEGE_MISSING) ∷ [])
    ((is_taken setting name, USER_NAME_USED) ∷ (is_full (length setting.users), TOO_MANY_OBJECTS) ∷ [])
    (CreateUser ∷ [])
    (User name (verifier name password) ∷ [])

abbrev pub DecidesCreateUser : Setting → List ℕ → Password → Decision → Type 0
DecidesCreateUser setting name password decision =
    (held : Bool) × Tells held (HoldsPrivilege setting.grants setting.user CreateUser) × (decision ≡ create_user held setting name password.text)

-- ALTER USER: the user's own name, or else the privilege; a user of that name. With the password that it has nothing changes.
abbrev pub alter_user : Bool → Setting → List ℕ → List ℕ → Decision
alter_user held setting name password =
    decided ((not (bytes_eq name setting.user) && not held, PRIVILEGE_MISSING) ∷ [])
    ((not (has_user setting name), NO_SUCH_USER) ∷ [])
    (if bytes_eq name setting.user then [] else AlterUser ∷ [])
    (new_verifier setting name (verifier name password))

abbrev pub DecidesAlterUser : Setting → List ℕ → Password → Decision → Type 0
DecidesAlterUser setting name password decision =
    (held : Bool) × Tells held (HoldsPrivilege setting.grants setting.user AlterUser) × (decision ≡ alter_user held setting name password.text)

-- DROP USER: the privilege; not SYS; a user of that name, who isn't connected and owns no table
abbrev pub drop_user : Bool → Setting → List ℕ → Decision
drop_user held setting name =
    decided ((not held, PRIVILEGE_MISSING) ∷ [])
    ((bytes_eq name sys, PRIVILEGE_MISSING) ∷ (not (has_user setting name), NO_SUCH_USER)
    ∷ (is_connected setting name, USER_CONNECTED) ∷ (owns_table setting name, USER_OWNS_TABLES) ∷ [])
    (DropUser ∷ [])
    (UserGone name ∷ [])

abbrev pub DecidesDropUser : Setting → List ℕ → Decision → Type 0
DecidesDropUser setting name decision =
    (held : Bool) × Tells held (HoldsPrivilege setting.grants setting.user DropUser) × (decision ≡ drop_user held setting name)
