-- How logons are decided (Database Security Guide, "Configuring Authentication"; SQL Language Reference, "GRANT", on CREATE
-- SESSION; the order of the rules, their codes and the length of a password are this project's profile).
use Rattle.std.specs.Prelude.{◌≡◌, ℕ, nat_le, ◌&&◌, not, Bool, if◌then◌else◌, List, [], ◌∷◌, length}
use Rattle.std.specs.List.{list_any}
use Rattle.std.specs.Str.{bytes_eq}
use Rattle.au_audit.specs.Statements.{logon_user}
use Rattle.au_base.specs.BuiltIn.{sys}
use Rattle.au_base.specs.Codes.{BAD_LOGON, NO_CREATE_SESSION, TOO_MANY_SESSIONS}
use Rattle.au_base.specs.FirstCode.{first_code}
use Rattle.au_base.specs.Limits.{NAME_BYTES, PASSWORD_BYTES}
use Rattle.au_base.specs.Naming.{identifier_of}
use Rattle.au_base.specs.declared.code.Code.{Code}
use Rattle.au_base.specs.declared.privilege.Privilege.TheVariants.{CreateSession}
use Rattle.au_define.specs.Rules.{Tells}
use Rattle.au_define.specs.Users.{verifier}
use Rattle.au_grants.specs.Rights.{Grants, HoldsPrivilege}
use Rattle.au_logon.specs.declared.admission.Admission.{Admission}

-- a user's name, and the verifier of the user's password
abbrev pub User : Type 0
User = List ℕ × List ℕ

-- the text names nobody: read as an identifier it is empty or too long
abbrev pub names_nobody : List ℕ → Bool
names_nobody text = not (nat_le 1 (length (identifier_of text)) && nat_le (length (identifier_of text)) NAME_BYTES)

-- a password isn't empty, and isn't too long
abbrev pub is_password : List ℕ → Bool
is_password password = nat_le 1 (length password) && nat_le (length password) PASSWORD_BYTES

-- the user has this name and this verifier
abbrev pub is_with : List ℕ → List ℕ → User → Bool
is_with name verifier user = bytes_eq user.0 name && bytes_eq user.1 verifier

-- some user has this name and this verifier
abbrev pub has_verifier : List User → List ℕ → List ℕ → Bool
has_verifier users name verifier = list_any (is_with name verifier) users

-- the text may be a password, and is that of the user of this name
abbrev pub has_password : List User → List ℕ → List ℕ → Bool
has_password users name password = is_password password && has_verifier users name (verifier name password)

-- the rules of a logon, in their order: a user who is known by name and password; CREATE SESSION is held; one more session
-- can be open
abbrev pub logon_rules : Bool → Bool → Bool → List (Bool × Code)
logon_rules known held crowded = (not known, BAD_LOGON) ∷ (not held, NO_CREATE_SESSION) ∷ (crowded, TOO_MANY_SESSIONS) ∷ []

-- What is decided by these: the first rule that is broken gives the code. CREATE SESSION counts as used where a user who is
-- known holds it.
abbrev pub admission_of : Bool → Bool → Bool → List ℕ → Admission
admission_of known held crowded name = record {
  code = first_code (logon_rules known held crowded);
  used = if known && held then CreateSession ∷ [] else [];
  user = name;
}

-- what is decided of a logon as the user of this name, who is nobody where no name was read
abbrev pub AdmitsUser : List User → Grants → Bool → Bool → List ℕ → List ℕ → Admission → Type 0
AdmitsUser users grants crowded nobody name password admission =
    (held : Bool) × Tells held (HoldsPrivilege grants name CreateSession)
    × (admission ≡ admission_of (not nobody && has_password users name password) held crowded name)

-- What is decided of a logon with these texts of a user and of a password, where there are these users and grants; `crowded`
-- says that no more sessions can be open. A client that has a session already isn't asked here.
abbrev pub Admits : List User → Grants → Bool → List ℕ → List ℕ → Admission → Type 0
Admits users grants crowded user password admission = AdmitsUser users grants crowded (names_nobody user) (logon_user user) password admission

-- what is decided of LOCAL, which logs on as SYS with no password and uses no privilege
abbrev pub IsLocal : Bool → Admission → Type 0
IsLocal crowded admission = admission ≡ record { code = first_code ((crowded, TOO_MANY_SESSIONS) ∷ []); used = []; user = sys }
