-- What is so of each admission.
use Rattle.std.proofs.Common.{◌≡◌, ◌<◌, ◌^◌, ◌∙◌, ℕ, Bool, true, false, not, ◌&&◌, ◌||◌, if◌then◌else◌, List, [], ◌∷◌, refl, sym, ap, subst, arith}
use Rattle.std.specs.Prelude.{IsTrue}
use Rattle.std.specs.List.{list_any}
use Rattle.std.specs.Str.{IsUtf8, bytes_eq}
use Rattle.std.proofs.lemmas.Bool.{and_parts}
use Rattle.std.proofs.lemmas.Str.{IsUtf8-from_ascii}
use Rattle.std.proofs.lemmas.Str.Ascii.{IsAscii-cons, IsAscii-nil}
use Rattle.au_audit.specs.Statements.{logon_user}
use Rattle.au_base.specs.BuiltIn.{sys}
use Rattle.au_base.specs.Codes.{BAD_LOGON, DONE, NO_CREATE_SESSION, TOO_MANY_SESSIONS}
use Rattle.au_base.specs.FirstCode.{first_code}
use Rattle.au_base.specs.Naming.{IsName}
use Rattle.au_base.specs.declared.code.Code.{Code}
use Rattle.au_base.specs.declared.privilege.Privilege.TheVariants.{CreateSession}
use Rattle.au_define.specs.Rules.{Tells}
use Rattle.au_define.specs.Users.{verifier}
use Rattle.au_grants.specs.Rights.{Grants, HoldsPrivilege}
use Rattle.au_logon.proofs.Read.{user_named}
use Rattle.au_logon.specs.Admitting.{Admits, IsLocal, User, admission_of, has_password, has_verifier, is_password, logon_rules, names_nobody}
use Rattle.au_logon.specs.declared.admission.Admission.{Admission}
use Rattle.rec_parts.specs.Parts.{privileges_in_order}
use Rattle.rec_parts.specs.Parts as parts

-- two tests of one fact are the same
same_test : (P : Type 0) (a b : Bool) → Tells a P → Tells b P → a ≡ b
same_test P true true tells told = refl
same_test P false false tells told = refl
same_test P true false tells told = absurd (let e : false ≡ true = told.1 (tells.0 refl) in cc)
same_test P false true tells told = absurd (let e : false ≡ true = tells.1 (told.0 refl) in cc)

pub one : (users : List User) (grants : Grants) (crowded : Bool) (user password : List ℕ) (a b : Admission) → Admits users grants crowded user password a → Admits users grants crowded user password b → a ≡ b
one users grants crowded user password a b (held, tells, is) (had, told, are) =
    is ∙ ap (λ (h : Bool). admission_of (not (names_nobody user) && has_password users (logon_user user) password) h crowded (logon_user user))
    (same_test (HoldsPrivilege grants (logon_user user) CreateSession) held had tells told) ∙ sym are

pub named : (users : List User) (grants : Grants) (crowded : Bool) (user password : List ℕ) (admission : Admission) → IsUtf8 user → Admits users grants crowded user password admission → IsName admission.user
named users grants crowded user password admission utf8 (held, tells, is) = subst (λ (a : Admission). IsName a.user) (sym is) (user_named user utf8)

-- ---- codes

-- a code that isn't 0 isn't that of a statement that was done
other_code : (code : Code) → 0 < code.0 → code ≡ DONE → ⊥
other_code code some is = (let zero : code.0 ≡ 0 = ap (λ (c : Code). c.0) is in omega arith)

-- where the code is DONE, no rule is broken
passed : (known held crowded : Bool) → first_code (logon_rules known held crowded) ≡ DONE → (known ≡ true) × (crowded ≡ false)
passed false held crowded is = absurd (other_code BAD_LOGON (omega arith) is)
passed true false crowded is = absurd (other_code NO_CREATE_SESSION (omega arith) is)
passed true true true is = absurd (other_code TOO_MANY_SESSIONS (omega arith) is)
passed true true false is = (refl, refl)

small : (known held crowded : Bool) → (first_code (logon_rules known held crowded)).0 < 2 ^ 32
small false held crowded = omega arith
small true false crowded = omega arith
small true true true = omega arith
small true true false = omega arith

used : (uses : Bool) → privileges_in_order.IsSpellable (if uses then CreateSession ∷ [] else [])
unfolding privileges_in_order parts.privilege
used true = ((omega arith, (tt, tt)), refl)
used false = ((omega arith, tt), refl)

-- ---- logons

code_of : (known held crowded : Bool) (name : List ℕ) (admission : Admission) → admission ≡ admission_of known held crowded name → admission.code ≡ DONE → first_code (logon_rules known held crowded) ≡ DONE
code_of known held crowded name admission is done = sym (ap (λ (a : Admission). a.code) is) ∙ done

has_name : (users : List User) (name verifier : List ℕ) → has_verifier users name verifier ≡ true → list_any (λ (user : User). bytes_eq user.0 name) users ≡ true
has_name [] name verifier has = has
has_name (user ∷ users) name verifier has = at (bytes_eq user.0 name) (bytes_eq user.1 verifier) (has_verifier users name verifier) has (has_name users name verifier)
  where
    at : {rest : Bool} (b c more : Bool) → ((b && c) || more) ≡ true → (more ≡ true → rest ≡ true) → (b || rest) ≡ true
    at true c more has later = refl
    at false c more has later = later has

pub there : (users : List User) (grants : Grants) (crowded : Bool) (user password : List ℕ) (admission : Admission) → Admits users grants crowded user password admission → admission.code ≡ DONE
    → IsTrue (list_any (λ (user : User). bytes_eq user.0 admission.user) users)
there users grants crowded user password admission (held, tells, is) done =
    let name = logon_user user in
    let known = not (names_nobody user) && has_password users name password in
    let knows = (passed known held crowded (code_of known held crowded name admission is done)).0 in
    let has = (and_parts (not (names_nobody user)) (has_password users name password) knows).1 in
    let verified = (and_parts (is_password password) (has_verifier users name (verifier name password)) has).1 in
    subst (λ (a : Admission). list_any (λ (user : User). bytes_eq user.0 a.user) users ≡ true) (sym is) (has_name users name (verifier name password) verified)

pub told : (users : List User) (grants : Grants) (crowded : Bool) (user password : List ℕ) (admission : Admission) → Admits users grants crowded user password admission
    → (admission.code.0 < 2 ^ 32) × privileges_in_order.IsSpellable admission.used
told users grants crowded user password admission (held, tells, is) =
    let known = not (names_nobody user) && has_password users (logon_user user) password in
    subst (λ (a : Admission). (a.code.0 < 2 ^ 32) × privileges_in_order.IsSpellable a.used) (sym is) (small known held crowded, used (known && held))

pub open_to : (users : List User) (grants : Grants) (crowded : Bool) (user password : List ℕ) (admission : Admission) → Admits users grants crowded user password admission → admission.code ≡ DONE → crowded ≡ false
open_to users grants crowded user password admission (held, tells, is) done =
    let name = logon_user user in
    let known = not (names_nobody user) && has_password users name password in
    (passed known held crowded (code_of known held crowded name admission is done)).1

-- ---- LOCAL

sys_named : IsName sys
sys_named =
    (record { some = omega arith; capped = omega arith }, IsUtf8-from_ascii sys (IsAscii-cons 83 (89 ∷ 83 ∷ []) (omega arith) (IsAscii-cons 89 (83 ∷ []) (omega arith) (IsAscii-cons 83 [] (omega arith) IsAscii-nil))))

pub local_named : (crowded : Bool) (admission : Admission) → IsLocal crowded admission → IsName admission.user
local_named crowded admission is = subst (λ (a : Admission). IsName a.user) (sym is) sys_named

local_small : (crowded : Bool) → (first_code ((crowded, TOO_MANY_SESSIONS) ∷ [])).0 < 2 ^ 32
local_small true = omega arith
local_small false = omega arith

pub local_told : (crowded : Bool) (admission : Admission) → IsLocal crowded admission → (admission.code.0 < 2 ^ 32) × privileges_in_order.IsSpellable admission.used
local_told crowded admission is = subst (λ (a : Admission). (a.code.0 < 2 ^ 32) × privileges_in_order.IsSpellable a.used) (sym is) (local_small crowded, used false)

local_passed : (crowded : Bool) → first_code ((crowded, TOO_MANY_SESSIONS) ∷ []) ≡ DONE → crowded ≡ false
local_passed true is = absurd (other_code TOO_MANY_SESSIONS (omega arith) is)
local_passed false is = refl

pub local_open : (crowded : Bool) (admission : Admission) → IsLocal crowded admission → admission.code ≡ DONE → crowded ≡ false
local_open crowded admission is done = local_passed crowded (sym (ap (λ (a : Admission). a.code) is) ∙ done)
