-- How GRANT and REVOKE are decided (SQL Language Reference, "GRANT" and "REVOKE"; the order of the refusals and
-- their codes are this project's profile).
use Rattle.std.specs.Prelude.{◌≡◌, ◌≢◌, ◌<◌, ◌↔◌, ℕ, List, [], ◌∷◌, ◌++◌, Bool, false, IsTrue, Some, ◌⊎◌, if◌then◌else◌}
use Rattle.std.specs.List.{Contains, slice_get}
use Rattle.au_base.specs.declared.code.Code.{Code}
use Rattle.au_base.specs.Codes.{DONE, NO_SUCH_ROLE, NO_SUCH_GRANTEE, NO_SUCH_TABLE, PRIVILEGE_MISSING}
use Rattle.au_base.specs.declared.grant.GrantStatement.{GrantStatement}
use Rattle.au_base.specs.declared.grant.GrantStatement.TheVariants as S
use Rattle.au_base.specs.declared.grant.ObjectRight.{ObjectRight}
use Rattle.au_base.specs.declared.grant.Right.{Right}
use Rattle.au_base.specs.declared.grant.Right.TheVariants.{Privilege as SystemRight, Role}
use Rattle.au_base.specs.declared.privilege.Privilege.{Privilege}
use Rattle.au_base.specs.declared.privilege.Privilege.TheVariants.{GrantAnyObjectPrivilege, GrantAnyPrivilege, GrantAnyRole}
use Rattle.au_base.specs.declared.table.TableName.{TableName}
use Rattle.au_base.specs.BuiltIn.{dual, trail, resolved_table}
use Rattle.au_grants.specs.declared.change.GrantChange.{GrantChange}
use Rattle.au_priv.specs.declared.decided.Decided.{Decided}
use Rattle.au_priv.specs.declared.decided.Known.{Known}
use Rattle.au_grants.specs.declared.grants.Grants.{Grants}
use Rattle.au_priv.specs.declared.pair.Way.{Way}
use Rattle.au_priv.specs.declared.pair.Way.TheVariants.{Grant, Revoke}
use Rattle.au_priv.specs.Allowing.{IsRefusal}
use Rattle.au_priv.specs.Pairs.{Pair, right_pair, object_pair, pairs}
use Rattle.au_grants.specs.Rights.{Name, HoldsPrivilege, AdministersPrivilege, AdministersRole}
use Rattle.au_priv.specs.Walking.{AllPass, SomeRefused, made_all}

-- none of the list is refused
abbrev pub NoneRefused : {X : Type 0} → (X → Code → Type 0) → List X → Type 0
NoneRefused {X} Refuses xs = (k : ℕ) (x : X) (code : Code) → slice_get xs k ≡ Some x → ¬ Refuses x code

-- the first of the list that is refused is refused with the code
abbrev pub FirstRefused : {X : Type 0} → (X → Code → Type 0) → List X → Code → Type 0
FirstRefused {X} Refuses xs code =
    (k : ℕ) × (x : X) × (slice_get xs k ≡ Some x) × Refuses x code × ((j : ℕ) (y : X) (other : Code) → j < k → slice_get xs j ≡ Some y → ¬ Refuses y other)

-- the right is granted to the user or to a held role, with admin option
abbrev pub Administers : Grants → Name → Right → Type 0
Administers grants user (SystemRight privilege) = AdministersPrivilege grants user privilege
Administers grants user (Role role) = AdministersRole grants user role

-- the system privilege by which every right of this kind may be granted and revoked
abbrev pub any_right : Right → Privilege
any_right (SystemRight privilege) = GrantAnyPrivilege
any_right (Role role) = GrantAnyRole

-- the right is a role that isn't there
abbrev pub IsNoRole : Known → Right → Type 0
IsNoRole known (SystemRight privilege) = ⊥
IsNoRole known (Role role) = ¬ Contains known.roles role

-- no such role; or else neither the admin option of the right nor the privilege for every right of its kind
abbrev pub RefusesRight : Grants → Known → Name → Right → Code → Type 0
RefusesRight grants known user right code =
    (IsNoRole known right × (code ≡ NO_SUCH_ROLE))
    ⊎ ((¬ IsNoRole known right) × (¬ Administers grants user right) × (¬ HoldsPrivilege grants user (any_right right)) × (code ≡ PRIVILEGE_MISSING))

-- no such user or role
abbrev pub RefusesGrantee : Known → Name → Code → Type 0
RefusesGrantee known grantee code = (¬ Contains known.users grantee) × (¬ Contains known.roles grantee) × (code ≡ NO_SUCH_GRANTEE)

-- some right of the kind for which the privilege is isn't administered by the user
abbrev pub Needs : Grants → Name → List Right → Privilege → Type 0
Needs grants user rights privilege =
    (k : ℕ) × (right : Right) × (slice_get rights k ≡ Some right) × (any_right right ≡ privilege) × (¬ Administers grants user right)

-- the system privileges that were needed, in the order of their numbers
abbrev pub IsUsed : Grants → Name → List Right → List Privilege → Type 0
IsUsed grants user rights used =
    (privilege role : Bool) × (IsTrue privilege ↔ Needs grants user rights GrantAnyPrivilege) × (IsTrue role ↔ Needs grants user rights GrantAnyRole)
    × (used ≡ (if privilege then GrantAnyPrivilege ∷ [] else []) ++ (if role then GrantAnyRole ∷ [] else []))

-- the table is one of the two that are there from the start
abbrev pub IsBuiltIn : TableName → Type 0
IsBuiltIn table = (table ≡ dual) ⊎ (table ≡ trail)

-- a built-in table; or else no such table; or else neither owned nor GRANT ANY OBJECT PRIVILEGE
abbrev pub RefusesTable : Grants → Known → Name → TableName → Code → Type 0
RefusesTable grants known user table code =
    (IsBuiltIn table × (code ≡ PRIVILEGE_MISSING))
    ⊎ (((¬ IsBuiltIn table) × (¬ Contains known.tables table) × (code ≡ NO_SUCH_TABLE))
    ⊎ ((¬ IsBuiltIn table) × Contains known.tables table × (user ≢ table.owner) × (¬ HoldsPrivilege grants user GrantAnyObjectPrivilege) × IsRefusal grants user table code))

-- GRANT ANY OBJECT PRIVILEGE, unless the user owns the table
abbrev pub IsUsedOnTable : Name → TableName → List Privilege → Type 0
IsUsedOnTable user table used = ((user ≡ table.owner) × (used ≡ [])) ⊎ ((user ≢ table.owner) × (used ≡ GrantAnyObjectPrivilege ∷ []))

-- grantees first, then the pairs; the first refusal refuses all
abbrev pub DecidesPairs : Grants → Known → List Name → List Pair → Code → List GrantChange → Type 0
DecidesPairs grants known grantees pairs code changes =
    (FirstRefused (RefusesGrantee known) grantees code × (changes ≡ []))
    ⊎ ((NoneRefused (RefusesGrantee known) grantees × SomeRefused grants pairs code × (changes ≡ []))
    ⊎ (NoneRefused (RefusesGrantee known) grantees × AllPass grants pairs × (code ≡ DONE) × (changes ≡ made_all grants pairs)))

-- rights first; a statement that is refused at a right uses nothing
abbrev pub DecidesRights : Grants → Known → Name → Way → List Right → List Name → Decided → Type 0
DecidesRights grants known user way rights grantees decided =
    (FirstRefused (RefusesRight grants known user) rights decided.code × (decided.used ≡ []) × (decided.grants ≡ []))
    ⊎ (NoneRefused (RefusesRight grants known user) rights × IsUsed grants user rights decided.used
    × DecidesPairs grants known grantees (pairs (right_pair way) rights grantees) decided.code decided.grants)

-- the table first; a statement that is refused there uses nothing
abbrev pub DecidesOnTable : Grants → Known → Name → Way → TableName → List ObjectRight → List Name → Decided → Type 0
DecidesOnTable grants known user way table rights grantees decided =
    (RefusesTable grants known user table decided.code × (decided.used ≡ []) × (decided.grants ≡ []))
    ⊎ (((code : Code) → ¬ RefusesTable grants known user table code) × IsUsedOnTable user table decided.used
    × DecidesPairs grants known grantees (pairs (object_pair way table) rights grantees) decided.code decided.grants)

-- what is decided of the statement
abbrev pub Decides : Grants → Known → Name → GrantStatement → Decided → Type 0
Decides grants known user (S.Grant rights grantees admin) decided = DecidesRights grants known user (Grant admin) rights grantees decided
Decides grants known user (S.Revoke rights grantees) decided = DecidesRights grants known user Revoke rights grantees decided
Decides grants known user (S.GrantObject rights table grantees) decided = DecidesOnTable grants known user (Grant false) (resolved_table user table) rights grantees decided
Decides grants known user (S.RevokeObject rights table grantees) decided = DecidesOnTable grants known user Revoke (resolved_table user table) rights grantees decided
