-- What becomes of pairs that are taken in order, each on the grants that the one before left (SQL Language
-- Reference, "GRANT" and "REVOKE"; the codes and the limit are this project's profile).
use Rattle.std.specs.Prelude.{◌≡◌, ◌<◌, ◌+◌, ℕ, List, [], ◌∷◌, ◌++◌, length, Bool, true, false, not, Option, Some, None, ◌⊎◌}
use Rattle.std.specs.List.{filter, list_any, slice_get}
use Rattle.au_base.specs.declared.code.Code.{Code}
use Rattle.au_base.specs.Codes.{CIRCULAR_ROLE_GRANT, TOO_MANY_OBJECTS, PRIVILEGE_NOT_GRANTED, ROLE_NOT_GRANTED, OBJECT_PRIVILEGE_NOT_GRANTED}
use Rattle.au_base.specs.Limits.{GRANTS}
use Rattle.au_grants.specs.declared.change.GrantChange.{GrantChange}
use Rattle.au_grants.specs.declared.change.GrantChange.TheVariants.{SystemGrant, SystemRevoke, RoleGrant, RoleRevoke, ObjectGrant, ObjectRevoke}
use Rattle.au_grants.specs.declared.grants.Grants.{Grants}
use Rattle.au_grants.specs.Changing.{Closes, applied_all, is_new}
use Rattle.au_grants.specs.Holding.{grants_role, grants_role_as, grants_privilege, grants_privilege_as, grants_object}
use Rattle.au_priv.specs.Pairs.{Pair}
use Rattle.au_grants.specs.Rights.{RoleEntry, grant_count}

-- the change leaves something otherwise than it is: what is granted isn't there so, what is revoked is there
abbrev pub is_effective : Grants → GrantChange → Bool
is_effective grants (SystemGrant grantee privilege admin) = not (list_any (grants_privilege_as grantee privilege admin) grants.system)
is_effective grants (SystemRevoke grantee privilege) = list_any (grants_privilege grantee privilege) grants.system
is_effective grants (RoleGrant grantee role admin) = not (list_any (grants_role_as grantee role admin) grants.role)
is_effective grants (RoleRevoke grantee role) = list_any (grants_role grantee role) grants.role
is_effective grants (ObjectGrant grantee table action) = not (list_any (grants_object grantee table action) grants.object)
is_effective grants (ObjectRevoke grantee table action) = list_any (grants_object grantee table action) grants.object
is_effective grants _ = true

-- some change of the pair would close a circle of roles
abbrev pub ClosesCircle : List RoleEntry → Pair → Type 0
ClosesCircle roles pair = (place : ℕ) × (change : GrantChange) × (slice_get pair place ≡ Some change) × Closes roles change

-- there is no room for what the pair adds
abbrev pub IsOverLimit : Grants → Pair → Type 0
IsOverLimit grants pair = (0 < length (filter (is_new grants) pair)) × (GRANTS < grant_count grants + length (filter (is_new grants) pair))

-- the code where nothing of what is revoked is granted directly
abbrev pub missing_code : Pair → Option Code
missing_code (SystemRevoke grantee privilege ∷ pair) = Some PRIVILEGE_NOT_GRANTED
missing_code (RoleRevoke grantee role ∷ pair) = Some ROLE_NOT_GRANTED
missing_code (ObjectRevoke grantee table action ∷ pair) = Some OBJECT_PRIVILEGE_NOT_GRANTED
missing_code _ = None

-- the pair is refused with the code: a circle of roles comes before the limit; of what is revoked something must be there
abbrev pub RefusesPair : Grants → Pair → Code → Type 0
RefusesPair grants pair code =
    (ClosesCircle grants.role pair × (code ≡ CIRCULAR_ROLE_GRANT))
    ⊎ (((¬ ClosesCircle grants.role pair) × IsOverLimit grants pair × (code ≡ TOO_MANY_OBJECTS))
    ⊎ ((list_any (is_effective grants) pair ≡ false) × (missing_code pair ≡ Some code)))

-- what the pair changes
abbrev pub made : Grants → Pair → List GrantChange
made grants pair = filter (is_effective grants) pair

-- what all pairs change
abbrev pub made_all : Grants → List Pair → List GrantChange
made_all grants [] = []
made_all grants (pair ∷ pairs) = made grants pair ++ made_all (applied_all (made grants pair) grants) pairs

-- no pair is refused
abbrev pub AllPass : Grants → List Pair → Type 0
AllPass grants [] = Unit {0}
AllPass grants (pair ∷ pairs) = ((code : Code) → ¬ RefusesPair grants pair code) × AllPass (applied_all (made grants pair) grants) pairs

-- the first pair that is refused is refused with the code
abbrev pub SomeRefused : Grants → List Pair → Code → Type 0
SomeRefused grants [] code = ⊥
SomeRefused grants (pair ∷ pairs) code =
    RefusesPair grants pair code ⊎ (((other : Code) → ¬ RefusesPair grants pair other) × SomeRefused (applied_all (made grants pair) grants) pairs code)
