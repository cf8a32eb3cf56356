-- Frames that are replayed in place: those whose changes are all of rows, and those of few changes of which none is of a row.
use Rattle.std.specs.Prelude.{◌≡◌, ◌≢◌, ◌≤◌, ◌+◌, ◌⊎◌, ℕ, ⊤, Bool, true, false, IsTrue, List, [], ◌∷◌, length}
use Rattle.std.specs.List.{AllByRecursion, filter}
use Rattle.au_base.specs.BuiltIn.{sys}
use Rattle.au_base.specs.Limits.{CATALOG_OBJECTS, GRANTS, TABLE_COLUMNS}
use Rattle.au_entries.specs.declared.change.Change.{Change}
use Rattle.au_entries.specs.declared.change.Change.TheVariants.{User, UserGone, Role, SysGrant, RoleGrant, ObjGrant, Table, Put, Gone, Policy, Fga}
use Rattle.au_entries.specs.declared.kept.Kept.{Kept}
use Rattle.au_entries.specs.Replaying.{has_grantee, has_role}
use Rattle.au_grants.specs.Rights.{grant_count}
use Rattle.au_kept.specs.declared.kind.Kind.{Kind}
use Rattle.au_kept.specs.declared.kind.Kind.TheVariants as kind
use Rattle.au_kept.specs.Staging.{IsOfRow}
use Rattle.rec_codec.specs.declared.frame.Frame.{Frame}
use Rattle.rec_codec.specs.declared.frame.Frame.TheVariants.{Image, Event, Purge}

-- the frame is no image, and each of its changes is of a row
abbrev pub IsOfRows : Frame → Type 0
IsOfRows (Image last changes records) = ⊥
IsOfRows (Event stamp changes records) = AllByRecursion IsOfRow changes
IsOfRows (Purge stamp before changes records) = AllByRecursion IsOfRow changes

-- the change is of no row and not of SYS as a user, and a table that it makes has 64 columns at most
abbrev pub IsPlain : Change → Type 0
IsPlain (Put table number cells) = ⊥
IsPlain (Gone table number) = ⊥
IsPlain (User name verifier) = name ≢ sys
IsPlain (UserGone name) = name ≢ sys
IsPlain (Table name columns key) = length columns ≤ TABLE_COLUMNS
IsPlain _ = ⊤

-- there is one change, a plain one
abbrev pub IsLone : List Change → Type 0
IsLone [] = ⊥
IsLone (change ∷ []) = IsPlain change
IsLone (change ∷ other ∷ changes) = ⊥

-- the change grants a privilege or a role
abbrev pub IsGrant : Change → Type 0
IsGrant (SysGrant grantee privilege admin) = ⊤
IsGrant (RoleGrant grantee role admin) = ⊤
IsGrant (ObjGrant grantee table action) = ⊤
IsGrant _ = ⊥

-- the change grants a role to a role
abbrev pub is_to_role : Kept → Change → Bool
is_to_role kept (RoleGrant grantee role admin) = has_role kept grantee
is_to_role kept _ = false

-- the change grants no role to a role, or one to this role
abbrev pub IsToOne : Kept → List ℕ → Change → Type 0
IsToOne kept name (RoleGrant grantee role admin) = (has_role kept grantee ≡ false) ⊎ (grantee ≡ name)
IsToOne kept name _ = ⊤

-- the change grants no role to a role, or this one
abbrev pub IsOfOne : Kept → List ℕ → Change → Type 0
IsOfOne kept name (RoleGrant grantee role admin) = (has_role kept grantee ≡ false) ⊎ (role ≡ name)
IsOfOne kept name _ = ⊤

-- the changes that grant a role to a role have one grantee, or grant one role
abbrev pub ShareName : Kept → List Change → Type 0
ShareName kept changes = (name : List ℕ) × (AllByRecursion (IsToOne kept name) changes ⊎ AllByRecursion (IsOfOne kept name) changes)

-- the change grants the role to somebody else
abbrev pub IsGrantOf : List ℕ → Change → Type 0
IsGrantOf name (RoleGrant grantee role admin) = (role ≡ name) × (grantee ≢ name)
IsGrantOf name _ = ⊥

-- the first change makes a role whose name no user and no role has, and the second grants it to somebody else
abbrev pub IsRoleMade : Kept → Change → Change → Type 0
IsRoleMade kept (Role name) second = (has_grantee kept name ≡ false) × IsGrantOf name second
IsRoleMade kept _ second = ⊥

-- the role's grantee is there
abbrev pub HasGrantee : Kept → Change → Type 0
HasGrantee kept (RoleGrant grantee role admin) = IsTrue (has_grantee kept grantee)
HasGrantee kept _ = ⊥

-- there are two changes, a role that is made and a grant of it
abbrev pub IsNewRole : Kept → List Change → Type 0
IsNewRole kept [] = ⊥
IsNewRole kept (first ∷ []) = ⊥
IsNewRole kept (first ∷ second ∷ []) = IsRoleMade kept first second
IsNewRole kept (first ∷ second ∷ third ∷ changes) = ⊥

-- there are two changes, and the grantee of the second is there
abbrev pub HasNewGrantee : Kept → List Change → Type 0
HasNewGrantee kept [] = ⊥
HasNewGrantee kept (first ∷ []) = ⊥
HasNewGrantee kept (first ∷ second ∷ []) = HasGrantee kept second
HasNewGrantee kept (first ∷ second ∷ third ∷ changes) = ⊥

-- the change puts an entry into the list of this kind
abbrev pub puts : Kind → Change → Bool
puts kind.User (User name verifier) = true
puts kind.Role (Role name) = true
puts kind.Table (Table name columns key) = true
puts kind.Policy (Policy name privileges actions roles when) = true
puts kind.FineGrained (Fga table policy condition columns all types enabled) = true
puts kind.Grant (SysGrant grantee privilege admin) = true
puts kind.Grant (RoleGrant grantee role admin) = true
puts kind.Grant (ObjGrant grantee table action) = true
puts _ _ = false

-- how many of the changes do so
abbrev pub put_count : Kind → List Change → ℕ
put_count listed changes = length (filter (puts listed) changes)

-- each list has room for the entries that the changes put into it
pub record IsRoomy (kept : Kept) (changes : List Change) : Type 0 where
  pub users : length kept.users + put_count kind.User changes ≤ CATALOG_OBJECTS
  pub roles : length kept.roles + put_count kind.Role changes ≤ CATALOG_OBJECTS
  pub tables : length kept.tables + put_count kind.Table changes ≤ CATALOG_OBJECTS
  pub policies : length kept.policies + put_count kind.Policy changes ≤ CATALOG_OBJECTS
  pub fga : length kept.fga + put_count kind.FineGrained changes ≤ CATALOG_OBJECTS
  pub grants : grant_count kept.grants + put_count kind.Grant changes ≤ GRANTS

-- Each change goes on behind the others where it goes on by itself: there is one, or all are grants, and those of roles to
-- roles have one grantee or are of one role.
abbrev pub AreApart : Kept → List Change → Type 0
AreApart kept changes = IsLone changes ⊎ (AllByRecursion IsGrant changes × ShareName kept changes)

-- the changes can be tested before they are made, and there is room for them
abbrev pub AreInPlace : Kept → List Change → Type 0
AreInPlace kept changes = (IsNewRole kept changes ⊎ AreApart kept changes) × IsRoomy kept changes

-- the frame is no image, and its changes are such
abbrev pub IsInPlace : Kept → Frame → Type 0
IsInPlace kept (Image last changes records) = ⊥
IsInPlace kept (Event stamp changes records) = AreInPlace kept changes
IsInPlace kept (Purge stamp before changes records) = AreInPlace kept changes

-- the changes of the frame
abbrev pub changes_in : Frame → List Change
changes_in (Image last changes records) = changes
changes_in (Event stamp changes records) = changes
changes_in (Purge stamp before changes records) = changes
