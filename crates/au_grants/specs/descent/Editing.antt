-- How changes are made in vectors of grants.
use Rattle.std.specs.Prelude.{◌≡◌, ◌+◌, ◌≤◌, ◌<◌, ℕ, List, [], Bool, true, false, MatchOption, ⊤, length, vec_capacity}
use Rattle.std.specs.List.{filter}
use Rattle.au_grants.specs.declared.change.GrantChange.{GrantChange}
use Rattle.au_grants.specs.declared.change.GrantChange.TheVariants.{SystemGrant, RoleGrant, ObjectGrant}
use Rattle.au_grants.specs.declared.edits.Edits.{Edits}
use Rattle.au_grants.specs.declared.edits.Growth.{Growth}
use Rattle.au_grants.specs.declared.kind.Kind.{Kind}
use Rattle.au_grants.specs.declared.kind.Kind.TheVariants as K
use Rattle.au_grants.specs.declared.lists.GrantLists.{GrantLists}
use Rattle.au_grants.specs.Rights.{Grants}

-- the grants in the vectors
abbrev pub listed : GrantLists → Grants
listed lists = record { system = lists.system.items; role = lists.role.items; object = lists.object.items }

-- the change grants something of the kind
abbrev pub adds : Kind → GrantChange → Bool
adds K.Privilege (SystemGrant grantee privilege admin) = true
adds K.Role (RoleGrant grantee role admin) = true
adds K.Object (ObjectGrant grantee table action) = true
adds _ _ = false

-- the vectors have room for a grant that each of the changes adds
pub record HasRoom (changes : List GrantChange) (lists : GrantLists) : Type 0 where
  pub system : length lists.system.items + length (filter (adds K.Privilege) changes) ≤ vec_capacity lists.system
  pub role : length lists.role.items + length (filter (adds K.Role) changes) ≤ vec_capacity lists.role
  pub object : length lists.object.items + length (filter (adds K.Object) changes) ≤ vec_capacity lists.object

-- a change leaves the vectors as large as they are
pub record KeepsCapacity (lists later : GrantLists) : Type 0 where
  pub system : vec_capacity later.system ≡ vec_capacity lists.system
  pub role : vec_capacity later.role ≡ vec_capacity lists.role
  pub object : vec_capacity later.object ≡ vec_capacity lists.object

-- the vectors are empty, and there is room to move so many grants of each kind
pub record IsSpacious (system role object : ℕ) (growth : Growth) : Type 0 where
  pub no_fresh_system : growth.fresh.system.items ≡ []
  pub no_fresh_role : growth.fresh.role.items ≡ []
  pub no_fresh_object : growth.fresh.object.items ≡ []
  pub no_system : growth.moving.system.items ≡ []
  pub no_role : growth.moving.role.items ≡ []
  pub no_object : growth.moving.object.items ≡ []
  pub fresh_system : 0 < vec_capacity growth.fresh.system
  pub fresh_role : 0 < vec_capacity growth.fresh.role
  pub fresh_object : 0 < vec_capacity growth.fresh.object
  pub for_system : system ≤ vec_capacity growth.moving.system
  pub for_role : role ≤ vec_capacity growth.moving.role
  pub for_object : object ≤ vec_capacity growth.moving.object

-- the vectors are for as many grants more as the changes add
pub record AreSpared (edits : Edits) : Type 0 where
  pub system : edits.system.more ≡ length (filter (adds K.Privilege) edits.changes.items)
  pub role : edits.role.more ≡ length (filter (adds K.Role) edits.changes.items)
  pub object : edits.object.more ≡ length (filter (adds K.Object) edits.changes.items)
  pub growth : MatchOption edits.growth ⊤ (IsSpacious (edits.system.count + edits.system.more) (edits.role.count + edits.role.more) (edits.object.count + edits.object.more))
