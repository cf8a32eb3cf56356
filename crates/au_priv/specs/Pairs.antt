-- The pairs of rights and grantees that GRANT and REVOKE name, and what is asked for each (SQL Language Reference,
-- "GRANT" and "REVOKE"; the order of the pairs is this project's profile).
use Rattle.std.specs.Prelude.{List, [], ◌∷◌, map}
use Rattle.std.specs.List.{flat_map}
use Rattle.au_base.specs.declared.action.Action.{Action}
use Rattle.au_base.specs.declared.action.Action.TheVariants as A
use Rattle.au_base.specs.declared.grant.Right.{Right}
use Rattle.au_base.specs.declared.grant.Right.TheVariants.{Privilege, Role}
use Rattle.au_base.specs.declared.grant.ObjectRight.{ObjectRight}
use Rattle.au_base.specs.declared.grant.ObjectRight.TheVariants.{Select, Insert, Update, Delete, All}
use Rattle.au_base.specs.declared.table.TableName.{TableName}
use Rattle.au_grants.specs.declared.change.GrantChange.{GrantChange}
use Rattle.au_grants.specs.declared.change.GrantChange.TheVariants.{SystemGrant, SystemRevoke, RoleGrant, RoleRevoke, ObjectGrant, ObjectRevoke}
use Rattle.au_priv.specs.declared.pair.Way.{Way}
use Rattle.au_priv.specs.declared.pair.Way.TheVariants.{Grant, Revoke}
use Rattle.au_grants.specs.Rights.{Name}

-- what is asked for a pair: one change, or for ALL on a table four
abbrev pub Pair : Type 0
Pair = List GrantChange

-- what is asked for a system privilege or a role
abbrev pub right_change : Way → Right → Name → GrantChange
right_change (Grant admin) (Privilege privilege) grantee = SystemGrant grantee privilege admin
right_change (Grant admin) (Role role) grantee = RoleGrant grantee role admin
right_change Revoke (Privilege privilege) grantee = SystemRevoke grantee privilege
right_change Revoke (Role role) grantee = RoleRevoke grantee role

abbrev pub right_pair : Way → Right → Name → Pair
right_pair way right grantee = right_change way right grantee ∷ []

-- the actions that the right names, in the order of their numbers
abbrev pub actions_of : ObjectRight → List Action
actions_of Select = A.Select ∷ []
actions_of Insert = A.Insert ∷ []
actions_of Update = A.Update ∷ []
actions_of Delete = A.Delete ∷ []
actions_of All = A.Select ∷ A.Insert ∷ A.Update ∷ A.Delete ∷ []

-- what is asked for an action on a table
abbrev pub object_change : Way → TableName → Name → Action → GrantChange
object_change (Grant admin) table grantee action = ObjectGrant grantee table action
object_change Revoke table grantee action = ObjectRevoke grantee table action

abbrev pub object_pair : Way → TableName → ObjectRight → Name → Pair
object_pair way table right grantee = map (object_change way table grantee) (actions_of right)

-- the pairs in their order: the first right with each grantee, then the next right
abbrev pub pairs : {R : Type 0} → (R → Name → Pair) → List R → List Name → List Pair
pairs make rights grantees = flat_map (λ right. map (make right) grantees) rights
