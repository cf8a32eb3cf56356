-- What rights of a statement need, one after another.
use Rattle.std.specs.Prelude.{◌≡◌, ◌↔◌, ◌⊎◌, List, Bool, IsTrue}
use Rattle.au_base.specs.declared.grant.Right.{Right}
use Rattle.au_base.specs.declared.privilege.Privilege.{Privilege}
use Rattle.au_base.specs.declared.privilege.Privilege.TheVariants.{GrantAnyPrivilege, GrantAnyRole}
use Rattle.au_grants.specs.declared.grants.Grants.{Grants}
use Rattle.au_grants.specs.declared.right.Sought.{Sought}
use Rattle.au_grants.specs.Holding.{Holds}
use Rattle.au_grants.specs.Rights.{Name, HoldsPrivilege}
use Rattle.au_priv.specs.Deciding.{Administers, Needs, any_right}

-- what is needed is held
abbrev pub AreNeededHeld : Grants → Name → Bool → Bool → Type 0
AreNeededHeld grants user privilege role = (IsTrue privilege → HoldsPrivilege grants user GrantAnyPrivilege) × (IsTrue role → HoldsPrivilege grants user GrantAnyRole)

-- whether the rights need the privilege for every system privilege, and the one for every role
abbrev pub AreNeeded : Grants → Name → List Right → Bool → Bool → Type 0
AreNeeded grants user rights privilege role = (IsTrue privilege ↔ Needs grants user rights GrantAnyPrivilege) × (IsTrue role ↔ Needs grants user rights GrantAnyRole)

-- the right needs the privilege: it is the one for every right of its kind, and the user doesn't administer the right
abbrev pub NeedsFor : Grants → Name → Right → Privilege → Type 0
NeedsFor grants user right privilege = (any_right right ≡ privilege) × (¬ Administers grants user right)

-- what is needed with one right more, which is held
pub record AreNeededWith (grants : Grants) (user : Name) (right : Right) (privilege role next_privilege next_role : Bool) : Type 0 where
  pub held : AreNeededHeld grants user next_privilege next_role
  pub privilege_is : IsTrue next_privilege ↔ (IsTrue privilege ⊎ NeedsFor grants user right GrantAnyPrivilege)
  pub role_is : IsTrue next_role ↔ (IsTrue role ⊎ NeedsFor grants user right GrantAnyRole)

-- whether the privilege for every right of a kind is needed, already or for the right; one of both is held
pub record IsNeededWith (grants : Grants) (user : Name) (needed : Bool) (right : Sought) (any : Privilege) (next : Bool) : Type 0 where
  pub held : IsTrue next → HoldsPrivilege grants user any
  pub needed_is : IsTrue next ↔ (IsTrue needed ⊎ (¬ Holds grants user right))
  pub suffices : Holds grants user right ⊎ HoldsPrivilege grants user any
