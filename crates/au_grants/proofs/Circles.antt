-- Which changes close circles of roles.
use Rattle.std.proofs.Common.{◌≡◌, Bool, true, false, cond, ◌⊎◌, inl, inr, List, [], ◌∷◌, ◌++◌, map, refl, sym, subst, ap, ◌∙◌}
use Rattle.std.specs.List.{Contains, list_any}
use Rattle.au_grants.specs.declared.change.GrantChange.{GrantChange}
use Rattle.au_grants.specs.declared.change.GrantChange.TheVariants.{UserGone, RoleGone, SystemGrant, SystemRevoke, RoleGrant, RoleRevoke, ObjectGrant, ObjectRevoke, TableGone}
use Rattle.au_grants.specs.declared.grants.Grants.{Grants}
use Rattle.au_grants.specs.Changing.{Closes, IsDrop, applied, with_admin, with_grant}
use Rattle.au_grants.specs.Holding.{grants_role}
use Rattle.au_grants.specs.Order.{placed, role_before}
use Rattle.au_grants.specs.Rights.{HasNoCircle, HoldsRole, IsChain, IsHolder, IsRoleGranted, Name, RoleEntry}
use Rattle.au_grants.proofs.Chains.{behind, direct, holder_behind, joined}
use Rattle.au_grants.proofs.Entries.{role_granted}
use Rattle.au_grants.proofs.Members.{kept, mapped, mapped_to, placed_cases, placed_new, placed_old}

-- fewer grants of roles hold no more
fewer_hold : (roles fewer : List RoleEntry) → ((entry : RoleEntry) → Contains fewer entry → Contains roles entry) → (user role : Name) (path : List Name) → IsChain fewer user (path ++ role ∷ []) → HoldsRole roles user role
fewer_hold roles fewer within user role [] chain = direct roles user role (chain.0.0, within (user, role, chain.0.0) chain.0.1)
fewer_hold roles fewer within user role (first ∷ path) chain =
    behind roles user first role (chain.0.0, within (user, first, chain.0.0) chain.0.1) (fewer_hold roles fewer within first role path chain.1)

fewer_keep : (roles fewer : List RoleEntry) → ((entry : RoleEntry) → Contains fewer entry → Contains roles entry) → HasNoCircle roles → HasNoCircle fewer
fewer_keep roles fewer within clear name holds = clear name (fewer_hold roles fewer within name name holds.0 holds.1)

-- what is granted once the role is granted to the grantee was granted before, or is this grant
abbrev WasOrIs : List RoleEntry → Name → Name → Name → Name → Type 0
WasOrIs roles grantee role a b = IsRoleGranted roles a b ⊎ ((a ≡ grantee) × (b ≡ role))

same_ends : (test : RoleEntry → Bool) (admin : Bool) (entry : RoleEntry) (b : Bool) → test entry ≡ b
    → ((with_admin test admin entry).0 ≡ entry.0) × ((with_admin test admin entry).1 ≡ entry.1)
same_ends test admin entry true is = rw is (refl, refl)
same_ends test admin entry false is = rw is (refl, refl)

was_mapped : (roles : List RoleEntry) (test : RoleEntry → Bool) (admin : Bool) (entry : RoleEntry) → Contains (map (with_admin test admin) roles) entry → IsRoleGranted roles entry.0 entry.1
was_mapped roles test admin entry has =
    let found = mapped (with_admin test admin) roles entry has in
    let ends = same_ends test admin found.0 _ refl in
    let first : found.0.0 ≡ entry.0 = sym ends.0 ∙ ap (λ (e : RoleEntry). e.0) found.2 in
    let second : found.0.1 ≡ entry.1 = sym ends.1 ∙ ap (λ (e : RoleEntry). e.1) found.2 in
    let granted : IsRoleGranted roles found.0.0 found.0.1 = (found.0.2, found.1) in
    subst (λ (n : Name). IsRoleGranted roles entry.0 n) second (subst (λ (n : Name). IsRoleGranted roles n found.0.1) first granted)

was_or_is_at : (roles : List RoleEntry) (grantee role : Name) (admin b : Bool) (entry : RoleEntry)
    → Contains (cond b (map (with_admin (grants_role grantee role) admin) roles) (placed role_before (grantee, role, admin) roles)) entry → WasOrIs roles grantee role entry.0 entry.1
was_or_is_at roles grantee role admin true entry has = inl (was_mapped roles (grants_role grantee role) admin entry has)
was_or_is_at roles grantee role admin false entry has = elim (placed_cases role_before (grantee, role, admin) roles entry has) [
  | inl same ↦ inr (ap (λ (e : RoleEntry). e.0) (sym same), ap (λ (e : RoleEntry). e.1) (sym same))
  | inr before ↦ inl (entry.2, before)
]

was_or_is : (roles : List RoleEntry) (grantee role : Name) (admin : Bool) (a b : Name) → IsRoleGranted (with_grant role_before (grants_role grantee role) (grantee, role, admin) roles) a b → WasOrIs roles grantee role a b
was_or_is roles grantee role admin a b (with, has) = was_or_is_at roles grantee role admin (list_any (grants_role grantee role) roles) (a, b, with) has

-- a chain over the new grant goes to the grantee and on from the role
held_or_over : (roles : List RoleEntry) (grantee role : Name) (admin : Bool) (user held : Name) (path : List Name)
    → IsChain (with_grant role_before (grants_role grantee role) (grantee, role, admin) roles) user (path ++ held ∷ [])
    → HoldsRole roles user held ⊎ (IsHolder roles user grantee × IsHolder roles role held)
held_or_over roles grantee role admin user held [] chain = elim (was_or_is roles grantee role admin user held chain.0) [
  | inl was ↦ inl (direct roles user held was)
  | inr is ↦ inr (inl (sym is.0), inl is.1)
]
held_or_over roles grantee role admin user held (first ∷ path) chain =
    elim (held_or_over roles grantee role admin first held path chain.1) [
      | inl holds ↦ elim (was_or_is roles grantee role admin user first chain.0) [
        | inl was ↦ inl (behind roles user first held was holds)
        | inr is ↦ inr (inl (sym is.0), inr (subst (λ (n : Name). HoldsRole roles n held) is.1 holds))
      ]
      | inr over ↦ elim (was_or_is roles grantee role admin user first chain.0) [
        | inl was ↦ inr (inr (holder_behind roles user first grantee was over.0), over.1)
        | inr is ↦ inr (inl (sym is.0), over.1)
      ]
    ]

holder_joined : (roles : List RoleEntry) (a b c : Name) → IsHolder roles a b → IsHolder roles b c → IsHolder roles a c
holder_joined roles a b c (inl one) two = subst (λ (n : Name). IsHolder roles n c) one two
holder_joined roles a b c (inr one) (inl two) = inr (subst (λ (n : Name). HoldsRole roles a n) (sym two) one)
holder_joined roles a b c (inr one) (inr two) = inr (joined roles a b c one two)

grant_keeps : (roles : List RoleEntry) (grantee role : Name) (admin : Bool) → (IsHolder roles role grantee → ⊥) → HasNoCircle roles → HasNoCircle (with_grant role_before (grants_role grantee role) (grantee, role, admin) roles)
grant_keeps roles grantee role admin closes clear name holds = elim (held_or_over roles grantee role admin name name holds.0 holds.1) [
  | inl before ↦ clear name before
  | inr over ↦ closes (holder_joined roles role name grantee over.1 over.0)
]

-- a change that closes no circle leaves none
pub applied_keeps : (change : GrantChange) (grants : Grants) → (Closes grants.role change → ⊥) → HasNoCircle grants.role → HasNoCircle (applied change grants).role
applied_keeps (UserGone user) grants closes clear = fewer_keep grants.role _ (kept _ grants.role) clear
applied_keeps (RoleGone role) grants closes clear = fewer_keep grants.role _ (kept _ grants.role) clear
applied_keeps (SystemGrant grantee privilege admin) grants closes clear = clear
applied_keeps (SystemRevoke grantee privilege) grants closes clear = clear
applied_keeps (RoleGrant grantee role admin) grants closes clear = grant_keeps grants.role grantee role admin closes clear
applied_keeps (RoleRevoke grantee role) grants closes clear = fewer_keep grants.role _ (kept _ grants.role) clear
applied_keeps (ObjectGrant grantee table action) grants closes clear = clear
applied_keeps (ObjectRevoke grantee table action) grants closes clear = clear
applied_keeps (TableGone table) grants closes clear = clear

-- what is granted stays granted, with the admin option or without
stays_mapped : (roles : List RoleEntry) (test : RoleEntry → Bool) (admin : Bool) (a b : Name) → IsRoleGranted roles a b → IsRoleGranted (map (with_admin test admin) roles) a b
stays_mapped roles test admin a b (with, has) =
    let entry = with_admin test admin (a, b, with) in
    let ends = same_ends test admin (a, b, with) _ refl in
    let list = map (with_admin test admin) roles in
    let granted : IsRoleGranted list entry.0 entry.1 = (entry.2, mapped_to (with_admin test admin) roles (a, b, with) has) in
    subst (λ (n : Name). IsRoleGranted list a n) ends.1 (subst (λ (n : Name). IsRoleGranted list n entry.1) ends.0 granted)

stays_at : (roles : List RoleEntry) (grantee role : Name) (admin c : Bool) (a b : Name) → IsRoleGranted roles a b
    → IsRoleGranted (cond c (map (with_admin (grants_role grantee role) admin) roles) (placed role_before (grantee, role, admin) roles)) a b
stays_at roles grantee role admin true a b granted = stays_mapped roles (grants_role grantee role) admin a b granted
stays_at roles grantee role admin false a b (with, has) = (with, placed_old role_before (grantee, role, admin) roles (a, b, with) has)

-- what is newly granted is granted
new_at : (roles : List RoleEntry) (grantee role : Name) (admin c : Bool) → list_any (grants_role grantee role) roles ≡ c
    → IsRoleGranted (cond c (map (with_admin (grants_role grantee role) admin) roles) (placed role_before (grantee, role, admin) roles)) grantee role
new_at roles grantee role admin true is = stays_mapped roles (grants_role grantee role) admin grantee role ((role_granted roles grantee role).0 is)
new_at roles grantee role admin false is = (admin, placed_new role_before (grantee, role, admin) roles)

more_hold : (roles more : List RoleEntry) → ((a b : Name) → IsRoleGranted roles a b → IsRoleGranted more a b) → (user role : Name) (path : List Name) → IsChain roles user (path ++ role ∷ []) → HoldsRole more user role
more_hold roles more within user role [] chain = direct more user role (within user role chain.0)
more_hold roles more within user role (first ∷ path) chain = behind more user first role (within user first chain.0) (more_hold roles more within first role path chain.1)

grant_closes : (roles : List RoleEntry) (grantee role : Name) (admin : Bool) → IsHolder roles role grantee → HasNoCircle (with_grant role_before (grants_role grantee role) (grantee, role, admin) roles) → ⊥
grant_closes roles grantee role admin is clear =
    let after = with_grant role_before (grants_role grantee role) (grantee, role, admin) roles in
    let granted : IsRoleGranted after grantee role = new_at roles grantee role admin _ refl in
    elim is [
      | inl same ↦ clear grantee (subst (λ (n : Name). HoldsRole after grantee n) (sym same) (direct after grantee role granted))
      | inr holds ↦ clear grantee (behind after grantee role grantee granted (more_hold roles after (stays_at roles grantee role admin _) role grantee holds.0 holds.1))
    ]

-- a change that closes a circle leaves one
pub applied_closes : (change : GrantChange) (grants : Grants) → Closes grants.role change → HasNoCircle (applied change grants).role → ⊥
applied_closes (UserGone user) grants closes clear = absurd closes
applied_closes (RoleGone role) grants closes clear = absurd closes
applied_closes (SystemGrant grantee privilege admin) grants closes clear = absurd closes
applied_closes (SystemRevoke grantee privilege) grants closes clear = absurd closes
applied_closes (RoleGrant grantee role admin) grants closes clear = grant_closes grants.role grantee role admin closes clear
applied_closes (RoleRevoke grantee role) grants closes clear = absurd closes
applied_closes (ObjectGrant grantee table action) grants closes clear = absurd closes
applied_closes (ObjectRevoke grantee table action) grants closes clear = absurd closes
applied_closes (TableGone table) grants closes clear = absurd closes

pub drop_keeps : (change : GrantChange) (grants : Grants) → IsDrop change → HasNoCircle grants.role → HasNoCircle (applied change grants).role
drop_keeps (UserGone user) grants drop clear = applied_keeps (UserGone user) grants (λ never. never) clear
drop_keeps (RoleGone role) grants drop clear = applied_keeps (RoleGone role) grants (λ never. never) clear
drop_keeps (TableGone table) grants drop clear = applied_keeps (TableGone table) grants (λ never. never) clear
drop_keeps (SystemGrant grantee privilege admin) grants drop clear = absurd drop
drop_keeps (SystemRevoke grantee privilege) grants drop clear = absurd drop
drop_keeps (RoleGrant grantee role admin) grants drop clear = absurd drop
drop_keeps (RoleRevoke grantee role) grants drop clear = absurd drop
drop_keeps (ObjectGrant grantee table action) grants drop clear = absurd drop
drop_keeps (ObjectRevoke grantee table action) grants drop clear = absurd drop
