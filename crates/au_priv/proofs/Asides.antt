-- Roles that are granted aside of the ways from a role to a grantee open no way.
use Rattle.std.proofs.Common.{◌≡◌, ◌↔◌, ◌⊎◌, ℕ, suc, zero, Bool, true, false, cond, ◌||◌, inl, inr, List, [], ◌∷◌, ◌++◌, Some, refl, sym, subst, ap, ◌∙◌, arith}
use Rattle.std.specs.List.{Contains, list_any, slice_get}
use Rattle.std.specs.Str.{bytes_eq}
use Rattle.std.proofs.lemmas.Bool.{and_parts, and_from, or_cases, or_left, or_right}
use Rattle.au_grants.specs.declared.change.GrantChange.{GrantChange}
use Rattle.au_grants.specs.declared.change.GrantChange.TheVariants.{UserGone, RoleGone, SystemGrant, SystemRevoke, RoleGrant, RoleRevoke, ObjectGrant, ObjectRevoke, TableGone}
use Rattle.au_grants.specs.Changing.{applied, applied_all}
use Rattle.au_grants.specs.Holding.{grants_role, grants_role_as}
use Rattle.au_grants.specs.Rights.{Grants, HoldsRole, IsChain, IsHolder, IsRoleGranted, Name, RoleEntry}
use Rattle.au_priv.specs.descent.Standing.{IsAside, role_after}
use Rattle.au_priv.proofs.Stands.{any_role_as, role_stands}
use Rattle.au_priv.proofs.Tables.{same_name-is, same_name-refl}

-- the role is granted exactly where the test finds a grant of it
found_from : {X : Type 0} (test : X → Bool) (xs : List X) → list_any test xs ≡ true → (x : X) × Contains xs x × (test x ≡ true)
found_from test [] is = absurd (let e : false ≡ true = is in cc)
found_from test (y ∷ xs) is = elim (or_cases (test y) (list_any test xs) is) [
  | inl passes ↦ (y, (0, omega arith, refl), passes)
  | inr later ↦ (let found = found_from test xs later in (found.0, (suc found.1.0, omega (arith, found.1.1), found.1.2), found.2))
]

found_to : {X : Type 0} (test : X → Bool) (xs : List X) (x : X) → Contains xs x → test x ≡ true → list_any test xs ≡ true
found_to test [] x (k, within, is) passes = absurd (omega arith)
found_to test (y ∷ xs) x (zero, within, is) passes = or_left (test y) (list_any test xs) (ap test is ∙ passes)
found_to test (y ∷ xs) x (suc k, within, is) passes = or_right (test y) (list_any test xs) (found_to test xs x (k, omega arith, is) passes)

grants_role-is : (grantee role : Name) (entry : RoleEntry) → grants_role grantee role entry ≡ true → entry ≡ (grantee, role, entry.2)
grants_role-is grantee role (to, granted, admin) is =
    let parts = and_parts (bytes_eq to grantee) (bytes_eq granted role) is in
    let grantees : to ≡ grantee = same_name-is _ _ parts.0 in
    let roles : granted ≡ role = same_name-is _ _ parts.1 in
    cc

granted_from : (roles : List RoleEntry) (grantee role : Name) → list_any (grants_role_as grantee role false) roles ≡ true → IsRoleGranted roles grantee role
granted_from roles grantee role is =
    let found = found_from (grants_role grantee role) roles (sym (any_role_as grantee role roles) ∙ is) in
    (found.0.2, subst (λ (entry : RoleEntry). Contains roles entry) (grants_role-is grantee role found.0 found.2) found.1)

granted_to : (roles : List RoleEntry) (grantee role : Name) → IsRoleGranted roles grantee role → list_any (grants_role_as grantee role false) roles ≡ true
granted_to roles grantee role (admin, has) =
    any_role_as grantee role roles ∙ found_to (grants_role grantee role) roles (grantee, role, admin) has (and_from _ _ (same_name-refl grantee) (same_name-refl role))

-- all changes are aside
abbrev AreAside : List RoleEntry → Name → Name → List GrantChange → Type 0
AreAside roles role grantee [] = Unit {0}
AreAside roles role grantee (change ∷ changes) = IsAside roles role grantee change × AreAside roles role grantee changes

are_aside : (roles : List RoleEntry) (role grantee : Name) (changes : List GrantChange) → ((k : ℕ) (change : GrantChange) → slice_get changes k ≡ Some change → IsAside roles role grantee change) → AreAside roles role grantee changes
are_aside roles role grantee [] each = tt
are_aside roles role grantee (change ∷ changes) each = (each 0 change refl, are_aside roles role grantee changes (λ k other at. each (suc k) other at))

-- a grant of a role that a change aside makes
abbrev IsAsideOf : List RoleEntry → Name → Name → Name → Name → Type 0
IsAsideOf roles role grantee a b = (b ≡ role) ⊎ ((a ≡ grantee) ⊎ (¬ IsHolder roles role a))

after_at : (roles : List RoleEntry) (role grantee a b to granted : Name) (option before named : Bool) → IsAside roles role grantee (RoleGrant to granted option)
    → (named ≡ true → (a ≡ to) × (b ≡ granted)) → cond named (option || true) before ≡ true → (before ≡ true) ⊎ IsAsideOf roles role grantee a b
after_at roles role grantee a b to granted option before false aside names is = inl is
after_at roles role grantee a b to granted option before true aside names is =
    let same = names refl in
    inr (subst (λ (n : Name). IsAsideOf roles role grantee n b) (sym same.0) (subst (λ (n : Name). IsAsideOf roles role grantee to n) (sym same.1) aside))

named_same : (a b to granted : Name) → grants_role to granted (a, b, false) ≡ true → (a ≡ to) × (b ≡ granted)
named_same a b to granted is = let parts = and_parts (bytes_eq a to) (bytes_eq b granted) is in (same_name-is a to parts.0, same_name-is b granted parts.1)

one_before : (roles : List RoleEntry) (role grantee a b : Name) (change : GrantChange) (before : Bool) → IsAside roles role grantee change → role_after a b false change before ≡ true → (before ≡ true) ⊎ IsAsideOf roles role grantee a b
one_before roles role grantee a b (UserGone user) before aside is = absurd aside
one_before roles role grantee a b (RoleGone gone) before aside is = absurd aside
one_before roles role grantee a b (SystemGrant to granted option) before aside is = inl is
one_before roles role grantee a b (SystemRevoke from revoked) before aside is = inl is
one_before roles role grantee a b (RoleGrant to granted option) before aside is =
    after_at roles role grantee a b to granted option before (grants_role to granted (a, b, false)) aside (named_same a b to granted) is
one_before roles role grantee a b (RoleRevoke from revoked) before aside is = absurd aside
one_before roles role grantee a b (ObjectGrant to on which) before aside is = inl is
one_before roles role grantee a b (ObjectRevoke from on which) before aside is = inl is
one_before roles role grantee a b (TableGone gone) before aside is = inl is

or_true : (b : Bool) → (b || true) ≡ true
or_true true = refl
or_true false = refl

stays_at : (option before named : Bool) → before ≡ true → cond named (option || true) before ≡ true
stays_at option before true is = or_true option
stays_at option before false is = is

one_stays : (roles : List RoleEntry) (role grantee a b : Name) (change : GrantChange) (before : Bool) → IsAside roles role grantee change → before ≡ true → role_after a b false change before ≡ true
one_stays roles role grantee a b (UserGone user) before aside is = absurd aside
one_stays roles role grantee a b (RoleGone gone) before aside is = absurd aside
one_stays roles role grantee a b (SystemGrant to granted option) before aside is = is
one_stays roles role grantee a b (SystemRevoke from revoked) before aside is = is
one_stays roles role grantee a b (RoleGrant to granted option) before aside is = stays_at option before (grants_role to granted (a, b, false)) is
one_stays roles role grantee a b (RoleRevoke from revoked) before aside is = absurd aside
one_stays roles role grantee a b (ObjectGrant to on which) before aside is = is
one_stays roles role grantee a b (ObjectRevoke from on which) before aside is = is
one_stays roles role grantee a b (TableGone gone) before aside is = is

-- what is granted after the changes was granted before, or is aside
was_granted : (roles : List RoleEntry) (role grantee a b : Name) (changes : List GrantChange) (grants : Grants) → AreAside roles role grantee changes
    → list_any (grants_role_as a b false) (applied_all changes grants).role ≡ true → (list_any (grants_role_as a b false) grants.role ≡ true) ⊎ IsAsideOf roles role grantee a b
was_granted roles role grantee a b [] grants aside is = inl is
was_granted roles role grantee a b (change ∷ changes) grants aside is = elim (was_granted roles role grantee a b changes (applied change grants) aside.1 is) [
  | inl granted ↦ one_before roles role grantee a b change (list_any (grants_role_as a b false) grants.role) aside.0 (sym (role_stands grants a b false change) ∙ granted)
  | inr by ↦ inr by
]

stays_granted : (roles : List RoleEntry) (role grantee a b : Name) (changes : List GrantChange) (grants : Grants) → AreAside roles role grantee changes
    → list_any (grants_role_as a b false) grants.role ≡ true → list_any (grants_role_as a b false) (applied_all changes grants).role ≡ true
stays_granted roles role grantee a b [] grants aside is = is
stays_granted roles role grantee a b (change ∷ changes) grants aside is =
    stays_granted roles role grantee a b changes (applied change grants) aside.1
    (role_stands grants a b false change ∙ one_stays roles role grantee a b change (list_any (grants_role_as a b false) grants.role) aside.0 is)

-- chains
chain_on : (roles : List RoleEntry) (from held role : Name) (path : List Name) → IsChain roles from (path ++ held ∷ []) → IsRoleGranted roles held role → HoldsRole roles from role
chain_on roles from held role [] chain granted = (held ∷ [], (chain.0, (granted, tt)))
chain_on roles from held role (first ∷ path) chain granted = let on = chain_on roles first held role path chain.1 granted in (first ∷ on.0, (chain.0, on.1))

holder_on : (roles : List RoleEntry) (user holder role : Name) → IsHolder roles user holder → IsRoleGranted roles holder role → IsHolder roles user role
holder_on roles user holder role (inl same) granted = inr ([], (subst (λ (n : Name). IsRoleGranted roles n role) same granted, tt))
holder_on roles user holder role (inr (path, chain)) granted = inr (chain_on roles user holder role path chain granted)

more_chain : (roles more : List RoleEntry) → ((a b : Name) → IsRoleGranted roles a b → IsRoleGranted more a b) → (from : Name) (path : List Name) → IsChain roles from path → IsChain more from path
more_chain roles more within from [] chain = tt
more_chain roles more within from (first ∷ path) chain = (within from first chain.0, more_chain roles more within first path chain.1)

-- a way over grants that are aside is shortened to one over the others
shortened : (roles more : List RoleEntry) (role grantee : Name) → ((a b : Name) → IsRoleGranted more a b → IsRoleGranted roles a b ⊎ IsAsideOf roles role grantee a b)
    → (from : Name) (path : List Name) → IsHolder roles role from → IsChain more from (path ++ grantee ∷ []) → IsHolder roles role grantee
shortened roles more role grantee was from [] holds chain = elim (was from grantee chain.0) [
  | inl granted ↦ holder_on roles role from grantee holds granted
  | inr aside ↦ elim aside [
    | inl back ↦ inl back
    | inr on ↦ elim on [
      | inl here ↦ subst (λ (n : Name). IsHolder roles role n) here holds
      | inr lacks ↦ absurd (lacks holds)
    ]
  ]
]
shortened roles more role grantee was from (first ∷ path) holds chain = elim (was from first chain.0) [
  | inl granted ↦ shortened roles more role grantee was first path (holder_on roles role from first holds granted) chain.1
  | inr aside ↦ elim aside [
    | inl back ↦ shortened roles more role grantee was first path (inl back) chain.1
    | inr on ↦ elim on [
      | inl here ↦ subst (λ (n : Name). IsHolder roles role n) here holds
      | inr lacks ↦ absurd (lacks holds)
    ]
  ]
]

-- who the role holds is the same before and after changes that are aside
pub holder_stays : (grants : Grants) (role grantee : Name) (changes : List GrantChange) → ((k : ℕ) (change : GrantChange) → slice_get changes k ≡ Some change → IsAside grants.role role grantee change)
    → IsHolder (applied_all changes grants).role role grantee ↔ IsHolder grants.role role grantee
holder_stays grants role grantee changes each =
    let aside = are_aside grants.role role grantee changes each in
    let more = (applied_all changes grants).role in
    let was : (a b : Name) → IsRoleGranted more a b → IsRoleGranted grants.role a b ⊎ IsAsideOf grants.role role grantee a b =
    λ a b granted. elim (was_granted grants.role role grantee a b changes grants aside (granted_to more a b granted)) [
      | inl before ↦ inl (granted_from grants.role a b before)
      | inr by ↦ inr by
    ] in
    let stays : (a b : Name) → IsRoleGranted grants.role a b → IsRoleGranted more a b =
    λ a b granted. granted_from more a b (stays_granted grants.role role grantee a b changes grants aside (granted_to grants.role a b granted)) in (
      λ after. elim after [
        | inl same ↦ inl same
        | inr holds ↦ shortened grants.role more role grantee was role holds.0 (inl refl) holds.1
      ],
      λ before. elim before [
        | inl same ↦ inl same
        | inr holds ↦ inr (holds.0, more_chain grants.role more stays role (holds.0 ++ grantee ∷ []) holds.1)
      ],
    )
