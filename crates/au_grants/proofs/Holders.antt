-- What a search through the queued grants of roles says of who holds a right.
use Rattle.std.proofs.Common.{◌≡◌, ◌≤◌, ◌<◌, ◌+◌, ◌⊎◌, ℕ, Bool, true, false, inl, inr, List, [], ◌∷◌, ◌++◌, length, get_or, refl, sym, ap, subst, ◌∙◌, arith}
use Rattle.std.specs.List.{Contains, list_any}
use Rattle.std.proofs.lemmas.Bool.{cases_lt}
use Rattle.au_grants.specs.Changing.{role_to}
use Rattle.au_grants.specs.Holding.{Holds}
use Rattle.au_grants.specs.descent.Direct.{IsGranted}
use Rattle.au_grants.specs.declared.right.Sought.{Sought}
use Rattle.au_grants.specs.declared.right.Sought.TheVariants.{Role, RoleWithAdmin, Privilege as SystemPrivilege, PrivilegeWithAdmin, AnyTable, Object, SomeObject}
use Rattle.au_grants.specs.Rights.{Grants, Name, RoleEntry, IsRoleGranted, IsChain, IsHolder, HoldsRole}
use Rattle.au_grants.specs.descent.Search.{EndAt, IsFirstGrant, IsFirstOf, IsGivenAt, IsGivenBehind, IsGivenByRole, IsReach, admin_at, grantee_at, queued_at, right_at, role_at}
use Rattle.au_grants.proofs.Chains.{holder_then, last}
use Rattle.au_grants.proofs.Entries.{same_name-refl}
use Rattle.au_grants.proofs.Halving.{read_back, same_read}
use Rattle.au_grants.proofs.Members.{any_to}
use Rattle.au_grants.proofs.Reached.{held_queued, holder_queued}

-- false isn't true
pub not_both : (b : Bool) → b ≡ false → b ≡ true → ⊥
not_both b fails passes = (let e : false ≡ true = sym fails ∙ passes in cc)

no_role : (roles : List RoleEntry) (user first : Name) → list_any (role_to user) roles ≡ false → IsRoleGranted roles user first → ⊥
no_role roles user first none (admin, has) = not_both _ none (any_to (role_to user) roles (user, first, admin) has (same_name-refl user))

no_chain : (roles : List RoleEntry) (user role : Name) (path : List Name) → list_any (role_to user) roles ≡ false → IsChain roles user (path ++ role ∷ []) → ⊥
no_chain roles user role [] none chain = no_role roles user role none chain.0
no_chain roles user role (first ∷ path) none chain = no_role roles user first none chain.0

-- who is granted no role holds none
pub holds_none : (roles : List RoleEntry) (user role : Name) → list_any (role_to user) roles ≡ false → HoldsRole roles user role → ⊥
holds_none roles user role none (path, chain) = no_chain roles user role path none chain

-- one more place is gone over
pub none_more : (P : ℕ → Type 0) (from at : ℕ) → ((i : ℕ) → from ≤ i → i < at → ¬ P i) → ¬ P at → (i : ℕ) → from ≤ i → i < at + 1 → ¬ P i
none_more P from at none last i low high = elim (cases_lt i at) [
  | inl before ↦ none i low before
  | inr after ↦ (let same : at ≡ i = omega (arith, high, after) in subst (λ j. ¬ P j) same last)
]

-- the role is granted to none that is queued
pub held_nowhere : (roles : List RoleEntry) (user : Name) (queue : List ℕ) (count : ℕ) (role : Name) → IsReach roles user queue count
    → ((k : ℕ) → 0 ≤ k → k < count → ¬ IsRoleGranted roles (grantee_at roles (queued_at queue k)) role) → HoldsRole roles user role → ⊥
held_nowhere roles user queue count role reach none holds =
    let found = held_queued roles user queue count role reach holds in none found.0 (omega arith) found.1 found.2

-- the first of several numbers

pub no_first : (P : ℕ → Type 0) (limit : ℕ) → ((j : ℕ) → j < limit → ¬ P j) → IsFirstOf P limit limit
no_first P limit none = record { within = omega arith; none = none; found = λ less. absurd (omega (arith, less)) }

pub first_here : (P : ℕ → Type 0) (limit j : ℕ) → j < limit → ((i : ℕ) → i < j → ¬ P i) → P j → IsFirstOf P limit j
first_here P limit j less none holds = record { within = omega (arith, less); none = none; found = λ _. holds }

-- of what is so in one of two ways, the first is looked for before the first of the one way
pub narrowed : (P Q R : ℕ → Type 0) (limit first next : ℕ) → ((j : ℕ) → P j → R j) → ((j : ℕ) → Q j → R j) → ((j : ℕ) → R j → P j ⊎ Q j)
    → IsFirstOf P limit first → IsFirstOf Q first next → IsFirstOf R limit next
narrowed P Q R limit first next left right parts one two = record {
  within = (let a = one.within in let b = two.within in omega (arith, a, b));
  none = λ j less holds. elim (parts j holds) [
    | inl p ↦ one.none j (let b = two.within in omega (arith, less, b)) p
    | inr q ↦ two.none j less q
  ];
  found = λ less. elim (cases_lt next first) [
    | inl before ↦ right next (two.found before)
    | inr after ↦ (let b = two.within in let same : first ≡ next = omega (arith, after, b) in left next (subst (λ k. P k) same (one.found (omega (arith, less, same)))))
  ];
}

pub same_first : (P Q : ℕ → Type 0) (limit first : ℕ) → ((j : ℕ) → P j → Q j) → ((j : ℕ) → Q j → P j) → IsFirstOf P limit first → IsFirstOf Q limit first
same_first P Q limit first to from is = record { within = is.within; none = λ j less holds. is.none j less (from j holds); found = λ less. to first (is.found less) }

-- the right is granted to the user or given by a grant of a role

entry_at : (grants : Grants) (at : ℕ) (name : Name) → at < length grants.role → role_at grants.role at ≡ name → Contains grants.role (grantee_at grants.role at, name, admin_at grants.role at)
entry_at grants at name within is = subst (λ (n : Name). Contains grants.role (grantee_at grants.role at, n, admin_at grants.role at)) is (read_back grants.role at ([], [], false) within)

contains_at : (grants : Grants) (at : ℕ) (name : Name) → at < length grants.role → role_at grants.role at ≡ name → IsRoleGranted grants.role (grantee_at grants.role at) name
contains_at grants at name within is = (admin_at grants.role at, entry_at grants at name within is)

-- the role of a grant to a holder is held
role_held : (grants : Grants) (user : Name) (at : ℕ) → at < length grants.role → IsHolder grants.role user (grantee_at grants.role at) → HoldsRole grants.role user (role_at grants.role at)
role_held grants user at within is = holder_then grants.role user (grantee_at grants.role at) (role_at grants.role at) is (contains_at grants at (role_at grants.role at) within refl)

given_holds : (grants : Grants) (user : Name) (right : Sought) → IsGivenByRole grants user right → Holds grants user right
given_holds grants user (Role role) (at, within, is, same) = holder_then grants.role user (grantee_at grants.role at) role.now is (contains_at grants at role.now within same)
given_holds grants user (RoleWithAdmin role) (at, within, is, (same, admin)) =
    (grantee_at grants.role at, is, subst (λ (b : Bool). Contains grants.role (grantee_at grants.role at, role.now, b)) admin (entry_at grants at role.now within same))
given_holds grants user (SystemPrivilege privilege) (at, within, is, granted) = (role_at grants.role at, inr (role_held grants user at within is), granted)
given_holds grants user (PrivilegeWithAdmin privilege) (at, within, is, granted) = (role_at grants.role at, inr (role_held grants user at within is), granted)
given_holds grants user AnyTable (at, within, is, (privilege, admin, any, has)) = (privilege, any, (role_at grants.role at, inr (role_held grants user at within is), (admin, has)))
given_holds grants user (Object table action) (at, within, is, granted) = (role_at grants.role at, inr (role_held grants user at within is), granted)
given_holds grants user (SomeObject table) (at, within, is, (action, has)) = (action, (role_at grants.role at, inr (role_held grants user at within is), has))

direct_holds : (grants : Grants) (user : Name) (right : Sought) → IsGranted grants user right → Holds grants user right
direct_holds grants user (Role role) granted = holder_then grants.role user user role.now (inl refl) granted
direct_holds grants user (RoleWithAdmin role) granted = (user, inl refl, granted)
direct_holds grants user (SystemPrivilege privilege) granted = (user, inl refl, granted)
direct_holds grants user (PrivilegeWithAdmin privilege) granted = (user, inl refl, granted)
direct_holds grants user AnyTable (privilege, admin, any, has) = (privilege, any, (user, inl refl, (admin, has)))
direct_holds grants user (Object table action) granted = (user, inl refl, granted)
direct_holds grants user (SomeObject table) (action, has) = (action, (user, inl refl, has))

-- a grant that stands in the list, by the place where it stands
role_read : (grants : Grants) (i : ℕ) (holder role : Name) (admin : Bool) → i < length grants.role → get_or grants.role i (holder, role, admin) ≡ (holder, role, admin) → get_or grants.role i ([], [], false) ≡ (holder, role, admin)
role_read grants i holder role admin within is = same_read grants.role i ([], [], false) (holder, role, admin) within ∙ is

-- what is granted to a holder is granted to the user, or to the role of a grant to a holder
from_holder : (grants : Grants) (user holder : Name) (P : Name → Type 0) → IsHolder grants.role user holder → P holder
    → P user ⊎ ((at : ℕ) × (at < length grants.role) × IsHolder grants.role user (grantee_at grants.role at) × P (role_at grants.role at))
from_holder grants user holder P is has = elim is [
  | inl same ↦ inl (subst (λ (n : Name). P n) same has)
  | inr holds ↦ (let (giver, is_giver, (admin, (i, within, read))) = last grants.role user holder holds in
      let entry : get_or grants.role i ([], [], false) ≡ (giver, holder, admin) = role_read grants i giver holder admin within read in
      inr (
        i,
        within,
        subst (λ (n : Name). IsHolder grants.role user n) (sym (ap (λ (e : RoleEntry). e.0) entry)) is_giver,
        subst (λ (n : Name). P n) (sym (ap (λ (e : RoleEntry). e.1) entry)) has,
      ))
]

holds_parts : (grants : Grants) (user : Name) (right : Sought) → Holds grants user right → IsGranted grants user right ⊎ IsGivenByRole grants user right
holds_parts grants user (Role role) holds =
    let (giver, is_giver, (admin, (i, within, read))) = last grants.role user role.now holds in
    let entry : get_or grants.role i ([], [], false) ≡ (giver, role.now, admin) = role_read grants i giver role.now admin within read in
    inr (i, within, subst (λ (n : Name). IsHolder grants.role user n) (sym (ap (λ (e : RoleEntry). e.0) entry)) is_giver, ap (λ (e : RoleEntry). e.1) entry)
holds_parts grants user (RoleWithAdmin role) (giver, is_giver, (i, within, read)) =
    let entry : get_or grants.role i ([], [], false) ≡ (giver, role.now, true) = role_read grants i giver role.now true within read in
    inr (i, within, subst (λ (n : Name). IsHolder grants.role user n) (sym (ap (λ (e : RoleEntry). e.0) entry)) is_giver, (ap (λ (e : RoleEntry). e.1) entry, ap (λ (e : RoleEntry). e.2) entry))
holds_parts grants user (SystemPrivilege privilege) (holder, is, has) = from_holder grants user holder (λ n. IsGranted grants n (SystemPrivilege privilege)) is has
holds_parts grants user (PrivilegeWithAdmin privilege) (holder, is, has) = from_holder grants user holder (λ n. IsGranted grants n (PrivilegeWithAdmin privilege)) is has
holds_parts grants user AnyTable (privilege, any, (holder, is, (admin, has))) = from_holder grants user holder (λ n. IsGranted grants n AnyTable) is (privilege, admin, any, has)
holds_parts grants user (Object table action) (holder, is, has) = from_holder grants user holder (λ n. IsGranted grants n (Object table action)) is has
holds_parts grants user (SomeObject table) (action, (holder, is, has)) = from_holder grants user holder (λ n. IsGranted grants n (SomeObject table)) is (action, has)

-- the first of the rights is the first of those granted directly, or one before it that a role gives
pub first_of_both : (grants : Grants) (user : Name) (rights : List Sought) (limit direct first : ℕ)
    → IsFirstOf (λ j. IsGranted grants user (right_at rights j)) limit direct → IsFirstOf (λ j. IsGivenByRole grants user (right_at rights j)) direct first
    → IsFirstOf (λ j. Holds grants user (right_at rights j)) limit first
first_of_both grants user rights limit direct first one two =
    narrowed (λ j. IsGranted grants user (right_at rights j)) (λ j. IsGivenByRole grants user (right_at rights j)) (λ j. Holds grants user (right_at rights j)) limit direct first
    (λ j granted. direct_holds grants user (right_at rights j) granted) (λ j given. given_holds grants user (right_at rights j) given) (λ j holds. holds_parts grants user (right_at rights j) holds) one two

-- who is granted no role is given nothing by one
pub given_none : (grants : Grants) (user : Name) (right : Sought) → list_any (role_to user) grants.role ≡ false → IsGivenByRole grants user right → ⊥
given_none grants user right none (at, within, is, given) =
    holds_none grants.role user (role_at grants.role at) none (role_held grants user at within is)

-- a grant between the place and the other gives the right
abbrev pub IsGivenBetween : Grants → ℕ → ℕ → Sought → Type 0
IsGivenBetween grants place end right = (i : ℕ) × (place ≤ i) × (i < end) × IsGivenAt grants i right

pub given_so_far : (grants : Grants) (rights : List Sought) (place at limit first next : ℕ) → place ≤ at
    → IsFirstOf (λ j. IsGivenBetween grants place at (right_at rights j)) limit first → IsFirstOf (λ j. IsGivenAt grants at (right_at rights j)) first next
    → IsFirstOf (λ j. IsGivenBetween grants place (at + 1) (right_at rights j)) limit next
given_so_far grants rights place at limit first next from one two =
    narrowed (λ j. IsGivenBetween grants place at (right_at rights j)) (λ j. IsGivenAt grants at (right_at rights j)) (λ j. IsGivenBetween grants place (at + 1) (right_at rights j)) limit first next
    (λ j (i, low, high, given). (i, low, omega (arith, high), given))
    (λ j given. (at, from, omega arith, given))
    (λ j (i, low, high, given). elim (cases_lt i at) [
      | inl before ↦ inl (i, low, before, given)
      | inr after ↦ (let same : i ≡ at = omega (arith, high, after) in inr (subst (λ k. IsGivenAt grants k (right_at rights j)) same given))
    ])
    one two

-- the grants to the grantee are those from its first one up to the end
pub given_to_end : (grants : Grants) (roles : List RoleEntry) (rights : List Sought) (place end at limit first : ℕ) → roles ≡ grants.role → IsFirstGrant grants.role place → EndAt roles place end → end ≤ at → at ≤ end
    → IsFirstOf (λ j. IsGivenBetween grants place at (right_at rights j)) limit first → IsFirstOf (λ j. IsGivenBehind grants place (right_at rights j)) limit first
given_to_end grants roles rights place end at limit first lent is_first lent_ends low_end high_end is =
    let ends : EndAt grants.role place end = subst (λ (rs : List RoleEntry). EndAt rs place end) lent lent_ends in
    same_first (λ j. IsGivenBetween grants place at (right_at rights j)) (λ j. IsGivenBehind grants place (right_at rights j)) limit first
    (λ j (i, low, high, given). (i, (let le = ends.within in omega (arith, high, high_end, le)), ends.same i low (omega (arith, high, high_end)), given))
    (λ j (i, within, same, given). (
      i,
      elim (cases_lt i place) [
        | inl before ↦ absurd (is_first.1 i before same)
        | inr after ↦ after
      ],
      elim (cases_lt i end) [
        | inl before ↦ omega (arith, before, low_end)
        | inr after ↦ absurd (ends.others i after within same)
      ],
      given,
    ))
    is

-- a grant to one of the first that are queued gives the right
abbrev pub IsGivenToQueued : Grants → List ℕ → ℕ → Sought → Type 0
IsGivenToQueued grants queue count right = (k : ℕ) × (k < count) × IsGivenBehind grants (queued_at queue k) right

pub queued_so_far : (grants : Grants) (queue : List ℕ) (rights : List Sought) (k limit first next : ℕ)
    → IsFirstOf (λ j. IsGivenToQueued grants queue k (right_at rights j)) limit first → IsFirstOf (λ j. IsGivenBehind grants (queued_at queue k) (right_at rights j)) first next
    → IsFirstOf (λ j. IsGivenToQueued grants queue (k + 1) (right_at rights j)) limit next
queued_so_far grants queue rights k limit first next one two =
    narrowed (λ j. IsGivenToQueued grants queue k (right_at rights j)) (λ j. IsGivenBehind grants (queued_at queue k) (right_at rights j)) (λ j. IsGivenToQueued grants queue (k + 1) (right_at rights j)) limit first next
    (λ j (i, less, given). (i, omega (arith, less), given))
    (λ j given. (k, omega arith, given))
    (λ j (i, less, given). elim (cases_lt i k) [
      | inl before ↦ inl (i, before, given)
      | inr after ↦ (let same : i ≡ k = omega (arith, less, after) in inr (subst (λ n. IsGivenBehind grants (queued_at queue n) (right_at rights j)) same given))
    ])
    one two

queued_role : (grants : Grants) (user : Name) (queue : List ℕ) (count : ℕ) (right : Sought) → IsReach grants.role user queue count → IsGivenToQueued grants queue count right → IsGivenByRole grants user right
queued_role grants user queue count right reach (k, less, (at, within, same, given)) =
    (at, within, subst (λ (n : Name). IsHolder grants.role user n) (sym same) (reach.held k less), given)

role_queued : (grants : Grants) (user : Name) (queue : List ℕ) (count : ℕ) (right : Sought) → IsReach grants.role user queue count → IsGivenByRole grants user right → IsGivenToQueued grants queue count right
role_queued grants user queue count right reach (at, within, is, given) =
    let found = holder_queued grants.role user queue count (grantee_at grants.role at) reach is at within refl in
    (found.0, found.1, (at, within, sym found.2, given))

-- what is queued at the end of the search is what the user holds
pub queued_all : (grants : Grants) (user : Name) (queue : List ℕ) (rights : List Sought) (count at limit first : ℕ) → IsReach grants.role user queue count → count ≤ at → at ≤ count
    → IsFirstOf (λ j. IsGivenToQueued grants queue at (right_at rights j)) limit first → IsFirstOf (λ j. IsGivenByRole grants user (right_at rights j)) limit first
queued_all grants user queue rights count at limit first reach low high is =
    let same : at ≡ count = omega (arith, low, high) in
    same_first (λ j. IsGivenToQueued grants queue at (right_at rights j)) (λ j. IsGivenByRole grants user (right_at rights j)) limit first
    (λ j given. queued_role grants user queue count (right_at rights j) reach (subst (λ n. IsGivenToQueued grants queue n (right_at rights j)) same given))
    (λ j given. subst (λ n. IsGivenToQueued grants queue n (right_at rights j)) (sym same) (role_queued grants user queue count (right_at rights j) reach given))
    is
