-- The roles of a new store make no circle: both are granted to SYS, who is none of them.
use Rattle.std.proofs.Common.{◌≡◌, ◌≢◌, ◌∙◌, ℕ, zero, suc, ◌⊎◌, true, List, [], ◌∷◌, ◌++◌, length, refl, sym, ap, inl, inr, arith}
use Rattle.std.specs.List.{Contains}
use Rattle.au_base.specs.BuiltIn.{sys, audit_admin, audit_viewer}
use Rattle.au_grants.specs.Rights.{HasNoCircle, IsChain, IsRoleGranted, RoleEntry}
use Rattle.au_opening.specs.Opening.{opening_role_grants}

first_grant : (roles : List RoleEntry) (user role : List ℕ) (path : List (List ℕ)) → IsChain roles user (path ++ role ∷ []) → (next : List ℕ) × IsRoleGranted roles user next
first_grant roles user role [] chain = (role, chain.0)
first_grant roles user role (next ∷ path) chain = (next, chain.0)

-- who grants the last role of a chain
last_grant : (roles : List RoleEntry) (user role : List ℕ) (path : List (List ℕ)) → IsChain roles user (path ++ role ∷ []) → (holder : List ℕ) × IsRoleGranted roles holder role
last_grant roles user role [] chain = (user, chain.0)
last_grant roles user role (next ∷ path) chain = last_grant roles next role path chain.1

not_admin : audit_admin ≢ sys
not_admin same = let sizes = ap length same in omega arith

not_viewer : audit_viewer ≢ sys
not_viewer same = let sizes = ap length same in omega arith

-- an element is the first or of the rest, and there is none of nothing
split : {X : Type 0} (y : X) (xs : List X) (x : X) → Contains (y ∷ xs) x → (y ≡ x) ⊎ Contains xs x
split y xs x (zero, within, is) = inl is
split y xs x (suc k, within, is) = inr (k, omega arith, is)

none : {X : Type 0} (x : X) → Contains {X = X} [] x → ⊥
none x (k, within, is) = omega arith

to_sys : (a b : List ℕ) → IsRoleGranted opening_role_grants a b → a ≡ sys
to_sys a b (admin, has) = elim (split (sys, audit_admin, true) ((sys, audit_viewer, true) ∷ []) (a, b, admin) has) [
  | inl same ↦ ap (λ (e : RoleEntry). e.0) (sym same)
  | inr more ↦ elim (split (sys, audit_viewer, true) [] (a, b, admin) more) [
    | inl same ↦ ap (λ (e : RoleEntry). e.0) (sym same)
    | inr none_more ↦ absurd (none (a, b, admin) none_more)
  ]
]

not_sys : (a b : List ℕ) → IsRoleGranted opening_role_grants a b → b ≢ sys
not_sys a b (admin, has) is = elim (split (sys, audit_admin, true) ((sys, audit_viewer, true) ∷ []) (a, b, admin) has) [
  | inl same ↦ not_admin (ap (λ (e : RoleEntry). e.1) same ∙ is)
  | inr more ↦ elim (split (sys, audit_viewer, true) [] (a, b, admin) more) [
    | inl same ↦ not_viewer (ap (λ (e : RoleEntry). e.1) same ∙ is)
    | inr none_more ↦ absurd (none (a, b, admin) none_more)
  ]
]

pub opening_no_circle : HasNoCircle opening_role_grants
opening_no_circle name holds =
    let to = first_grant opening_role_grants name name holds.0 holds.1 in
    let from = last_grant opening_role_grants name name holds.0 holds.1 in
    not_sys from.0 name from.1 (to_sys name to.0 to.1)
