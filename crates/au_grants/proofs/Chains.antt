-- Chains of role grants.
use Rattle.std.proofs.Common.{inl, inr, List, [], ◌∷◌, ◌++◌, ◌↔◌, refl, sym, subst}
use Rattle.au_grants.specs.Rights.{Name, RoleEntry, IsRoleGranted, IsChain, HoldsRole, IsHolder}

pub direct : (roles : List RoleEntry) (user role : Name) → IsRoleGranted roles user role → HoldsRole roles user role
direct roles user role granted = ([], (granted, tt))

pub behind : (roles : List RoleEntry) (user role held : Name) → IsRoleGranted roles user role → HoldsRole roles role held → HoldsRole roles user held
behind roles user role held granted (path, chain) = (role ∷ path, (granted, chain))

pub holder_behind : (roles : List RoleEntry) (user role holder : Name) → IsRoleGranted roles user role → IsHolder roles role holder → HoldsRole roles user holder
holder_behind roles user role holder granted is = elim is [
  | inl same ↦ subst (λ (name : Name). HoldsRole roles user name) (sym same) (direct roles user role granted)
  | inr holds ↦ behind roles user role holder granted holds
]

chain_then : (roles : List RoleEntry) (user held role : Name) (path : List Name) → IsChain roles user (path ++ held ∷ []) → IsRoleGranted roles held role → HoldsRole roles user role
chain_then roles user held role [] chain granted = (held ∷ [], (chain.0, (granted, tt)))
chain_then roles user held role (first ∷ path) chain granted = behind roles user first role chain.0 (chain_then roles first held role path chain.1 granted)

pub then : (roles : List RoleEntry) (user held role : Name) → HoldsRole roles user held → IsRoleGranted roles held role → HoldsRole roles user role
then roles user held role (path, chain) granted = chain_then roles user held role path chain granted

pub holder_then : (roles : List RoleEntry) (user holder role : Name) → IsHolder roles user holder → IsRoleGranted roles holder role → HoldsRole roles user role
holder_then roles user holder role is granted = elim is [
  | inl same ↦ direct roles user role (subst (λ (name : Name). IsRoleGranted roles name role) same granted)
  | inr holds ↦ then roles user holder role holds granted
]

chain_last : (roles : List RoleEntry) (user role : Name) (path : List Name) → IsChain roles user (path ++ role ∷ []) → (holder : Name) × IsHolder roles user holder × IsRoleGranted roles holder role
chain_last roles user role [] chain = (user, inl refl, chain.0)
chain_last roles user role (first ∷ path) chain =
    let last = chain_last roles first role path chain.1 in
    (last.0, inr (holder_behind roles user first last.0 chain.0 last.1), last.2)

-- who grants the last role of the chain
pub last : (roles : List RoleEntry) (user role : Name) → HoldsRole roles user role → (holder : Name) × IsHolder roles user holder × IsRoleGranted roles holder role
last roles user role (path, chain) = chain_last roles user role path chain

chain_joined : (roles : List RoleEntry) (user held role : Name) (path : List Name) → IsChain roles user (path ++ held ∷ []) → HoldsRole roles held role → HoldsRole roles user role
chain_joined roles user held role [] chain more = behind roles user held role chain.0 more
chain_joined roles user held role (first ∷ path) chain more = behind roles user first role chain.0 (chain_joined roles first held role path chain.1 more)

-- two chains after one another
pub joined : (roles : List RoleEntry) (user held role : Name) → HoldsRole roles user held → HoldsRole roles held role → HoldsRole roles user role
joined roles user held role (path, chain) more = chain_joined roles user held role path chain more

-- the role is granted to the user or to a held role exactly where a chain leads to it
pub held : (roles : List RoleEntry) (user role : Name) → ((holder : Name) × IsHolder roles user holder × IsRoleGranted roles holder role) ↔ HoldsRole roles user role
held roles user role = (λ has. holder_then roles user has.0 role has.1 has.2, λ holds. last roles user role holds)
