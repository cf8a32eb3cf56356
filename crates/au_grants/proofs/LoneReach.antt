-- What a search finds for a user whose roles hold none.
use Rattle.std.proofs.Common.{◌≡◌, ◌≤◌, ◌<◌, ◌∙◌, ◌+◌, ℕ, zero, suc, Bool, true, false, not, inl, inr, List, [], ◌∷◌, refl, sym, ap, subst, arith}
use Rattle.std.specs.List.{list_any}
use Rattle.std.specs.Str.{bytes_eq}
use Rattle.std.proofs.lemmas.Bool.{cases_lt}
use Rattle.au_grants.specs.Changing.{role_to}
use Rattle.au_grants.specs.Rights.{IsRoleGranted, Name, RoleEntry}
use Rattle.au_grants.specs.descent.Search.{IsFirstGrant, IsReach, grantee_at, queued_at, role_at}
use Rattle.au_grants.proofs.Entries.{same_name-is}
use Rattle.au_grants.proofs.Holders.{holds_none}
use Rattle.au_grants.proofs.Reached.{granted_at}

only_queued : (place k : ℕ) → k < 1 → queued_at (place ∷ []) k ≡ place
only_queued place zero less = refl
only_queued place (suc k) less = absurd (omega (arith, less))

-- it is the first grant to the user alone
pub lone_reach : (roles : List RoleEntry) (user : Name) (place : ℕ) → IsFirstGrant roles place → grantee_at roles place ≡ user
    → ((role : Name) → IsRoleGranted roles (grantee_at roles place) role → list_any (role_to role) roles ≡ false) → IsReach roles user (place ∷ []) 1
lone_reach roles user place first is none = record {
  within = omega arith;
  first = λ k less. subst (λ p. IsFirstGrant roles p) (sym (only_queued place k less)) first;
  held = λ k less. inl (ap (grantee_at roles) (only_queued place k less) ∙ is);
  start = λ i within same. (0, omega arith, is);
  closed = λ k role less granted i within same.
      absurd (holds_none roles role (role_at roles i) (none role (subst (λ p. IsRoleGranted roles (grantee_at roles p) role) (only_queued place k less) granted))
      ([], (subst (λ (n : Name). IsRoleGranted roles n (role_at roles i)) same (granted_at roles i within), tt)));
}

-- no role of one more of the user's grants is a grantee
pub none_so_far : (roles : List RoleEntry) (place at : ℕ) → ((i : ℕ) → place ≤ i → i < at → list_any (role_to (role_at roles i)) roles ≡ false) → list_any (role_to (role_at roles at)) roles ≡ false
    → (i : ℕ) → place ≤ i → i < at + 1 → list_any (role_to (role_at roles i)) roles ≡ false
none_so_far roles place at none last i from to = elim (cases_lt i at) [
  | inl before ↦ none i from before
  | inr after ↦ (let same : at ≡ i = omega (arith, to, after) in subst (λ j. list_any (role_to (role_at roles j)) roles ≡ false) same last)
]

same_at : (a b : Name) (same : Bool) → bytes_eq a b ≡ same → not same ≡ false → a ≡ b
same_at a b true is told = same_name-is a b is
same_at a b false is told = absurd (let e : true ≡ false = told in cc)

-- two names that aren't told apart are the same
pub told_same : (a b c d : Name) (r : Bool) → r ≡ not (bytes_eq a b) → r ≡ false → a ≡ c → b ≡ d → c ≡ d
told_same a b c d r is told one two = sym one ∙ same_at a b (bytes_eq a b) refl (sym is ∙ told) ∙ two
