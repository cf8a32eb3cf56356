-- What can be written of an entry can be written with another admin option, and where names of it are gone.
use Rattle.std.proofs.Common.{◌≡◌, ◌∙◌, ℕ, ◌≤◌, ◌<◌, ◌^◌, Bool, true, false, not, cond, if◌then◌else◌, List, [], ◌∷◌, length, map, sym, ap, arith}
use Rattle.std.specs.Prelude.{◌==◌, nat_le}
use Rattle.std.specs.Cmp.Lexicographic.{nat_list_eq_equiv}
use Rattle.std.specs.List.{AllByRecursion, IsDistinct, filter, list_any}
use Rattle.std.specs.Set.{distinct_count}
use Rattle.std.specs.Str.{bytes_eq}
use Rattle.std.proofs.lemmas.Bool.{and_from, and_parts}
use Rattle.std.proofs.lemmas.Bool.Decides.{nat_tests}
use Rattle.std.proofs.lemmas.List.{map-id}
use Rattle.std.proofs.lemmas.List.Sums.{count_by-le-length, length-filter}
use Rattle.std.proofs.lemmas.Map.Made.{IsDistinct-from_count, distinct_count-from_IsDistinct}
use Rattle.au_base.specs.declared.privilege.Privilege.{Privilege}
use Rattle.au_entries.specs.declared.policy.Enabled.{Enabled}
use Rattle.au_entries.specs.declared.policy.Enabled.TheVariants.{Off, By, Except}
use Rattle.au_entries.specs.declared.policy.Outcomes.{Outcomes}
use Rattle.au_base.specs.Order.{placed}
use Rattle.au_entries.specs.Changing.{without_user}
use Rattle.au_entries.specs.Enabling.{for_users}
use Rattle.au_entries.specs.Imaging.{enablement_change, role_grant_change, system_change}
use Rattle.au_grants.specs.Changing.{with_admin, with_grant, without}
use Rattle.rec_codec.specs.Changes.{IsChangeSpellable, IsEnabledSpellable, enabled, enablement, role_grant, system_grant, users}
use Rattle.rec_parts.specs.Parts.{name, names, outcomes, truth}
use Rattle.rec_parts.specs.Spelling.{is_without_repeats, pair}
use Rattle.au_kept.proofs.Lists.{all_kept, all_made, all_mapped, all_placed, all_unmapped}

-- ---- names that differ

kept_distinct_at : {X : Type 0} (f : X → List ℕ) (x : X) (ys : List X) (b : Bool) → AllByRecursion (λ y. bytes_eq (f x) y ≡ false) (map f ys) → IsDistinct bytes_eq (map f ys)
    → IsDistinct bytes_eq (map f (cond b (x ∷ ys) ys))
unfolding IsDistinct
kept_distinct_at f x ys true first more = (first, more)
kept_distinct_at f x ys false first more = more

kept_distinct : {X : Type 0} (f : X → List ℕ) (test : X → Bool) (xs : List X) → IsDistinct bytes_eq (map f xs) → IsDistinct bytes_eq (map f (filter test xs))
unfolding IsDistinct
kept_distinct f test [] all = tt
kept_distinct {X} f test (x ∷ xs) all =
    kept_distinct_at f x (filter test xs) (test x)
    (all_mapped (λ y. bytes_eq (f x) y ≡ false) f (filter test xs)
    (all_kept (λ (y : X). bytes_eq (f x) (f y) ≡ false) test xs (all_unmapped (λ y. bytes_eq (f x) y ≡ false) f xs all.0)))
    (kept_distinct f test xs all.1)

same_number : (m n : ℕ) → m ≡ n → (m == n) ≡ true
same_number m n same = grind (arith, nat_tests)

number_same : (m n : ℕ) → (m == n) ≡ true → m ≡ n
number_same m n same = grind (arith, nat_tests)

-- a filter repeats no name that wasn't repeated
kept_once : {X : Type 0} (f : X → List ℕ) (test : X → Bool) (xs : List X) → is_without_repeats bytes_eq (map f xs) ≡ true → is_without_repeats bytes_eq (map f (filter test xs)) ≡ true
kept_once f test xs once =
    same_number (distinct_count bytes_eq (map f (filter test xs))) (length (map f (filter test xs)))
    (distinct_count-from_IsDistinct nat_list_eq_equiv (map f (filter test xs))
    (kept_distinct f test xs (IsDistinct-from_count nat_list_eq_equiv (map f xs) (number_same (distinct_count bytes_eq (map f xs)) (length (map f xs)) once))))

-- a filter keeps no more than there are
fewer : {X : Type 0} (test : X → Bool) (xs : List X) → length (filter test xs) ≤ length xs
fewer test xs = let one = length-filter test xs in let two = count_by-le-length test xs in omega arith

-- ---- enablements

kept_names : (test : List ℕ → Bool) (ns : List (List ℕ)) → names.IsSpellable ns → names.IsSpellable (filter test ns)
unfolding names
kept_names test ns h =
    let few = fewer test ns in
    let count = h.0.0 in (
      (omega arith, all_kept name.IsSpellable test ns h.0.1),
      ap (is_without_repeats bytes_eq) (sym (map-id (filter test ns))) ∙ kept_once (λ (n : List ℕ). n) test ns (ap (is_without_repeats bytes_eq) (map-id ns) ∙ h.1),
    )

abbrev Listed : Type 0
Listed = List ℕ × Outcomes

at_least_one : (u : Listed) (us : List Listed) → nat_le 1 (length (u ∷ us)) ≡ true
at_least_one u us = grind (arith, nat_tests)

for_some : (us : List Listed) → length us < 256 ^ 2 → AllByRecursion (pair name outcomes).IsSpellable us → is_without_repeats bytes_eq (map (λ (u : Listed). u.0) us) ≡ true → IsEnabledSpellable (for_users us)
unfolding users
for_some [] few each once = tt
for_some (u ∷ us) few each once = ((few, each), and_from (nat_le 1 (length (u ∷ us))) _ (at_least_one u us) once)

user_left : (user : List ℕ) (e : Enabled) → IsEnabledSpellable e → IsEnabledSpellable (without_user user e)
unfolding users
user_left user Off h = tt
user_left user (By us) h =
    let few = fewer (λ (u : Listed). not (bytes_eq u.0 user)) us in
    let count = h.0.0 in
    let tests = and_parts (nat_le 1 (length us)) (is_without_repeats bytes_eq (map (λ (u : Listed). u.0) us)) h.1 in
    for_some (without (λ (u : Listed). bytes_eq u.0 user) us) (omega arith)
    (all_kept (pair name outcomes).IsSpellable (λ (u : Listed). not (bytes_eq u.0 user)) us h.0.1)
    (kept_once (λ (u : Listed). u.0) (λ (u : Listed). not (bytes_eq u.0 user)) us tests.1)
user_left user (Except ns o) h = (h.0, kept_names (λ other. not (bytes_eq other user)) ns h.1)

pub without_left : (user : List ℕ) (entry : List ℕ × Enabled) → IsChangeSpellable (enablement_change entry) → IsChangeSpellable (enablement_change (entry.0, without_user user entry.1))
unfolding enablement enabled
without_left user entry h = (h.0, user_left user entry.1 h.1)

-- ---- grants

admin_at : {X Y : Type 0} (P : X × Y × Bool → Type 0) → ((x : X) (y : Y) (a b : Bool) → P (x, y, a) → P (x, y, b)) → (admin : Bool) (entry : X × Y × Bool) (b : Bool) → P entry → P (if b then (entry.0, entry.1, admin) else entry)
admin_at P any admin entry true here = any entry.0 entry.1 entry.2 admin here
admin_at P any admin entry false here = here

granted_at : {X Y : Type 0} (P : X × Y × Bool → Type 0) → ((x : X) (y : Y) (a b : Bool) → P (x, y, a) → P (x, y, b))
    → (before : X × Y × Bool → X × Y × Bool → Bool) (test : X × Y × Bool → Bool) (grant : X × Y × Bool) (entries : List (X × Y × Bool)) (b : Bool) → P grant → AllByRecursion P entries
    → AllByRecursion P (if b then map (with_admin test grant.2) entries else placed before grant entries)
granted_at P any before test grant entries true here all = all_made P P (with_admin test grant.2) (λ x p. admin_at P any grant.2 x (test x) p) entries all
granted_at P any before test grant entries false here all = all_placed P before grant entries here all

-- what holds of a grant whatever its admin option, and of those that are there, holds of all with it
pub all_granted : {X Y : Type 0} (P : X × Y × Bool → Type 0) → ((x : X) (y : Y) (a b : Bool) → P (x, y, a) → P (x, y, b))
    → (before : X × Y × Bool → X × Y × Bool → Bool) (test : X × Y × Bool → Bool) (grant : X × Y × Bool) (entries : List (X × Y × Bool)) → P grant → AllByRecursion P entries
    → AllByRecursion P (with_grant before test grant entries)
all_granted P any before test grant entries here all = granted_at P any before test grant entries (list_any test entries) here all

pub any_system : (grantee : List ℕ) (privilege : Privilege) (a b : Bool) → IsChangeSpellable (system_change (grantee, privilege, a)) → IsChangeSpellable (system_change (grantee, privilege, b))
unfolding system_grant truth
any_system grantee privilege a b h = (h.0, (h.1.0, tt))

pub any_role : (grantee role : List ℕ) (a b : Bool) → IsChangeSpellable (role_grant_change (grantee, role, a)) → IsChangeSpellable (role_grant_change (grantee, role, b))
unfolding role_grant truth
any_role grantee role a b h = (h.0, (h.1.0, tt))
