-- The names of policies that demand a record stand in order.
use Rattle.std.proofs.Common.{◌≡◌, ◌≢◌, ◌≤◌, ◌+◌, ◌∙◌, ℕ, Bool, true, false, not, cond, if◌then◌else◌, ◌⊎◌, inl, inr, List, [], ◌∷◌, ◌++◌, map, length, refl, sym, ap, subst, arith}
use Rattle.std.specs.Prelude.{IsTrue}
use Rattle.std.specs.List.{AllByRecursion, Contains, filter}
use Rattle.std.specs.declared.cmp.Ordering.{Ordering}
use Rattle.std.specs.declared.cmp.Ordering.TheVariants.{Less, Equal, Greater}
use Rattle.std.specs.Ordering.{is_eq, is_gt, is_lt, nat_cmp}
use Rattle.std.specs.Cmp.Lexicographic.{bytes_decides, slice_cmp, texts_ties}
use Rattle.std.proofs.lemmas.List.{length-append, length-map}
use Rattle.au_base.specs.BuiltIn.{ora_mandatory}
use Rattle.au_base.specs.Order.{is_in_order, name_before}
use Rattle.au_entries.specs.declared.facts.Facts.{Facts}
use Rattle.au_entries.specs.declared.policy.AuditPolicy.{AuditPolicy}
use Rattle.au_entries.specs.declared.policy.Enabled.{Enabled}
use Rattle.au_entries.specs.Changing.{by_name}
use Rattle.au_entries.specs.Demand.{demanded, demanding, demands, is_mandatory, placed}
use Rattle.au_entries.proofs.AllOf.{all_kept, all_weaker, both, mapped, passes}
use Rattle.au_entries.proofs.Members.{kept, mapped as mapped_from, mapped_to, placed_cases}
use Rattle.au_entries.proofs.Ordered.{kept_by_name, names_total, roles_back, roles_rise}
use Rattle.au_entries.proofs.Rising.{Rises, before_joined, joined_rises, kept_rises, turned}
use Rattle.au_grants.specs.declared.grants.Grants.{Grants}

-- a name that is another one and doesn't come before it comes behind it
behind_at : (entry name : List ℕ) (o : Ordering) → by_name name entry ≡ o → name ≢ entry → not (name_before name entry) ≡ true → name_before entry name ≡ true
behind_at entry name Less is other first = absurd (let e : false ≡ true = sym (ap (λ o. not (is_lt o)) is) ∙ first in cc)
behind_at entry name Equal is other first = absurd (other ((bytes_decides name entry).0 (texts_ties name entry ∙ ap is_eq is)))
behind_at entry name Greater is other first = turned by_name names_total name entry (ap is_gt is)

behind : (entry name : List ℕ) → (name ≢ entry) × (not (name_before name entry) ≡ true) → name_before entry name ≡ true
behind entry name h = behind_at entry name (by_name name entry) refl h.0 h.1

-- names in order stay so with another one among them
placed_rises : (entry : List ℕ) (names : List (List ℕ)) → AllByRecursion (λ name. name ≢ entry) names → Rises by_name (λ (name : List ℕ). name) names
    → Rises by_name (λ (name : List ℕ). name) (placed entry names)
placed_rises entry names apart up =
    let key : List ℕ → List ℕ = λ name. name in
    let front = filter (λ other. name_before other entry) names in
    let rest = filter (λ other. not (name_before other entry)) names in
    let first : AllByRecursion (λ (x : List ℕ). name_before x entry ≡ true) front = passes (λ other. name_before other entry) names in
    let last : AllByRecursion (λ (y : List ℕ). name_before entry y ≡ true) rest =
    all_weaker (λ y. (y ≢ entry) × (not (name_before y entry) ≡ true)) (λ y. name_before entry y ≡ true) (behind entry) rest
    (both (λ (y : List ℕ). y ≢ entry) (λ y. not (name_before y entry) ≡ true) rest (all_kept (λ (y : List ℕ). y ≢ entry) _ names apart) (passes (λ other. not (name_before other entry)) names)) in
    joined_rises by_name key front (entry ∷ rest)
    (kept_rises by_name key (λ other. name_before other entry) names up)
    (last, kept_rises by_name key (λ other. not (name_before other entry)) names up)
    (all_weaker (λ x. name_before x entry ≡ true) (λ x. AllByRecursion (λ y. name_before x y ≡ true) (entry ∷ rest))
    (λ x h. (h, all_weaker (λ y. name_before entry y ≡ true) (λ y. name_before x y ≡ true) (λ y g. before_joined by_name names_total x entry y h g) rest last)) front first)

demanded_at : (names : List (List ℕ)) (mandatory : Bool) → AllByRecursion (λ name. name ≢ ora_mandatory) names → IsTrue (is_in_order name_before names)
    → IsTrue (is_in_order name_before (if mandatory then placed ora_mandatory names else names))
demanded_at names true apart ordered = roles_back _ (placed_rises ora_mandatory names apart (roles_rise names ordered))
demanded_at names false apart ordered = ordered

pub demanded_ordered : (when : AuditPolicy → Bool) (grants : Grants) (enabled : List (List ℕ × Enabled)) (policies : List AuditPolicy) (facts : Facts)
    → IsTrue (is_in_order name_before (map (λ policy. policy.name) policies)) → AllByRecursion (λ policy. policy.name ≢ ora_mandatory) policies
    → IsTrue (is_in_order name_before (demanded when grants enabled policies facts))
demanded_ordered when grants enabled policies facts ordered apart =
    let test = demands when grants enabled facts in
    demanded_at (demanding when grants enabled policies facts) (is_mandatory facts.action)
    (mapped (λ (name : List ℕ). name ≢ ora_mandatory) (λ (policy : AuditPolicy). policy.name) (filter test policies) (all_kept (λ (policy : AuditPolicy). policy.name ≢ ora_mandatory) test policies apart))
    (kept_by_name (λ (policy : AuditPolicy). policy.name) test policies ordered)

-- ---- how many they are, and which

filter_few_at : {X : Type 0} (x : X) (kept xs : List X) (b : Bool) → length kept ≤ length xs → length (cond b (x ∷ kept) kept) ≤ length (x ∷ xs)
filter_few_at x kept xs true few = omega arith
filter_few_at x kept xs false few = omega arith

filter_few : {X : Type 0} (test : X → Bool) (xs : List X) → length (filter test xs) ≤ length xs
filter_few test [] = omega arith
filter_few test (x ∷ xs) = filter_few_at x (filter test xs) xs (test x) (filter_few test xs)

parted_at : {X : Type 0} (x : X) (front behind xs : List X) (b : Bool) → length front + length behind ≡ length xs → length (cond b (x ∷ front) front) + length (cond (not b) (x ∷ behind) behind) ≡ length (x ∷ xs)
parted_at x front behind xs true same = omega arith
parted_at x front behind xs false same = omega arith

parted : {X : Type 0} (test : X → Bool) (xs : List X) → length (filter test xs) + length (filter (λ x. not (test x)) xs) ≡ length xs
parted test [] = refl
parted test (x ∷ xs) = parted_at x (filter test xs) (filter (λ x. not (test x)) xs) xs (test x) (parted test xs)

placed_length : (entry : List ℕ) (names : List (List ℕ)) → length (placed entry names) ≡ length names + 1
placed_length entry names =
    let both_parts = parted (λ other. name_before other entry) names in
    let joined = length-append (filter (λ other. name_before other entry) names) (entry ∷ filter (λ other. not (name_before other entry)) names) in
    omega arith

few_at : (names : List (List ℕ)) (most : ℕ) (mandatory : Bool) → length names ≤ most → length (if mandatory then placed ora_mandatory names else names) ≤ most + 1
few_at names most true few = (let more = placed_length ora_mandatory names in omega arith)
few_at names most false few = omega arith

pub demanded_few : (when : AuditPolicy → Bool) (grants : Grants) (enabled : List (List ℕ × Enabled)) (policies : List AuditPolicy) (facts : Facts) → length (demanded when grants enabled policies facts) ≤ length policies + 1
demanded_few when grants enabled policies facts =
    let test = demands when grants enabled facts in
    let few = filter_few test policies in
    let same = length-map (filter test policies) (λ (policy : AuditPolicy). policy.name) in
    few_at (demanding when grants enabled policies facts) (length policies) (is_mandatory facts.action) (omega arith)

demanding_from : (test : AuditPolicy → Bool) (policies : List AuditPolicy) (name : List ℕ) → Contains (map (λ (policy : AuditPolicy). policy.name) (filter test policies)) name
    → Contains (map (λ (policy : AuditPolicy). policy.name) policies) name
demanding_from test policies name has =
    let found = mapped_from (λ (policy : AuditPolicy). policy.name) (filter test policies) name has in
    subst (Contains (map (λ (policy : AuditPolicy). policy.name) policies)) found.2 (mapped_to (λ (policy : AuditPolicy). policy.name) policies found.0 (kept test policies found.0 found.1))

from_at : (names all : List (List ℕ)) (mandatory : Bool) (name : List ℕ) → (Contains names name → Contains all name) → Contains (if mandatory then placed ora_mandatory names else names) name
    → (ora_mandatory ≡ name) ⊎ Contains all name
from_at names all true name from has = elim (placed_cases name_before ora_mandatory names name has) [
  | inl same ↦ inl same
  | inr there ↦ inr (from there)
]
from_at names all false name from has = inr (from has)

pub demanded_from : (when : AuditPolicy → Bool) (grants : Grants) (enabled : List (List ℕ × Enabled)) (policies : List AuditPolicy) (facts : Facts) (name : List ℕ)
    → Contains (demanded when grants enabled policies facts) name → (ora_mandatory ≡ name) ⊎ Contains (map (λ (policy : AuditPolicy). policy.name) policies) name
demanded_from when grants enabled policies facts name has =
    from_at (demanding when grants enabled policies facts) (map (λ (policy : AuditPolicy). policy.name) policies) (is_mandatory facts.action) name (demanding_from (demands when grants enabled facts) policies name) has
