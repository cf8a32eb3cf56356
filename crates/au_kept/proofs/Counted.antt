-- How many changes an image has.
use Rattle.std.proofs.Common.{◌≡◌, ◌∙◌, ℕ, suc, ◌+◌, ◌*◌, ◌≤◌, ◌<◌, Bool, true, false, not, cond, inl, inr, List, [], ◌∷◌, ◌++◌, length, map, refl, sym, subst, arith}
use Rattle.std.specs.Prelude.{IsTrue, Option, Some, None}
use Rattle.std.specs.List.{AllByRecursion, filter, list_all, list_any}
use Rattle.std.specs.Str.{bytes_eq}
use Rattle.std.proofs.lemmas.Bool.{and_parts, or_cases, or_left, or_right}
use Rattle.std.proofs.lemmas.List.{length-append, length-map}
use Rattle.std.proofs.lemmas.Slice.Eq.{bytes_eq-Decides}
use Rattle.au_base.specs.Limits.{CATALOG_OBJECTS, GRANTS}
use Rattle.au_base.specs.Order.{is_in_order, name_before}
use Rattle.au_base.specs.OrderLaws.{names_irreflexive}
use Rattle.au_base.specs.declared.numbers.Stamp.{Stamp}
use Rattle.au_entries.specs.declared.change.Change.{Change}
use Rattle.au_entries.specs.declared.change.Change.TheVariants.{Start}
use Rattle.au_entries.specs.declared.kept.Kept.{Kept}
use Rattle.au_entries.specs.declared.policy.AuditPolicy.{AuditPolicy}
use Rattle.au_entries.specs.declared.policy.Enabled.{Enabled}
use Rattle.au_entries.specs.Imaging.{archive_changes, enablement_change, fga_change, image_changes, object_change, policy_change, role_change, role_grant_change, row_change, system_change, table_change, user_change}
use Rattle.au_entries.specs.Replaying.{Conditions, has_policy, has_user, named_users}
use Rattle.au_kept.specs.Sound.{IsKept}

-- ---- names in order among others are no more than these

-- the name is among them
abbrev Among : List (List ℕ) → List ℕ → Type 0
Among names name = list_any (λ other. bytes_eq other name) names ≡ true

-- the names but this one
abbrev rest_of : List ℕ → List (List ℕ) → List (List ℕ)
rest_of name names = filter (λ other. not (bytes_eq other name)) names

kept_fewer_at : (n : List ℕ) (ns : List (List ℕ)) (b : Bool) (m : ℕ) → length ns ≤ m → length (cond b (n ∷ ns) ns) ≤ m + 1
kept_fewer_at n ns true m few = omega arith
kept_fewer_at n ns false m few = omega arith

rest_fewer : (name : List ℕ) (names : List (List ℕ)) → length (rest_of name names) ≤ length names
rest_fewer name [] = omega arith
rest_fewer name (n ∷ names) = let step = kept_fewer_at n (rest_of name names) (not (bytes_eq n name)) (length names) (rest_fewer name names) in omega arith

rest_less_at : (name n : List ℕ) (names : List (List ℕ)) (b : Bool) → bytes_eq n name ≡ b → (Among names name → length (rest_of name names) < length names)
    → list_any (λ other. bytes_eq other name) (n ∷ names) ≡ true → length (cond (not b) (n ∷ rest_of name names) (rest_of name names)) < suc (length names)
rest_less_at name n names true is less has = let few = rest_fewer name names in omega arith
rest_less_at name n names false is less has = elim (or_cases (bytes_eq n name) (list_any (λ other. bytes_eq other name) names) has) [
  | inl here ↦ absurd (let e : false ≡ true = sym is ∙ here in cc)
  | inr later ↦ (let l = less later in omega arith)
]

-- without a name that is among them there are fewer
rest_less : (name : List ℕ) (names : List (List ℕ)) → Among names name → length (rest_of name names) < length names
rest_less name [] has = absurd (let e : false ≡ true = has in cc)
rest_less name (n ∷ names) has = rest_less_at name n names (bytes_eq n name) refl (rest_less name names) has

apart : (a b : List ℕ) → name_before a b ≡ true → a ≡ b → ⊥
apart a b before same = let e : false ≡ true = sym (names_irreflexive b) ∙ subst (λ (n : List ℕ). name_before n b ≡ true) same before in cc

stays_at : (name other n : List ℕ) (names : List (List ℕ)) (b : Bool) → bytes_eq n name ≡ b → name_before name other ≡ true → (Among names other → Among (rest_of name names) other)
    → list_any (λ m. bytes_eq m other) (n ∷ names) ≡ true → Among (cond (not b) (n ∷ rest_of name names) (rest_of name names)) other
stays_at name other n names true is before more has = elim (or_cases (bytes_eq n other) (list_any (λ m. bytes_eq m other) names) has) [
  | inl here ↦ absurd (apart name other before (sym ((bytes_eq-Decides n name).0 is) ∙ (bytes_eq-Decides n other).0 here))
  | inr later ↦ more later
]
stays_at name other n names false is before more has = elim (or_cases (bytes_eq n other) (list_any (λ m. bytes_eq m other) names) has) [
  | inl here ↦ or_left (bytes_eq n other) _ here
  | inr later ↦ or_right (bytes_eq n other) _ (more later)
]

-- another name that is among them still is
stays : (name other : List ℕ) (names : List (List ℕ)) → name_before name other ≡ true → Among names other → Among (rest_of name names) other
stays name other [] before has = has
stays name other (n ∷ names) before has = stays_at name other n names (bytes_eq n name) refl before (stays name other names before) has

all_stay : (name : List ℕ) (others names : List (List ℕ)) → list_all (name_before name) others ≡ true → AllByRecursion (Among names) others → AllByRecursion (Among (rest_of name names)) others
all_stay name [] names before all = tt
all_stay name (other ∷ others) names before all =
    let parts = and_parts (name_before name other) (list_all (name_before name) others) before in
    (stays name other names parts.0 all.0, all_stay name others names parts.1 all.1)

no_more : (chosen names : List (List ℕ)) → is_in_order name_before chosen ≡ true → AllByRecursion (Among names) chosen → length chosen ≤ length names
no_more [] names ordered all = omega arith
no_more (name ∷ chosen) names ordered all =
    let parts = and_parts (list_all (name_before name) chosen) (is_in_order name_before chosen) ordered in
    let rest = no_more chosen (rest_of name names) parts.1 (all_stay name chosen names parts.0 all.1) in
    let less = rest_less name names all.0 in
    omega arith

-- ---- the changes of an image

any_mapped : (policies : List AuditPolicy) (name : List ℕ) → list_any (λ (policy : AuditPolicy). bytes_eq policy.name name) policies ≡ true → Among (map (λ (policy : AuditPolicy). policy.name) policies) name
any_mapped [] name has = has
any_mapped (policy ∷ policies) name has = elim (or_cases (bytes_eq policy.name name) (list_any (λ (other : AuditPolicy). bytes_eq other.name name) policies) has) [
  | inl here ↦ or_left (bytes_eq policy.name name) _ here
  | inr later ↦ or_right (bytes_eq policy.name name) _ (any_mapped policies name later)
]

abbrev Entry : Type 0
Entry = List ℕ × Enabled

all_among : (kept : Kept) (entries : List Entry) → AllByRecursion (λ (entry : Entry). IsTrue (has_policy kept entry.0) × IsTrue (list_all (has_user kept) (named_users entry.1))) entries
    → AllByRecursion (Among (map (λ (policy : AuditPolicy). policy.name) kept.policies)) (map (λ (entry : Entry). entry.0) entries)
all_among kept [] all = tt
all_among kept (entry ∷ entries) all = (any_mapped kept.policies entry.0 all.0.0, all_among kept entries all.1)

-- no more policies are enabled than there are
enabled_few : (conditions : Conditions) (kept : Kept) → IsKept conditions kept → length kept.enabled ≤ length kept.policies
enabled_few conditions kept h =
    let few = no_more (map (λ (entry : Entry). entry.0) kept.enabled) (map (λ (policy : AuditPolicy). policy.name) kept.policies) h.lawful.ordered.enabled (all_among kept kept.enabled h.lawful.founded.enabled) in
    let entries = length-map kept.enabled (λ (entry : Entry). entry.0) in
    let policies = length-map kept.policies (λ (policy : AuditPolicy). policy.name) in
    omega arith

counted : {X : Type 0} (f : X → Change) (xs : List X) (rest : List Change) (n : ℕ) → length rest ≤ n → length (map f xs ++ rest) ≤ length xs + n
counted f xs rest n few = let joined = length-append (map f xs) rest in let mapped = length-map xs f in omega arith

archive_few : (archive : Option Stamp) (instance : ℕ) → length (archive_changes archive ++ Start instance ∷ []) ≤ 2
archive_few None instance = omega arith
archive_few (Some stamp) instance = omega arith

pub image_few : (conditions : Conditions) (kept : Kept) → IsKept conditions kept → length (image_changes kept) ≤ length kept.rows + (6 * CATALOG_OBJECTS + GRANTS + 2)
image_few conditions kept h =
    let a = archive_few kept.archive kept.instance in
    let b = counted fga_change kept.fga _ _ a in
    let c = counted enablement_change kept.enabled _ _ b in
    let d = counted policy_change kept.policies _ _ c in
    let e = counted object_change kept.grants.object _ _ d in
    let f = counted row_change kept.rows _ _ e in
    let g = counted table_change kept.tables _ _ f in
    let i = counted role_grant_change kept.grants.role _ _ g in
    let j = counted system_change kept.grants.system _ _ i in
    let k = counted role_change kept.roles _ _ j in
    let l = counted user_change kept.users _ _ k in
    added (length kept.users) (length kept.roles) (length kept.grants.system) (length kept.grants.role) (length kept.tables) (length kept.rows) (length kept.grants.object) (length kept.policies) (length kept.enabled) (length kept.fga)
    (length (image_changes kept)) l h.whole.few.users h.whole.few.roles h.whole.few.tables h.whole.few.policies h.whole.few.fga h.whole.few.grants (enabled_few conditions kept h)
  where
    added : (users roles system role tables rows object policies enabled fga total : ℕ)
        → total ≤ users + (roles + (system + (role + (tables + (rows + (object + (policies + (enabled + (fga + 2)))))))))
        → users ≤ 10_000 → roles ≤ 10_000 → tables ≤ 10_000 → policies ≤ 10_000 → fga ≤ 10_000 → system + role + object ≤ 100_000 → enabled ≤ policies
        → total ≤ rows + 160_002
    added users roles system role tables rows object policies enabled fga total is u r t p f g e = omega arith
