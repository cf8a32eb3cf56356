-- The policy at the place that halving finds is the one that may have the name.
use Rattle.std.proofs.Common.{◌≡◌, ◌≤◌, ◌<◌, ◌∙◌, ℕ, zero, suc, Bool, true, false, ◌&&◌, ◌||◌, inl, inr, List, [], ◌∷◌, length, get_or, map, refl, sym, ap, subst, arith}
use Rattle.std.specs.List.{list_all}
use Rattle.std.specs.List.Sorted.{IsPartitionedBy, IsPartitionPoint}
use Rattle.std.specs.Str.{bytes_eq}
use Rattle.std.specs.Cmp.Lexicographic.{bytes_decides}
use Rattle.std.proofs.lemmas.Bool.{and_from, and_parts, cases_lt}
use Rattle.au_audit.specs.Conditions.{is_evaluated_per}
use Rattle.au_base.specs.Order.{is_in_order, name_before}
use Rattle.au_base.specs.OrderLaws.{names_irreflexive, names_transitive}
use Rattle.au_entries.specs.declared.policy.AuditPolicy.{AuditPolicy}
use Rattle.au_entries.specs.declared.policy.Evaluate.{Evaluate}
use Rattle.au_recording.proofs.Members.{before_later}
use Rattle.au_recording.specs.Keeping.{ArePoliciesOrdered, is_named_so, is_of}

-- the first policy's name comes before the second's
abbrev before : AuditPolicy → AuditPolicy → Bool
before a b = name_before a.name b.name

-- the place behind the policies whose names come before this one
abbrev IsPlace : List ℕ → List AuditPolicy → ℕ → Type 0
IsPlace name policies place = IsPartitionPoint (λ (policy : AuditPolicy). name_before policy.name name ≡ true) (λ (policy : AuditPolicy). name_before policy.name name ≡ false) policies place

firsts : (policy : AuditPolicy) (policies : List AuditPolicy) → list_all (name_before policy.name) (map (λ (other : AuditPolicy). other.name) policies) ≡ true → list_all (before policy) policies ≡ true
firsts policy [] all = refl
firsts policy (other ∷ policies) all =
    let parts = and_parts (name_before policy.name other.name) (list_all (name_before policy.name) (map (λ (other : AuditPolicy). other.name) policies)) all in
    and_from (before policy other) (list_all (before policy) policies) parts.0 (firsts policy policies parts.1)

-- policies stand in order where their names do
ordered_by : (policies : List AuditPolicy) → ArePoliciesOrdered policies → is_in_order before policies ≡ true
ordered_by [] ordered = refl
ordered_by (policy ∷ policies) ordered =
    let parts = and_parts (list_all (name_before policy.name) (map (λ (other : AuditPolicy). other.name) policies)) (is_in_order name_before (map (λ (other : AuditPolicy). other.name) policies)) ordered in
    and_from (list_all (before policy) policies) (is_in_order before policies) (firsts policy policies parts.0) (ordered_by policies parts.1)

-- what `partition_point` asks
pub parted_policies : (name : List ℕ) (policies : List AuditPolicy) → ArePoliciesOrdered policies → IsPartitionedBy (λ (policy : AuditPolicy). name_before policy.name name) policies
parted_policies name policies ordered i j d le within passes = elim (cases_lt i j) [
  | inl less ↦ names_transitive (get_or policies i d).name (get_or policies j d).name name (before_later before policies i j d (ordered_by policies ordered) less within) passes
  | inr more ↦ (let same : j ≡ i = omega arith in subst (λ k. name_before (get_or policies k d).name name ≡ true) same passes)
]

-- a name that comes before another is another
not_same : (a b : List ℕ) (t : Bool) → bytes_eq a b ≡ t → name_before a b ≡ true → t ≡ false
not_same a b false is less = refl
not_same a b true is less =
    let same : a ≡ b = (bytes_decides a b).0 is in
    let e : true ≡ false = sym less ∙ ap (λ (x : List ℕ). name_before x b) same ∙ names_irreflexive b in
    absurd (cc)

-- what comes behind a name that doesn't come before this one has another name
behind_other : (first later name : List ℕ) (t : Bool) → bytes_eq later name ≡ t → name_before first name ≡ false → name_before first later ≡ true → t ≡ false
behind_other first later name false is not_before less = refl
behind_other first later name true is not_before less =
    let same : later ≡ name = (bytes_decides later name).0 is in
    let e : true ≡ false = sym less ∙ ap (λ (x : List ℕ). name_before first x) same ∙ not_before in
    absurd (cc)

other_name : (evaluate : Evaluate) (name : List ℕ) (policy : AuditPolicy) → bytes_eq policy.name name ≡ false → is_named_so evaluate name policy ≡ false
other_name evaluate name policy other = ap (λ (b : Bool). b && is_evaluated_per evaluate policy.when) other

or_none : (b : Bool) → (b || false) ≡ b
or_none true = refl
or_none false = refl

none_behind : (evaluate : Evaluate) (name first : List ℕ) (policies : List AuditPolicy) → name_before first name ≡ false → list_all (λ (policy : AuditPolicy). name_before first policy.name) policies ≡ true
    → is_of evaluate policies name ≡ false
none_behind evaluate name first [] not_before all = refl
none_behind evaluate name first (policy ∷ policies) not_before all =
    let parts = and_parts (name_before first policy.name) (list_all (λ (policy : AuditPolicy). name_before first policy.name) policies) all in
    let other = behind_other first policy.name name (bytes_eq policy.name name) refl not_before parts.0 in
    ap (λ (b : Bool). b || is_of evaluate policies name) (other_name evaluate name policy other) ∙ none_behind evaluate name first policies not_before parts.1

shifted : (name : List ℕ) (policy : AuditPolicy) (policies : List AuditPolicy) (k : ℕ) → IsPlace name (policy ∷ policies) (suc k) → IsPlace name policies k
shifted name policy policies k place = (λ i d low high. place.0 (suc i) d (omega arith) (omega arith), λ i d low high. place.1 (suc i) d (omega arith) (omega arith))

passed : (evaluate : Evaluate) (name : List ℕ) (policy : AuditPolicy) (policies : List AuditPolicy) → name_before policy.name name ≡ true → is_of evaluate (policy ∷ policies) name ≡ is_of evaluate policies name
passed evaluate name policy policies less =
    ap (λ (b : Bool). b || is_of evaluate policies name) (other_name evaluate name policy (not_same policy.name name (bytes_eq policy.name name) refl less))

stands : (evaluate : Evaluate) (name : List ℕ) (policies : List AuditPolicy) (k : ℕ) (d : AuditPolicy) → is_in_order before policies ≡ true → IsPlace name policies k → k < length policies
    → is_of evaluate policies name ≡ is_named_so evaluate name (get_or policies k d)
stands evaluate name [] k d ordered place within = absurd (omega arith)
stands evaluate name (policy ∷ policies) zero d ordered place within =
    let parts = and_parts (list_all (before policy) policies) (is_in_order before policies) ordered in
    ap (λ (b : Bool). is_named_so evaluate name policy || b) (none_behind evaluate name policy.name policies (place.1 zero d (omega arith) (omega arith)) parts.0) ∙ or_none (is_named_so evaluate name policy)
stands evaluate name (policy ∷ policies) (suc k) d ordered place within =
    let parts = and_parts (list_all (before policy) policies) (is_in_order before policies) ordered in
    passed evaluate name policy policies (place.0 zero d (omega arith) (omega arith)) ∙ stands evaluate name policies k d parts.1 (shifted name policy policies k place) (omega arith)

-- the condition of the policy of this name is evaluated so exactly where that of the policy at the place is, and it has the name
pub stands_at : (evaluate : Evaluate) (name : List ℕ) (policies : List AuditPolicy) (k : ℕ) (d : AuditPolicy) → ArePoliciesOrdered policies → IsPlace name policies k → k < length policies
    → is_of evaluate policies name ≡ is_named_so evaluate name (get_or policies k d)
stands_at evaluate name policies k d ordered place within = stands evaluate name policies k d (ordered_by policies ordered) place within

-- none is where all names come before this one
pub none_past : (evaluate : Evaluate) (name : List ℕ) (policies : List AuditPolicy) (k : ℕ) → IsPlace name policies k → length policies ≤ k → is_of evaluate policies name ≡ false
none_past evaluate name [] k place end = refl
none_past evaluate name (policy ∷ policies) zero place end = absurd (omega arith)
none_past evaluate name (policy ∷ policies) (suc k) place end =
    passed evaluate name policy policies (place.0 zero policy (omega arith) (omega arith)) ∙ none_past evaluate name policies k (shifted name policy policies k place) (omega arith)
