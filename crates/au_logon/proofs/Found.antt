-- The user at the place that halving finds is the one who may have the name.
use Rattle.std.proofs.Common.{◌≡◌, ◌≤◌, ◌<◌, ◌∙◌, ℕ, zero, suc, Bool, true, false, ◌&&◌, ◌||◌, inl, inr, List, [], ◌∷◌, length, get_or, map, refl, sym, ap, subst, arith}
use Rattle.std.specs.List.{list_all}
use Rattle.std.specs.List.Sorted.{IsPartitionedBy, IsPartitionPoint}
use Rattle.std.specs.Str.{bytes_eq}
use Rattle.std.specs.Cmp.Lexicographic.{bytes_decides}
use Rattle.std.proofs.lemmas.Bool.{and_from, and_parts, cases_lt}
use Rattle.au_base.specs.Order.{is_in_order, name_before}
use Rattle.au_base.specs.OrderLaws.{names_irreflexive, names_transitive}
use Rattle.au_logon.specs.Admitting.{User, has_verifier, is_with}

-- the first user's name comes before the second's
abbrev before : User → User → Bool
before a b = name_before a.0 b.0

abbrev AreOrdered : List User → Type 0
AreOrdered users = is_in_order name_before (map (λ (user : User). user.0) users) ≡ true

-- the place behind the users whose names come before this one
abbrev IsPlace : List ℕ → List User → ℕ → Type 0
IsPlace name users place = IsPartitionPoint (λ (user : User). name_before user.0 name ≡ true) (λ (user : User). name_before user.0 name ≡ false) users place

firsts : (user : User) (users : List User) → list_all (name_before user.0) (map (λ (other : User). other.0) users) ≡ true → list_all (before user) users ≡ true
firsts user [] all = refl
firsts user (other ∷ users) all =
    let parts = and_parts (name_before user.0 other.0) (list_all (name_before user.0) (map (λ (other : User). other.0) users)) all in
    and_from (before user other) (list_all (before user) users) parts.0 (firsts user users parts.1)

-- users stand in order where their names do
ordered_by : (users : List User) → AreOrdered users → is_in_order before users ≡ true
ordered_by [] ordered = refl
ordered_by (user ∷ users) ordered =
    let parts = and_parts (list_all (name_before user.0) (map (λ (other : User). other.0) users)) (is_in_order name_before (map (λ (other : User). other.0) users)) ordered in
    and_from (list_all (before user) users) (is_in_order before users) (firsts user users parts.0) (ordered_by users parts.1)

all_at : (test : User → Bool) (users : List User) (j : ℕ) (d : User) → list_all test users ≡ true → j < length users → test (get_or users j d) ≡ true
all_at test [] j d all within = absurd (omega arith)
all_at test (user ∷ users) zero d all within = (and_parts (test user) (list_all test users) all).0
all_at test (user ∷ users) (suc j) d all within = all_at test users j d (and_parts (test user) (list_all test users) all).1 (omega arith)

order_at : (users : List User) (i j : ℕ) (d : User) → is_in_order before users ≡ true → i < j → j < length users → before (get_or users i d) (get_or users j d) ≡ true
order_at [] i j d ordered less within = absurd (omega arith)
order_at (user ∷ users) i zero d ordered less within = absurd (omega arith)
order_at (user ∷ users) zero (suc j) d ordered less within = all_at (before user) users j d (and_parts (list_all (before user) users) (is_in_order before users) ordered).0 (omega arith)
order_at (user ∷ users) (suc i) (suc j) d ordered less within = order_at users i j d (and_parts (list_all (before user) users) (is_in_order before users) ordered).1 (omega arith) (omega arith)

-- what `partition_point` asks
pub parted : (name : List ℕ) (users : List User) → AreOrdered users → IsPartitionedBy (λ (user : User). name_before user.0 name) users
parted name users ordered i j d le within passes = elim (cases_lt i j) [
  | inl less ↦ names_transitive (get_or users i d).0 (get_or users j d).0 name (order_at users i j d (ordered_by users ordered) less within) passes
  | inr more ↦ (let same : j ≡ i = omega arith in subst (λ k. name_before (get_or users k d).0 name ≡ true) same passes)
]

-- a name that comes before another is another
not_same : (a b : List ℕ) (t : Bool) → bytes_eq a b ≡ t → name_before a b ≡ true → t ≡ false
not_same a b false is less = refl
not_same a b true is less =
    let same : a ≡ b = (bytes_decides a b).0 is in
    let e : true ≡ false = sym less ∙ ap (λ (x : List ℕ). name_before x b) same ∙ names_irreflexive b in
    absurd (cc)

-- what comes behind a name that doesn't come before this one has another name
behind_other : (first later name : List ℕ) (t : Bool) → bytes_eq later name ≡ t → name_before first name ≡ false → name_before first later ≡ true → t ≡ false
behind_other first later name false is not_before less = refl
behind_other first later name true is not_before less =
    let same : later ≡ name = (bytes_decides later name).0 is in
    let e : true ≡ false = sym less ∙ ap (λ (x : List ℕ). name_before first x) same ∙ not_before in
    absurd (cc)

other_name : (name verifier : List ℕ) (user : User) → bytes_eq user.0 name ≡ false → is_with name verifier user ≡ false
other_name name verifier user other = ap (λ (b : Bool). b && bytes_eq user.1 verifier) other

or_none : (b : Bool) → (b || false) ≡ b
or_none true = refl
or_none false = refl

none_behind : (name verifier first : List ℕ) (users : List User) → name_before first name ≡ false → list_all (λ (user : User). name_before first user.0) users ≡ true → has_verifier users name verifier ≡ false
none_behind name verifier first [] not_before all = refl
none_behind name verifier first (user ∷ users) not_before all =
    let parts = and_parts (name_before first user.0) (list_all (λ (user : User). name_before first user.0) users) all in
    let other = behind_other first user.0 name (bytes_eq user.0 name) refl not_before parts.0 in
    ap (λ (b : Bool). b || has_verifier users name verifier) (other_name name verifier user other) ∙ none_behind name verifier first users not_before parts.1

shifted : (name : List ℕ) (user : User) (users : List User) (k : ℕ) → IsPlace name (user ∷ users) (suc k) → IsPlace name users k
shifted name user users k place = (λ i d low high. place.0 (suc i) d (omega arith) (omega arith), λ i d low high. place.1 (suc i) d (omega arith) (omega arith))

passed : (name verifier : List ℕ) (user : User) (users : List User) → name_before user.0 name ≡ true → has_verifier (user ∷ users) name verifier ≡ has_verifier users name verifier
passed name verifier user users less =
    ap (λ (b : Bool). b || has_verifier users name verifier) (other_name name verifier user (not_same user.0 name (bytes_eq user.0 name) refl less))

stands : (name verifier : List ℕ) (users : List User) (k : ℕ) (d : User) → is_in_order before users ≡ true → IsPlace name users k → k < length users
    → has_verifier users name verifier ≡ is_with name verifier (get_or users k d)
stands name verifier [] k d ordered place within = absurd (omega arith)
stands name verifier (user ∷ users) zero d ordered place within =
    let parts = and_parts (list_all (before user) users) (is_in_order before users) ordered in
    ap (λ (b : Bool). is_with name verifier user || b) (none_behind name verifier user.0 users (place.1 zero d (omega arith) (omega arith)) parts.0) ∙ or_none (is_with name verifier user)
stands name verifier (user ∷ users) (suc k) d ordered place within =
    let parts = and_parts (list_all (before user) users) (is_in_order before users) ordered in
    passed name verifier user users (place.0 zero d (omega arith) (omega arith)) ∙ stands name verifier users k d parts.1 (shifted name user users k place) (omega arith)

-- some user has the name and the verifier exactly where the one at the place does
pub stands_at : (name verifier : List ℕ) (users : List User) (k : ℕ) (d : User) → AreOrdered users → IsPlace name users k → k < length users
    → has_verifier users name verifier ≡ is_with name verifier (get_or users k d)
stands_at name verifier users k d ordered place within = stands name verifier users k d (ordered_by users ordered) place within

-- none does where all names come before this one
pub none_past : (name verifier : List ℕ) (users : List User) (k : ℕ) → IsPlace name users k → length users ≤ k → has_verifier users name verifier ≡ false
none_past name verifier [] k place end = refl
none_past name verifier (user ∷ users) zero place end = absurd (omega arith)
none_past name verifier (user ∷ users) (suc k) place end =
    passed name verifier user users (place.0 zero user (omega arith) (omega arith)) ∙ none_past name verifier users k (shifted name user users k place) (omega arith)
