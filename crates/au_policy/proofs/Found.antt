-- What stands at the place that halving finds is what a search by the name finds.
use Rattle.std.proofs.Common.{◌≡◌, ◌≤◌, ◌<◌, ◌∙◌, ℕ, zero, suc, Bool, true, false, cond, inl, inr, List, [], ◌∷◌, length, get_or, map, refl, sym, ap, subst, arith}
use Rattle.std.specs.Prelude.{Some, None, find}
use Rattle.std.specs.List.{list_all}
use Rattle.std.specs.List.Sorted.{IsPartitionedBy, IsPartitionPoint}
use Rattle.std.specs.Str.{bytes_eq}
use Rattle.std.specs.Cmp.Lexicographic.{bytes_decides}
use Rattle.std.proofs.lemmas.Bool.{and_from, and_parts, cases_lt}
use Rattle.au_base.specs.Order.{is_in_order, name_before}
use Rattle.au_base.specs.OrderLaws.{names_irreflexive, names_transitive}

-- the first name comes before the second
abbrev pub before : {V : Type 0} → List ℕ × V → List ℕ × V → Bool
before {V} a b = name_before a.0 b.0

-- the entry has the name
abbrev pub has_name : {V : Type 0} → List ℕ → List ℕ × V → Bool
has_name {V} name entry = bytes_eq entry.0 name

-- the place behind the entries whose names come before this one
abbrev pub IsPlace : {V : Type 0} → List ℕ → List (List ℕ × V) → ℕ → Type 0
IsPlace {V} name entries place = IsPartitionPoint (λ (entry : List ℕ × V). name_before entry.0 name ≡ true) (λ (entry : List ℕ × V). name_before entry.0 name ≡ false) entries place

all_at : {X : Type 0} (test : X → Bool) (xs : List X) (j : ℕ) (d : X) → list_all test xs ≡ true → j < length xs → test (get_or xs j d) ≡ true
all_at test [] j d all within = absurd (omega arith)
all_at test (x ∷ xs) zero d all within = (and_parts (test x) (list_all test xs) all).0
all_at test (x ∷ xs) (suc j) d all within = all_at test xs j d (and_parts (test x) (list_all test xs) all).1 (omega arith)

order_at : {X : Type 0} (before : X → X → Bool) (xs : List X) (i j : ℕ) (d : X) → is_in_order before xs ≡ true → i < j → j < length xs → before (get_or xs i d) (get_or xs j d) ≡ true
order_at before [] i j d ordered less within = absurd (omega arith)
order_at before (x ∷ xs) i zero d ordered less within = absurd (omega arith)
order_at before (x ∷ xs) zero (suc j) d ordered less within = all_at (before x) xs j d (and_parts (list_all (before x) xs) (is_in_order before xs) ordered).0 (omega arith)
order_at before (x ∷ xs) (suc i) (suc j) d ordered less within = order_at before xs i j d (and_parts (list_all (before x) xs) (is_in_order before xs) ordered).1 (omega arith) (omega arith)

-- what `partition_point` asks
pub parted : {V : Type 0} (name : List ℕ) (xs : List (List ℕ × V)) → is_in_order before xs ≡ true → IsPartitionedBy (λ (x : List ℕ × V). name_before x.0 name) xs
parted name xs ordered i j d le within passes = elim (cases_lt i j) [
  | inl less ↦ names_transitive (get_or xs i d).0 (get_or xs j d).0 name (order_at before xs i j d ordered less within) passes
  | inr more ↦ (let same : j ≡ i = omega arith in subst (λ k. name_before (get_or xs k d).0 name ≡ true) same passes)
]

-- a name that comes before another is another
not_same : (a b : List ℕ) (t : Bool) → bytes_eq a b ≡ t → name_before a b ≡ true → t ≡ false
not_same a b false is less = refl
not_same a b true is less =
    let same : a ≡ b = (bytes_decides a b).0 is in
    let e : true ≡ false = sym less ∙ ap (λ (x : List ℕ). name_before x b) same ∙ names_irreflexive b in
    absurd (cc)

-- what comes behind a name that doesn't come before this one has another name
behind_other : (first later name : List ℕ) (t : Bool) → bytes_eq later name ≡ t → name_before first name ≡ false → name_before first later ≡ true → t ≡ false
behind_other first later name false is not_before less = refl
behind_other first later name true is not_before less =
    let same : later ≡ name = (bytes_decides later name).0 is in
    let e : true ≡ false = sym less ∙ ap (λ (x : List ℕ). name_before first x) same ∙ not_before in
    absurd (cc)

find_none : {V : Type 0} (name first : List ℕ) (xs : List (List ℕ × V)) → name_before first name ≡ false → list_all (λ (x : List ℕ × V). name_before first x.0) xs ≡ true → find (has_name name) xs ≡ None
find_none name first [] not_before all = refl
find_none name first (x ∷ xs) not_before all =
    let parts = and_parts (name_before first x.0) (list_all (λ x. name_before first x.0) xs) all in
    ap (λ (b : Bool). cond b (Some x) (find (has_name name) xs)) (behind_other first x.0 name (bytes_eq x.0 name) refl not_before parts.0)
    ∙ find_none name first xs not_before parts.1

shifted : {V : Type 0} (name : List ℕ) (x : List ℕ × V) (xs : List (List ℕ × V)) (k : ℕ) → IsPlace name (x ∷ xs) (suc k) → IsPlace name xs k
shifted name x xs k place = (λ i d low high. place.0 (suc i) d (omega arith) (omega arith), λ i d low high. place.1 (suc i) d (omega arith) (omega arith))

passed : {V : Type 0} (name : List ℕ) (x : List ℕ × V) (xs : List (List ℕ × V)) → name_before x.0 name ≡ true → find (has_name name) (x ∷ xs) ≡ find (has_name name) xs
passed name x xs less = ap (λ (b : Bool). cond b (Some x) (find (has_name name) xs)) (not_same x.0 name (bytes_eq x.0 name) refl less)

-- the entry at the place has the name, and is the one that is found
pub found_at : {V : Type 0} (name : List ℕ) (xs : List (List ℕ × V)) (k : ℕ) (d e : List ℕ × V) → IsPlace name xs k → k < length xs → bytes_eq (get_or xs k d).0 name ≡ true
    → find (has_name name) xs ≡ Some (get_or xs k e)
found_at name [] k d e place within same = absurd (omega arith)
found_at name (x ∷ xs) zero d e place within same = ap (λ (b : Bool). cond b (Some x) (find (has_name name) xs)) same
found_at name (x ∷ xs) (suc k) d e place within same =
    passed name x xs (place.0 zero d (omega arith) (omega arith)) ∙ found_at name xs k d e (shifted name x xs k place) (omega arith) same

-- where it has another name, none is found
pub missed_at : {V : Type 0} (name : List ℕ) (xs : List (List ℕ × V)) (k : ℕ) (d : List ℕ × V) → is_in_order before xs ≡ true → IsPlace name xs k → k < length xs → bytes_eq (get_or xs k d).0 name ≡ false
    → find (has_name name) xs ≡ None
missed_at name [] k d ordered place within other = absurd (omega arith)
missed_at name (x ∷ xs) zero d ordered place within other =
    let parts = and_parts (list_all (before x) xs) (is_in_order before xs) ordered in
    ap (λ (b : Bool). cond b (Some x) (find (has_name name) xs)) other ∙ find_none name x.0 xs (place.1 zero d (omega arith) (omega arith)) parts.0
missed_at name (x ∷ xs) (suc k) d ordered place within other =
    let parts = and_parts (list_all (before x) xs) (is_in_order before xs) ordered in
    passed name x xs (place.0 zero d (omega arith) (omega arith)) ∙ missed_at name xs k d parts.1 (shifted name x xs k place) (omega arith) other

-- nor where all entries come before it
pub missed_past : {V : Type 0} (name : List ℕ) (xs : List (List ℕ × V)) (k : ℕ) → IsPlace name xs k → length xs ≤ k → find (has_name name) xs ≡ None
missed_past name [] k place end = refl
missed_past name (x ∷ xs) zero place end = absurd (omega arith)
missed_past name (x ∷ xs) (suc k) place end =
    passed name x xs (place.0 zero x (omega arith) (omega arith)) ∙ missed_past name xs k (shifted name x xs k place) (omega arith)

-- entries stand in order where their names do
firsts : {V : Type 0} (x : List ℕ × V) (xs : List (List ℕ × V)) → list_all (name_before x.0) (map (λ (entry : List ℕ × V). entry.0) xs) ≡ true → list_all (before x) xs ≡ true
firsts x [] all = refl
firsts x (y ∷ xs) all =
    let parts = and_parts (name_before x.0 y.0) (list_all (name_before x.0) (map (λ entry. entry.0) xs)) all in
    and_from (name_before x.0 y.0) (list_all (before x) xs) parts.0 (firsts x xs parts.1)

pub by_names : {V : Type 0} (xs : List (List ℕ × V)) → is_in_order name_before (map (λ (entry : List ℕ × V). entry.0) xs) ≡ true → is_in_order before xs ≡ true
by_names [] ordered = refl
by_names (x ∷ xs) ordered =
    let parts = and_parts (list_all (name_before x.0) (map (λ entry. entry.0) xs)) (is_in_order name_before (map (λ entry. entry.0) xs)) ordered in
    and_from (list_all (before x) xs) (is_in_order before xs) (firsts x xs parts.0) (by_names xs parts.1)
