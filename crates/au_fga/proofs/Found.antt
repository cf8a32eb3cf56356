-- What stands at the place that halving finds is what a search by the table's name finds.
use Rattle.std.proofs.Common.{◌≡◌, ◌≤◌, ◌<◌, ◌∙◌, ℕ, zero, suc, Bool, true, false, cond, inl, inr, List, [], ◌∷◌, length, get_or, map, refl, sym, ap, subst, arith}
use Rattle.std.specs.Prelude.{Option, Some, None}
use Rattle.std.specs.List.{list_all}
use Rattle.std.specs.List.Sorted.{IsPartitionedBy}
use Rattle.std.specs.Str.{bytes_eq}
use Rattle.std.specs.Cmp.Lexicographic.{bytes_decides}
use Rattle.std.proofs.lemmas.Bool.{and_from, and_parts, cases_lt}
use Rattle.au_base.specs.declared.table.TableName.{TableName}
use Rattle.au_base.specs.Order.{fields_before, is_in_order}
use Rattle.au_base.specs.OrderLaws.{fields_irreflexive, fields_transitive}
use Rattle.au_base.specs.Sameness.{same_table}
use Rattle.au_entries.specs.declared.table.Table.{Table}
use Rattle.au_entries.specs.Changing.{table_fields}
use Rattle.au_fga.specs.Testing.{table_of}
use Rattle.au_fga.specs.descent.Rows.{IsTablePlace}

abbrev pub fields_of : Table → List (List ℕ)
fields_of table = table_fields table.name

-- the first table comes before the second
abbrev pub before : Table → Table → Bool
before a b = fields_before (fields_of a) (fields_of b)

all_at : {X : Type 0} (test : X → Bool) (xs : List X) (j : ℕ) (d : X) → list_all test xs ≡ true → j < length xs → test (get_or xs j d) ≡ true
all_at test [] j d all within = absurd (omega arith)
all_at test (x ∷ xs) zero d all within = (and_parts (test x) (list_all test xs) all).0
all_at test (x ∷ xs) (suc j) d all within = all_at test xs j d (and_parts (test x) (list_all test xs) all).1 (omega arith)

order_at : {X : Type 0} (before : X → X → Bool) (xs : List X) (i j : ℕ) (d : X) → is_in_order before xs ≡ true → i < j → j < length xs → before (get_or xs i d) (get_or xs j d) ≡ true
order_at before [] i j d ordered less within = absurd (omega arith)
order_at before (x ∷ xs) i zero d ordered less within = absurd (omega arith)
order_at before (x ∷ xs) zero (suc j) d ordered less within = all_at (before x) xs j d (and_parts (list_all (before x) xs) (is_in_order before xs) ordered).0 (omega arith)
order_at before (x ∷ xs) (suc i) (suc j) d ordered less within = order_at before xs i j d (and_parts (list_all (before x) xs) (is_in_order before xs) ordered).1 (omega arith) (omega arith)

-- what `partition_point` asks
pub parted : (name : TableName) (xs : List Table) → is_in_order before xs ≡ true → IsPartitionedBy (λ x. fields_before (fields_of x) (table_fields name)) xs
parted name xs ordered i j d le within passes = elim (cases_lt i j) [
  | inl less ↦ fields_transitive (fields_of (get_or xs i d)) (fields_of (get_or xs j d)) (table_fields name) (order_at before xs i j d ordered less within) passes
  | inr more ↦ (let same : j ≡ i = omega arith in subst (λ k. fields_before (fields_of (get_or xs k d)) (table_fields name) ≡ true) same passes)
]

-- tables that are the same have the same fields
pub same_fields : (a b : TableName) → same_table a b ≡ true → table_fields a ≡ table_fields b
same_fields a b is =
    let parts = and_parts (bytes_eq a.owner b.owner) (bytes_eq a.name b.name) is in
    let owner : a.owner ≡ b.owner = (bytes_decides a.owner b.owner).0 parts.0 in
    let name : a.name ≡ b.name = (bytes_decides a.name b.name).0 parts.1 in
    cc

-- a table that comes before the name has another
not_same : (table : Table) (name : TableName) (t : Bool) → same_table table.name name ≡ t → fields_before (fields_of table) (table_fields name) ≡ true → t ≡ false
not_same table name false is less = refl
not_same table name true is less =
    let e : true ≡ false = sym less ∙ ap (λ (x : List (List ℕ)). fields_before x (table_fields name)) (same_fields table.name name is) ∙ fields_irreflexive (table_fields name) in
    absurd (cc)

-- a table behind one that doesn't come before the name has another
behind_other : (first later : Table) (name : TableName) (t : Bool) → same_table later.name name ≡ t → fields_before (fields_of first) (table_fields name) ≡ false → before first later ≡ true → t ≡ false
behind_other first later name false is not_before less = refl
behind_other first later name true is not_before less =
    let e : true ≡ false = sym less ∙ ap (λ (x : List (List ℕ)). fields_before (fields_of first) x) (same_fields later.name name is) ∙ not_before in
    absurd (cc)

find_none : (name : TableName) (first : Table) (xs : List Table) → fields_before (fields_of first) (table_fields name) ≡ false → list_all (before first) xs ≡ true → table_of xs name ≡ None
find_none name first [] not_before all = refl
find_none name first (x ∷ xs) not_before all =
    let parts = and_parts (before first x) (list_all (before first) xs) all in
    ap (λ (b : Bool). cond b (Some x) (table_of xs name)) (behind_other first x name (same_table x.name name) refl not_before parts.0)
    ∙ find_none name first xs not_before parts.1

shifted : (name : TableName) (x : Table) (xs : List Table) (k : ℕ) → IsTablePlace name (x ∷ xs) (suc k) → IsTablePlace name xs k
shifted name x xs k place = (λ i d low high. place.0 (suc i) d (omega arith) (omega arith), λ i d low high. place.1 (suc i) d (omega arith) (omega arith))

passed : (name : TableName) (x : Table) (xs : List Table) → fields_before (fields_of x) (table_fields name) ≡ true → table_of (x ∷ xs) name ≡ table_of xs name
passed name x xs less = ap (λ (b : Bool). cond b (Some x) (table_of xs name)) (not_same x name (same_table x.name name) refl less)

-- the table at the place has the name, and is the one that is found
pub found_at : (name : TableName) (xs : List Table) (k : ℕ) (d e : Table) → IsTablePlace name xs k → k < length xs → same_table (get_or xs k d).name name ≡ true → table_of xs name ≡ Some (get_or xs k e)
found_at name [] k d e place within same = absurd (omega arith)
found_at name (x ∷ xs) zero d e place within same = ap (λ (b : Bool). cond b (Some x) (table_of xs name)) same
found_at name (x ∷ xs) (suc k) d e place within same = passed name x xs (place.0 zero d (omega arith) (omega arith)) ∙ found_at name xs k d e (shifted name x xs k place) (omega arith) same

-- where it has another name, none is found
pub missed_at : (name : TableName) (xs : List Table) (k : ℕ) (d : Table) → is_in_order before xs ≡ true → IsTablePlace name xs k → k < length xs → same_table (get_or xs k d).name name ≡ false → table_of xs name ≡ None
missed_at name [] k d ordered place within other = absurd (omega arith)
missed_at name (x ∷ xs) zero d ordered place within other =
    let parts = and_parts (list_all (before x) xs) (is_in_order before xs) ordered in
    ap (λ (b : Bool). cond b (Some x) (table_of xs name)) other ∙ find_none name x xs (place.1 zero d (omega arith) (omega arith)) parts.0
missed_at name (x ∷ xs) (suc k) d ordered place within other =
    let parts = and_parts (list_all (before x) xs) (is_in_order before xs) ordered in
    passed name x xs (place.0 zero d (omega arith) (omega arith)) ∙ missed_at name xs k d parts.1 (shifted name x xs k place) (omega arith) other

-- nor where all tables come before it
pub missed_past : (name : TableName) (xs : List Table) (k : ℕ) → IsTablePlace name xs k → length xs ≤ k → table_of xs name ≡ None
missed_past name [] k place end = refl
missed_past name (x ∷ xs) zero place end = absurd (omega arith)
missed_past name (x ∷ xs) (suc k) place end = passed name x xs (place.0 zero x (omega arith) (omega arith)) ∙ missed_past name xs k (shifted name x xs k place) (omega arith)

-- tables stand in order where their fields do
firsts : (x : Table) (xs : List Table) → list_all (fields_before (fields_of x)) (map fields_of xs) ≡ true → list_all (before x) xs ≡ true
firsts x [] all = refl
firsts x (y ∷ xs) all =
    let parts = and_parts (before x y) (list_all (fields_before (fields_of x)) (map fields_of xs)) all in
    and_from (before x y) (list_all (before x) xs) parts.0 (firsts x xs parts.1)

pub by_fields : (xs : List Table) → is_in_order fields_before (map fields_of xs) ≡ true → is_in_order before xs ≡ true
by_fields [] ordered = refl
by_fields (x ∷ xs) ordered =
    let parts = and_parts (list_all (fields_before (fields_of x)) (map fields_of xs)) (is_in_order fields_before (map fields_of xs)) ordered in
    and_from (list_all (before x) xs) (is_in_order before xs) (firsts x xs parts.0) (by_fields xs parts.1)

-- tables that are the same are one
pub same_name : (a b : TableName) → same_table a b ≡ true → a ≡ b
same_name a b is =
    let parts = and_parts (bytes_eq a.owner b.owner) (bytes_eq a.name b.name) is in
    let owner : a.owner ≡ b.owner = (bytes_decides a.owner b.owner).0 parts.0 in
    let name : a.name ≡ b.name = (bytes_decides a.name b.name).0 parts.1 in
    λ i. record { owner = owner i; name = name i }

pub found_alike : (tables : List Table) (a b : TableName) → same_table a b ≡ true → table_of tables a ≡ table_of tables b
found_alike tables a b is = ap (table_of tables) (same_name a b is)
