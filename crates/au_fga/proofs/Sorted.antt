-- Names that are sorted are the names in the order of their records.
use Rattle.std.proofs.Common.{◌≡◌, ◌≤◌, ◌<◌, ◌+◌, ◌∙◌, ℕ, zero, suc, Bool, true, false, not, cond, List, [], ◌∷◌, ◌++◌, length, get_or, refl, sym, ap, subst, arith}
use Rattle.std.specs.List.{AllByRecursion, filter, list_all, sum_by}
use Rattle.std.specs.List.Sorted.{IsPermutation, IsSortedBy}
use Rattle.std.specs.declared.cmp.Ordering.{Ordering}
use Rattle.std.specs.declared.cmp.Ordering.TheVariants.{Less, Equal, Greater}
use Rattle.std.specs.Ordering.{is_eq, is_lt, nat_cmp, ordering_reverse}
use Rattle.std.specs.Cmp.{IsStrictWeakOrder, IsTotalOrder}
use Rattle.std.specs.Cmp.Lexicographic.{bytes_decides, lists_ties, pointwise_decides, slice_cmp, texts_ties}
use Rattle.std.proofs.lemmas.Bool.{and_parts}
use Rattle.std.proofs.lemmas.Cmp.{lists_total, nat_cmp_total}
use Rattle.std.proofs.lemmas.List.Sorted.{IsPermutation-cons, IsPermutation-filter_both, IsPermutation-middle, IsPermutation-refl, IsPermutation-sym, IsPermutation-trans, ranks_by, sorted_far, sum_by-IsPermutation}
use Rattle.std.proofs.lemmas.List.Sums.{sum_by-cons}
use Rattle.au_audit.specs.Firing.{in_record_order, record_before, record_fields}
use Rattle.au_base.specs.Order.{is_in_order}
use Rattle.au_entries.specs.declared.fine_grained.FgaName.{FgaName}
use Rattle.au_entries.specs.Changing.{by_fields}

fields_total : IsTotalOrder by_fields
fields_total = lists_total (lists_total nat_cmp_total)

pub order_is_weak : IsStrictWeakOrder record_before
order_is_weak = ranks_by fields_total record_fields

-- ---- the order

before_cases : (o back : Ordering) → o ≡ ordering_reverse back → is_lt o ≡ true → is_lt back ≡ false
before_cases Less Less turned is = absurd (let e : Less ≡ Greater = turned in cc)
before_cases Less Equal turned is = refl
before_cases Less Greater turned is = refl
before_cases Equal back turned is = absurd (let e : false ≡ true = is in cc)
before_cases Greater back turned is = absurd (let e : false ≡ true = is in cc)

-- what comes before another doesn't come behind it
one_way : (a b : FgaName) → record_before a b ≡ true → record_before b a ≡ false
one_way a b is = before_cases _ _ (fields_total.antisymm (record_fields a) (record_fields b)) is

tied_cases : (o back : Ordering) → o ≡ ordering_reverse back → is_lt o ≡ false → is_lt back ≡ false → is_eq o ≡ true
tied_cases Less back turned one other = absurd (let e : true ≡ false = one in cc)
tied_cases Equal back turned one other = refl
tied_cases Greater Less turned one other = absurd (let e : true ≡ false = other in cc)
tied_cases Greater Equal turned one other = absurd (let e : Greater ≡ Equal = turned in cc)
tied_cases Greater Greater turned one other = absurd (let e : Greater ≡ Less = turned in cc)

same_fields : (a b : List (List ℕ)) → is_eq (by_fields a b) ≡ true → a ≡ b
same_fields a b is = (pointwise_decides bytes_decides a b).0 (lists_ties (slice_cmp nat_cmp) texts_ties a b ∙ is)

name_from : (a b : FgaName) → a.policy ≡ b.policy → a.table.owner ≡ b.table.owner → a.table.name ≡ b.table.name → a ≡ b
name_from a b policy owner table = λ i. record { table = record { owner = owner i; name = table i }; policy = policy i }

-- names of which neither comes before the other are one
tied : (a b : FgaName) → record_before a b ≡ false → record_before b a ≡ false → a ≡ b
tied a b one other =
    let same = same_fields (record_fields a) (record_fields b) (tied_cases _ _ (fields_total.antisymm (record_fields a) (record_fields b)) one other) in
    name_from a b (ap (λ (fields : List (List ℕ)). get_or fields 0 []) same) (ap (λ (fields : List (List ℕ)). get_or fields 1 []) same) (ap (λ (fields : List (List ℕ)). get_or fields 2 []) same)

-- what a name comes before, and what that doesn't come behind
before_on : (a b c : FgaName) (t : Bool) → record_before b c ≡ t → record_before a b ≡ true → record_before c b ≡ false → record_before a c ≡ true
before_on a b c true is one other = ap is_lt (fields_total.trans (record_fields a) (record_fields b) (record_fields c) (less _ one) (less _ is))
  where
    less : (o : Ordering) → is_lt o ≡ true → o ≡ Less
    less Less is = refl
    less Equal is = absurd (let e : false ≡ true = is in cc)
    less Greater is = absurd (let e : false ≡ true = is in cc)
before_on a b c false is one other = subst (λ x. record_before a x ≡ true) (tied b c is other) one

-- ---- sums

sum_zero : (f : FgaName → ℕ) (xs : List FgaName) → AllByRecursion (λ x. f x ≡ 0) xs → sum_by f xs ≡ 0
sum_zero f [] each = refl
sum_zero f (x ∷ xs) each = let rest = sum_zero f xs each.1 in let here : f x ≡ 0 = each.0 in omega (arith, sum_by-cons f x xs, rest, here)

-- 1 where the test is passed
abbrev weight : Bool → ℕ
weight true = 1
weight false = 0

weight_none : (b : Bool) → weight b ≡ 0 → b ≡ false
weight_none true is = absurd (omega (arith, is))
weight_none false is = refl

each_of : (P : FgaName → Type 0) (test : FgaName → Bool) → ((x : FgaName) → test x ≡ true → P x) → (xs : List FgaName) → list_all test xs ≡ true → AllByRecursion P xs
each_of P test gives [] all = tt
each_of P test gives (x ∷ xs) all = let parts = and_parts (test x) (list_all test xs) all in (gives x parts.0, each_of P test gives xs parts.1)

each_at : (P : FgaName → Type 0) (xs : List FgaName) → ((j : ℕ) (d : FgaName) → j < length xs → P (get_or xs j d)) → AllByRecursion P xs
each_at P [] at = tt
each_at P (x ∷ xs) at = (at zero x (omega arith), each_at P xs (λ j d within. at (suc j) d (omega arith)))

each_gives : (P Q : FgaName → Type 0) → ((x : FgaName) → P x → Q x) → (xs : List FgaName) → AllByRecursion P xs → AllByRecursion Q xs
each_gives P Q gives [] each = tt
each_gives P Q gives (x ∷ xs) each = (gives x each.0, each_gives P Q gives xs each.1)

-- no name comes before an earlier one
abbrev Far : List FgaName → Type 0
Far xs = (i j : ℕ) (d : FgaName) → i ≤ j → j < length xs → record_before (get_or xs j d) (get_or xs i d) ≡ false

abbrev SameSums : List FgaName → List FgaName → Type 0
SameSums xs ys = (f : FgaName → ℕ) → sum_by f ys ≡ sum_by f xs

irreflexive : (x : FgaName) (t : Bool) → record_before x x ≡ t → t ≡ false
irreflexive x true is = absurd (let e : true ≡ false = sym is ∙ one_way x x is in cc)
irreflexive x false is = refl

-- ---- the first of both

-- the first name of those that are sorted doesn't come before the first of those in order
not_before : (x y : FgaName) (xs ys : List FgaName) → list_all (record_before x) xs ≡ true → SameSums (x ∷ xs) (y ∷ ys) → record_before y x ≡ false
not_before x y xs ys first same =
    let f : FgaName → ℕ = λ z. weight (record_before z x) in
    let none : sum_by f xs ≡ 0 = sum_zero f xs (each_of (λ z. f z ≡ 0) (record_before x) (λ z is. ap weight (one_way x z is)) xs first) in
    let itself : f x ≡ 0 = ap weight (irreflexive x (record_before x x) refl) in
    let sums : sum_by f (y ∷ ys) ≡ sum_by f (x ∷ xs) = same f in
    weight_none (record_before y x) (omega (arith, sum_by-cons f x xs, sum_by-cons f y ys, none, itself, sums))

-- nor behind it
not_behind : (x y : FgaName) (xs ys : List FgaName) (t : Bool) → record_before x y ≡ t → list_all (record_before x) xs ≡ true → AllByRecursion (λ z. record_before z y ≡ false) ys → SameSums (x ∷ xs) (y ∷ ys) → t ≡ false
not_behind x y xs ys false is first rest same = refl
not_behind x y xs ys true is first rest same =
    let g : FgaName → ℕ = λ z. weight (not (record_before x z)) in
    let none : sum_by g ys ≡ 0 = sum_zero g ys (each_gives (λ z. record_before z y ≡ false) (λ z. g z ≡ 0) (λ z other. ap (λ (b : Bool). weight (not b)) (before_on x y z (record_before y z) refl is other)) ys rest) in
    let itself : g x ≡ 1 = ap (λ (b : Bool). weight (not b)) (irreflexive x (record_before x x) refl) in
    let that : g y ≡ 0 = ap (λ (b : Bool). weight (not b)) is in
    let sums : sum_by g (y ∷ ys) ≡ sum_by g (x ∷ xs) = same g in
    absurd (omega (arith, sum_by-cons g x xs, sum_by-cons g y ys, none, itself, that, sums))

-- names in order are the only ones that are sorted so
unique : (xs ys : List FgaName) → is_in_order record_before xs ≡ true → Far ys → SameSums xs ys → ys ≡ xs
unique [] [] ordered far same = refl
unique [] (y ∷ ys) ordered far same =
    let one : FgaName → ℕ = λ z. 1 in
    let sums : sum_by one (y ∷ ys) ≡ sum_by one [] = same one in
    absurd (omega (arith, sum_by-cons one y ys, sums))
unique (x ∷ xs) [] ordered far same =
    let one : FgaName → ℕ = λ z. 1 in
    let sums : sum_by one [] ≡ sum_by one (x ∷ xs) = same one in
    absurd (omega (arith, sum_by-cons one x xs, sums))
unique (x ∷ xs) (y ∷ ys) ordered far same =
    let parts = and_parts (list_all (record_before x) xs) (is_in_order record_before xs) ordered in
    let rest : AllByRecursion (λ z. record_before z y ≡ false) ys = each_at (λ z. record_before z y ≡ false) ys (λ j d within. far zero (suc j) d (omega arith) (omega arith)) in
    let first : y ≡ x = tied y x (not_before x y xs ys parts.0 same) (not_behind x y xs ys (record_before x y) refl parts.0 rest same) in
    let later : ys ≡ xs =
    unique xs ys parts.1 (λ i j d le within. far (suc i) (suc j) d (omega arith) (omega arith))
    (λ f. (let sums : sum_by f (y ∷ ys) ≡ sum_by f (x ∷ xs) = same f in
    let alike : f y ≡ f x = ap f first in
    omega (arith, sum_by-cons f x xs, sum_by-cons f y ys, sums, alike))) in
    λ i. first i ∷ later i

-- ---- sorted names

moved : (names : List FgaName) → IsPermutation names (in_record_order names)
moved [] = IsPermutation-refl []
moved (name ∷ names) =
    let rest = in_record_order names in
    let front = filter (λ other. record_before other name) rest in
    let back = filter (λ other. not (record_before other name)) rest in
    IsPermutation-trans (name ∷ names) (name ∷ rest) (front ++ name ∷ back) (IsPermutation-cons name names rest (moved names))
    (IsPermutation-trans (name ∷ rest) (name ∷ (front ++ back)) (front ++ name ∷ back)
    (IsPermutation-cons name rest (front ++ back) (IsPermutation-filter_both (λ other. record_before other name) (λ other. not (record_before other name)) (λ other. refl) rest))
    (IsPermutation-sym (front ++ name ∷ back) (name ∷ (front ++ back)) (IsPermutation-middle front name back)))

pub sorted_is : (names sorted : List FgaName) → is_in_order record_before (in_record_order names) ≡ true → IsPermutation names sorted → IsSortedBy record_before sorted → sorted ≡ in_record_order names
sorted_is names sorted ordered permutation up =
    unique (in_record_order names) sorted ordered (sorted_far record_before order_is_weak sorted up)
    (λ f. sum_by-IsPermutation f names sorted permutation ∙ sym (sum_by-IsPermutation f names (in_record_order names) (moved names)))
