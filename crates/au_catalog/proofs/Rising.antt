-- Entries whose keys stand in an order.
use Rattle.std.proofs.Common.{◌≡◌, ◌∙◌, Bool, true, false, cond, List, [], ◌∷◌, ◌++◌, map, refl, ap, subst}
use Rattle.std.specs.List.{AllByRecursion, filter, list_all}
use Rattle.std.specs.declared.cmp.Ordering.{Ordering}
use Rattle.std.specs.declared.cmp.Ordering.TheVariants.{Less, Equal, Greater}
use Rattle.std.specs.Ordering.{is_gt, is_lt, ordering_reverse}
use Rattle.std.specs.Cmp.{IsTotalOrder}
use Rattle.std.proofs.lemmas.Bool.{and_parts, and_from}
use Rattle.au_base.specs.Order.{is_in_order}
use Rattle.au_entries.specs.Changing.{put_in_order}
use Rattle.au_catalog.proofs.AllOf.{all_joined, all_kept, all_weaker, passes}

-- the first key comes before the second
abbrev pub Before : {K : Type 0} → (K → K → Ordering) → K → K → Bool
Before cmp a b = is_lt (cmp a b)

-- each key comes before all later ones
abbrev pub Rises : {K X : Type 0} → (K → K → Ordering) → (X → K) → List X → Type 0
Rises cmp key [] = Unit {0}
Rises cmp key (x ∷ xs) = AllByRecursion (λ y. Before cmp (key x) (key y) ≡ true) xs × Rises cmp key xs

firsts : {K X : Type 0} (cmp : K → K → Ordering) (key : X → K) (x : X) (xs : List X) → list_all (Before cmp (key x)) (map key xs) ≡ true → AllByRecursion (λ y. Before cmp (key x) (key y) ≡ true) xs
firsts cmp key x [] all = tt
firsts cmp key x (y ∷ xs) all =
    let parts = and_parts (Before cmp (key x) (key y)) (list_all (Before cmp (key x)) (map key xs)) all in
    (parts.0, firsts cmp key x xs parts.1)

pub rises : {K X : Type 0} (cmp : K → K → Ordering) (key : X → K) (xs : List X) → is_in_order (Before cmp) (map key xs) ≡ true → Rises cmp key xs
rises cmp key [] ordered = tt
rises cmp key (x ∷ xs) ordered =
    let parts = and_parts (list_all (Before cmp (key x)) (map key xs)) (is_in_order (Before cmp) (map key xs)) ordered in
    (firsts cmp key x xs parts.0, rises cmp key xs parts.1)

firsts_back : {K X : Type 0} (cmp : K → K → Ordering) (key : X → K) (x : X) (xs : List X) → AllByRecursion (λ y. Before cmp (key x) (key y) ≡ true) xs → list_all (Before cmp (key x)) (map key xs) ≡ true
firsts_back cmp key x [] all = refl
firsts_back cmp key x (y ∷ xs) all = and_from (Before cmp (key x) (key y)) _ all.0 (firsts_back cmp key x xs all.1)

pub in_order : {K X : Type 0} (cmp : K → K → Ordering) (key : X → K) (xs : List X) → Rises cmp key xs → is_in_order (Before cmp) (map key xs) ≡ true
in_order cmp key [] up = refl
in_order cmp key (x ∷ xs) up = and_from (list_all (Before cmp (key x)) (map key xs)) _ (firsts_back cmp key x xs up.0) (in_order cmp key xs up.1)

is_less : (o : Ordering) → is_lt o ≡ true → o ≡ Less
is_less Less is = refl
is_less Equal is = absurd (let e : false ≡ true = is in cc)
is_less Greater is = absurd (let e : false ≡ true = is in cc)

is_greater : (o : Ordering) → is_gt o ≡ true → o ≡ Greater
is_greater Less is = absurd (let e : false ≡ true = is in cc)
is_greater Equal is = absurd (let e : false ≡ true = is in cc)
is_greater Greater is = refl

pub before_joined : {K : Type 0} (cmp : K → K → Ordering) → IsTotalOrder cmp → (a b c : K) → Before cmp a b ≡ true → Before cmp b c ≡ true → Before cmp a c ≡ true
before_joined cmp total a b c one two = ap is_lt (total.trans a b c (is_less _ one) (is_less _ two))

pub turned : {K : Type 0} (cmp : K → K → Ordering) → IsTotalOrder cmp → (a b : K) → is_gt (cmp a b) ≡ true → Before cmp b a ≡ true
turned cmp total a b behind = ap is_lt (total.antisymm b a ∙ ap ordering_reverse (is_greater (cmp a b) behind))

kept_rises_at : {K X : Type 0} (cmp : K → K → Ordering) (key : X → K) (x : X) (ys : List X) (b : Bool) → AllByRecursion (λ y. Before cmp (key x) (key y) ≡ true) ys → Rises cmp key ys → Rises cmp key (cond b (x ∷ ys) ys)
kept_rises_at cmp key x ys true first more = (first, more)
kept_rises_at cmp key x ys false first more = more

pub kept_rises : {K X : Type 0} (cmp : K → K → Ordering) (key : X → K) (test : X → Bool) (xs : List X) → Rises cmp key xs → Rises cmp key (filter test xs)
kept_rises cmp key test [] up = tt
kept_rises cmp key test (x ∷ xs) up =
    kept_rises_at cmp key x (filter test xs) (test x) (all_kept (λ y. Before cmp (key x) (key y) ≡ true) test xs up.0) (kept_rises cmp key test xs up.1)

pub joined_rises : {K X : Type 0} (cmp : K → K → Ordering) (key : X → K) (xs ys : List X) → Rises cmp key xs → Rises cmp key ys
    → AllByRecursion (λ x. AllByRecursion (λ y. Before cmp (key x) (key y) ≡ true) ys) xs → Rises cmp key (xs ++ ys)
joined_rises cmp key [] ys one two across = two
joined_rises cmp key (x ∷ xs) ys one two across =
    (all_joined (λ y. Before cmp (key x) (key y) ≡ true) xs ys one.0 across.0, joined_rises cmp key xs ys one.1 two across.1)

-- an entry that is put among others in order leaves them in order
pub put_rises : {K X : Type 0} (cmp : K → K → Ordering) → IsTotalOrder cmp → (key : X → K) (entry : X) (xs : List X) → Rises cmp key xs → Rises cmp key (put_in_order (λ other. cmp (key other) (key entry)) entry xs)
put_rises {K} {X} cmp total key entry xs up =
    let front = filter (λ other. is_lt (cmp (key other) (key entry))) xs in
    let rest = filter (λ other. is_gt (cmp (key other) (key entry))) xs in
    let first : AllByRecursion (λ (x : X). Before cmp (key x) (key entry) ≡ true) front = passes (λ other. is_lt (cmp (key other) (key entry))) xs in
    let behind : AllByRecursion (λ (y : X). Before cmp (key entry) (key y) ≡ true) rest =
    all_weaker (λ y. is_gt (cmp (key y) (key entry)) ≡ true) (λ y. Before cmp (key entry) (key y) ≡ true) (λ y h. turned cmp total (key y) (key entry) h) rest (passes (λ other. is_gt (cmp (key other) (key entry))) xs) in
    joined_rises cmp key front (entry ∷ rest)
    (kept_rises cmp key (λ other. is_lt (cmp (key other) (key entry))) xs up)
    (behind, kept_rises cmp key (λ other. is_gt (cmp (key other) (key entry))) xs up)
    (all_weaker (λ x. Before cmp (key x) (key entry) ≡ true) (λ x. AllByRecursion (λ y. Before cmp (key x) (key y) ≡ true) (entry ∷ rest))
    (λ x h. (h, all_weaker (λ y. Before cmp (key entry) (key y) ≡ true) (λ y. Before cmp (key x) (key y) ≡ true) (λ y g. before_joined cmp total (key x) (key entry) (key y) h g) rest behind)) front first)

-- entries that get other contents under the same keys stand in order as before
same_firsts : {K X : Type 0} (cmp : K → K → Ordering) (key : X → K) (f : X → X) → ((x : X) → key (f x) ≡ key x) → (x : X) (xs : List X)
    → AllByRecursion (λ y. Before cmp (key x) (key y) ≡ true) xs → AllByRecursion (λ y. Before cmp (key (f x)) (key y) ≡ true) (map f xs)
same_firsts cmp key f same x [] all = tt
same_firsts cmp key f same x (y ∷ xs) all =
    (ap (λ k. Before cmp k (key (f y))) (same x) ∙ ap (Before cmp (key x)) (same y) ∙ all.0, same_firsts cmp key f same x xs all.1)

pub mapped_rises : {K X : Type 0} (cmp : K → K → Ordering) (key : X → K) (f : X → X) → ((x : X) → key (f x) ≡ key x) → (xs : List X) → Rises cmp key xs → Rises cmp key (map f xs)
mapped_rises cmp key f same [] up = tt
mapped_rises cmp key f same (x ∷ xs) up = (same_firsts cmp key f same x xs up.0, mapped_rises cmp key f same xs up.1)
