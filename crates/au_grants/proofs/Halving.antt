-- What stands at a place that halving finds.
use Rattle.std.proofs.Common.{◌≡◌, ◌≤◌, ◌<◌, ℕ, zero, suc, Bool, true, false, ◌&&◌, inl, inr, List, [], ◌∷◌, length, get_or, refl, sym, ap, subst, ◌∙◌, arith}
use Rattle.std.specs.List.{Contains, list_all, list_any}
use Rattle.std.specs.List.Sorted.{IsPartitionedBy}
use Rattle.std.specs.declared.cmp.Ordering.{Ordering}
use Rattle.std.specs.declared.cmp.Ordering.TheVariants.{Less, Equal, Greater}
use Rattle.std.specs.Ordering.{is_eq, is_lt, nat_cmp, ordering_reverse, ordering_then}
use Rattle.std.specs.Cmp.{IsTotalOrder}
use Rattle.std.specs.Cmp.Lexicographic.{slice_cmp}
use Rattle.std.proofs.lemmas.Bool.{and_parts, cases_lt}
use Rattle.std.proofs.lemmas.Cmp.{lists_total, nat_cmp_total}
use Rattle.au_grants.specs.descent.Halving.{IsPlaceOf}
use Rattle.au_grants.specs.Order.{fields_before, is_in_order}
use Rattle.au_grants.proofs.Members.{any_from, any_to}
use Rattle.au_grants.proofs.Ordered.{same_texts}

-- the first entry comes before each later one
all_at : {X : Type 0} (test : X → Bool) (xs : List X) (j : ℕ) (d : X) → list_all test xs ≡ true → j < length xs → test (get_or xs j d) ≡ true
all_at test [] j d all within = absurd (omega arith)
all_at test (x ∷ xs) zero d all within = (and_parts (test x) (list_all test xs) all).0
all_at test (x ∷ xs) (suc j) d all within = all_at test xs j d (and_parts (test x) (list_all test xs) all).1 (omega arith)

pub order_at : {X : Type 0} (before : X → X → Bool) (xs : List X) (i j : ℕ) (d : X) → is_in_order before xs ≡ true → i < j → j < length xs → before (get_or xs i d) (get_or xs j d) ≡ true
order_at before [] i j d ordered less within = absurd (omega arith)
order_at before (x ∷ xs) i zero d ordered less within = absurd (omega arith)
order_at before (x ∷ xs) zero (suc j) d ordered less within = all_at (before x) xs j d (and_parts (list_all (before x) xs) (is_in_order before xs) ordered).0 (omega arith)
order_at before (x ∷ xs) (suc i) (suc j) d ordered less within = order_at before xs i j d (and_parts (list_all (before x) xs) (is_in_order before xs) ordered).1 (omega arith) (omega arith)

is_less : (o : Ordering) → is_lt o ≡ true → o ≡ Less
is_less Less is = refl
is_less Equal is = absurd (let e : false ≡ true = is in cc)
is_less Greater is = absurd (let e : false ≡ true = is in cc)

texts_total : IsTotalOrder (slice_cmp nat_cmp)
texts_total = lists_total nat_cmp_total

fields_total : IsTotalOrder (slice_cmp (slice_cmp nat_cmp))
fields_total = lists_total texts_total

-- one after another
pub before_then : (a b c : List (List ℕ)) → fields_before a b ≡ true → fields_before b c ≡ true → fields_before a c ≡ true
before_then a b c one two = ap is_lt (fields_total.trans a b c (is_less _ one) (is_less _ two))

-- what `partition_point` asks
pub parted : {X : Type 0} (fields : X → List (List ℕ)) (these : List (List ℕ)) (xs : List X) → is_in_order (λ a b. fields_before (fields a) (fields b)) xs ≡ true
    → IsPartitionedBy (λ x. fields_before (fields x) these) xs
parted fields these xs ordered i j d le within passes = elim (cases_lt i j) [
  | inl less ↦ before_then (fields (get_or xs i d)) (fields (get_or xs j d)) these (order_at (λ a b. fields_before (fields a) (fields b)) xs i j d ordered less within) passes
  | inr more ↦ (let same : j ≡ i = omega arith in subst (λ k. fields_before (fields (get_or xs k d)) these ≡ true) same passes)
]

self_equal : (o : Ordering) → o ≡ ordering_reverse o → o ≡ Equal
self_equal Less is = absurd (let e : true ≡ false = ap is_lt is in cc)
self_equal Equal is = refl
self_equal Greater is = absurd (let e : false ≡ true = ap is_lt is in cc)

text_itself : (x : List ℕ) → slice_cmp nat_cmp x x ≡ Equal
text_itself x = self_equal _ (texts_total.antisymm x x)

-- the first fields begin the others
abbrev pub IsFront : List (List ℕ) → List (List ℕ) → Type 0
IsFront [] fields = Unit {0}
IsFront (x ∷ xs) [] = ⊥
IsFront (x ∷ xs) (y ∷ ys) = (y ≡ x) × IsFront xs ys

-- fields don't come before what begins them
pub front_not_before : (these fields : List (List ℕ)) → IsFront these fields → fields_before fields these ≡ false
front_not_before [] [] front = refl
front_not_before [] (y ∷ ys) front = refl
front_not_before (x ∷ xs) [] front = absurd front
front_not_before (x ∷ xs) (y ∷ ys) front =
    let tied : slice_cmp nat_cmp y x ≡ Equal = subst (λ z. slice_cmp nat_cmp z x ≡ Equal) (sym front.0) (text_itself x) in
    ap (λ o. is_lt (ordering_then o (slice_cmp (slice_cmp nat_cmp) ys xs))) tied ∙ front_not_before xs ys front.1

-- what lies between some fields and others that they begin, begins with them too
pub front_between : (these low high : List (List ℕ)) → fields_before low these ≡ false → fields_before low high ≡ true → IsFront these high → IsFront these low
front_between [] low high not_before less front = tt
front_between (x ∷ xs) [] high not_before less front = absurd (let e : true ≡ false = not_before in cc)
front_between (x ∷ xs) (y ∷ ys) [] not_before less front = absurd front
front_between (x ∷ xs) (y ∷ ys) (z ∷ zs) not_before less front =
    at (λ low less. front_between xs ys zs low less front.1) (slice_cmp nat_cmp y x) refl not_before (subst (λ w. is_lt (ordering_then (slice_cmp nat_cmp y w) (slice_cmp (slice_cmp nat_cmp) ys zs)) ≡ true) front.0 less)
  where
    at : (fields_before ys xs ≡ false → fields_before ys zs ≡ true → IsFront xs ys) → (o : Ordering) → slice_cmp nat_cmp y x ≡ o → is_lt (ordering_then o (slice_cmp (slice_cmp nat_cmp) ys xs)) ≡ false
        → is_lt (ordering_then o (slice_cmp (slice_cmp nat_cmp) ys zs)) ≡ true → IsFront (x ∷ xs) (y ∷ ys)
    at more Less is low less = absurd (let e : true ≡ false = low in cc)
    at more Equal is low less = (same_texts y x (ap is_eq is), more low less)
    at more Greater is low less = absurd (let e : false ≡ true = less in cc)

-- of two tests one passes where the other does
same_bool : (a b : Bool) → (a ≡ true → b ≡ true) → (b ≡ true → a ≡ true) → a ≡ b
same_bool true b to from = sym (to refl)
same_bool false true to from = from refl
same_bool false false to from = refl

-- an entry that passes a test of its front stands at the place or behind it
behind : {X : Type 0} (fields : X → List (List ℕ)) (these : List (List ℕ)) (xs : List X) (k i : ℕ) (d : X) → IsPlaceOf fields these xs k → i < length xs
    → IsFront these (fields (get_or xs i d)) → k ≤ i
behind fields these xs k i d place within front = elim (cases_lt i k) [
  | inl less ↦ absurd (let before : fields_before (fields (get_or xs i d)) these ≡ true = place.1.0 i d (omega arith) less in let not : fields_before (fields (get_or xs i d)) these ≡ false = front_not_before these (fields (get_or xs i d)) front in let e : true ≡ false = sym before ∙ not in cc)
  | inr more ↦ more
]

-- the fields of the entry at the place begin so too
pub front_at : {X : Type 0} (fields : X → List (List ℕ)) (these : List (List ℕ)) (xs : List X) (k i : ℕ) (d : X)
    → is_in_order (λ a b. fields_before (fields a) (fields b)) xs ≡ true → IsPlaceOf fields these xs k → i < length xs
    → IsFront these (fields (get_or xs i d)) → (k ≤ i) × IsFront these (fields (get_or xs k d))
front_at fields these xs k i d ordered place within front =
    let le = behind fields these xs k i d place within front in (
      le,
      elim (cases_lt k i) [
        | inl less ↦ front_between these (fields (get_or xs k d)) (fields (get_or xs i d)) (place.1.1 k d (omega arith) (omega arith)) (order_at (λ a b. fields_before (fields a) (fields b)) xs k i d ordered less within) front
        | inr more ↦ (let same : i ≡ k = omega arith in subst (λ j. IsFront these (fields (get_or xs j d))) same front)
      ],
    )

pub read_back : {X : Type 0} (xs : List X) (k : ℕ) (d : X) → k < length xs → Contains xs (get_or xs k d)
read_back [] k d within = absurd (omega arith)
read_back (x ∷ xs) zero d within = (0, within, refl)
read_back (x ∷ xs) (suc k) d within = (let has = read_back xs k d (omega arith) in (suc k, within, again xs k d (omega arith)))
  where
    again : {X : Type 0} (xs : List X) (k : ℕ) (d : X) → k < length xs → get_or xs k (get_or xs k d) ≡ get_or xs k d
    again [] k d within = absurd (omega arith)
    again (x ∷ xs) zero d within = refl
    again (x ∷ xs) (suc k) d within = again xs k d (omega arith)

pub same_read : {X : Type 0} (xs : List X) (k : ℕ) (a b : X) → k < length xs → get_or xs k a ≡ get_or xs k b
same_read [] k a b within = absurd (omega arith)
same_read (x ∷ xs) zero a b within = refl
same_read (x ∷ xs) (suc k) a b within = same_read xs k a b (omega arith)

-- some entry passes a test of its front exactly where the one at the place does
pub any_at : {X : Type 0} (fields : X → List (List ℕ)) (these : List (List ℕ)) (test : X → Bool) (xs : List X) (k : ℕ) (d : X)
    → ((x : X) → test x ≡ true → IsFront these (fields x)) → ((x : X) → IsFront these (fields x) → test x ≡ true)
    → is_in_order (λ a b. fields_before (fields a) (fields b)) xs ≡ true → IsPlaceOf fields these xs k → k < length xs
    → list_any test xs ≡ test (get_or xs k d)
any_at fields these test xs k d to from ordered place within = same_bool _ _ (λ any.
    (let (x, (i, less, is), passes) = any_from test xs any in
    let front : IsFront these (fields (get_or xs i x)) = subst (λ y. IsFront these (fields y)) (sym is) (to x passes) in
    let at = front_at fields these xs k i x ordered place less front in
    subst (λ y. test y ≡ true) (same_read xs k x d within) (from _ at.1)))
    (λ passes. any_to test xs (get_or xs k d) (read_back xs k d within) passes)

-- fields don't come before themselves
not_before_itself : (fields : List (List ℕ)) → fields_before fields fields ≡ false
not_before_itself [] = refl
not_before_itself (x ∷ xs) = ap (λ o. is_lt (ordering_then o (slice_cmp (slice_cmp nat_cmp) xs xs))) (text_itself x) ∙ not_before_itself xs

-- the same where all fields are asked for, with a further test: no other entry has these fields
pub any_only_at : {X : Type 0} (fields : X → List (List ℕ)) (these : List (List ℕ)) (test more : X → Bool) (xs : List X) (k : ℕ) (d : X)
    → ((x : X) → test x ≡ true → IsFront these (fields x)) → ((x : X) → IsFront these (fields x) → fields x ≡ these)
    → is_in_order (λ a b. fields_before (fields a) (fields b)) xs ≡ true → IsPlaceOf fields these xs k → k < length xs
    → list_any (λ x. test x && more x) xs ≡ (test (get_or xs k d) && more (get_or xs k d))
any_only_at fields these test more xs k d to whole ordered place within = same_bool _ _ (λ any.
    (let (x, (i, less, is), passes) = any_from (λ y. test y && more y) xs any in
    let front : IsFront these (fields (get_or xs i x)) = subst (λ y. IsFront these (fields y)) (sym is) (to x (and_parts (test x) (more x) passes).0) in
    let at = front_at fields these xs k i x ordered place less front in
    elim (cases_lt k i) [
      | inl later ↦ absurd (let before : fields_before (fields (get_or xs k x)) (fields (get_or xs i x)) ≡ true = order_at (λ a b. fields_before (fields a) (fields b)) xs k i x ordered later less in
          let at_itself : fields_before these these ≡ true = subst (λ f. fields_before f these ≡ true) (whole _ at.1) (subst (λ f. fields_before (fields (get_or xs k x)) f ≡ true) (whole _ front) before) in
          let e : true ≡ false = sym at_itself ∙ not_before_itself these in
          cc)
      | inr le ↦ (let same : i ≡ k = omega (arith, le, at.0) in
          let here : get_or xs k d ≡ x = same_read xs k d x within ∙ subst (λ j. get_or xs j x ≡ x) same is in
          subst (λ y. (test y && more y) ≡ true) (sym here) passes)
    ]))
    (λ passes. any_to (λ y. test y && more y) xs (get_or xs k d) (read_back xs k d within) passes)

-- none passes where the place is the end
pub none_at : {X : Type 0} (fields : X → List (List ℕ)) (these : List (List ℕ)) (test : X → Bool) (xs : List X) (k : ℕ)
    → ((x : X) → test x ≡ true → IsFront these (fields x)) → IsPlaceOf fields these xs k → length xs ≤ k
    → list_any test xs ≡ false
none_at fields these test xs k to place end = same_bool _ _ (λ any.
    (let (x, (i, less, is), passes) = any_from test xs any in
    let front : IsFront these (fields (get_or xs i x)) = subst (λ y. IsFront these (fields y)) (sym is) (to x passes) in
    absurd (let le = behind fields these xs k i x place less front in omega (arith, le, less, end))))
    (λ passes. absurd (let e : false ≡ true = passes in cc))
