-- What stands at a place that halving finds.
use Rattle.std.proofs.Common.{◌≡◌, ◌≤◌, ◌<◌, ℕ, zero, suc, Bool, true, false, inl, inr, List, [], ◌∷◌, length, get_or, map, refl, sym, ap, subst, ◌∙◌, arith}
use Rattle.std.specs.List.{Contains, list_all, list_any}
use Rattle.std.specs.List.Sorted.{IsPartitionedBy}
use Rattle.std.specs.declared.cmp.Ordering.{Ordering}
use Rattle.std.specs.declared.cmp.Ordering.TheVariants.{Less, Equal, Greater}
use Rattle.std.specs.Ordering.{is_eq, is_lt, nat_cmp, ordering_then}
use Rattle.std.specs.Cmp.{IsTotalOrder}
use Rattle.std.specs.Cmp.Lexicographic.{bytes_decides, slice_cmp, texts_ties}
use Rattle.std.proofs.lemmas.Bool.{and_from, and_parts, cases_lt}
use Rattle.std.proofs.lemmas.Cmp.{lists_total, nat_cmp_total, tied_itself}
use Rattle.au_base.specs.Order.{fields_before, is_in_order, name_before}
use Rattle.au_define.specs.descent.Places.{IsPlaceOf}
use Rattle.au_define.proofs.Members.{any_from, any_to}

-- each entry comes before each later one
all_at : {X : Type 0} (test : X → Bool) (xs : List X) (j : ℕ) (d : X) → list_all test xs ≡ true → j < length xs → test (get_or xs j d) ≡ true
all_at test [] j d all within = absurd (omega arith)
all_at test (x ∷ xs) zero d all within = (and_parts (test x) (list_all test xs) all).0
all_at test (x ∷ xs) (suc j) d all within = all_at test xs j d (and_parts (test x) (list_all test xs) all).1 (omega arith)

pub order_at : {X : Type 0} (before : X → X → Bool) (xs : List X) (i j : ℕ) (d : X) → is_in_order before xs ≡ true → i < j → j < length xs → before (get_or xs i d) (get_or xs j d) ≡ true
order_at before [] i j d ordered less within = absurd (omega arith)
order_at before (x ∷ xs) i zero d ordered less within = absurd (omega arith)
order_at before (x ∷ xs) zero (suc j) d ordered less within = all_at (before x) xs j d (and_parts (list_all (before x) xs) (is_in_order before xs) ordered).0 (omega arith)
order_at before (x ∷ xs) (suc i) (suc j) d ordered less within = order_at before xs i j d (and_parts (list_all (before x) xs) (is_in_order before xs) ordered).1 (omega arith) (omega arith)

is_less : (o : Ordering) → is_lt o ≡ true → o ≡ Less
is_less Less is = refl
is_less Equal is = absurd (let e : false ≡ true = is in cc)
is_less Greater is = absurd (let e : false ≡ true = is in cc)

texts_total : IsTotalOrder (slice_cmp nat_cmp)
texts_total = lists_total nat_cmp_total

fields_total : IsTotalOrder (slice_cmp (slice_cmp nat_cmp))
fields_total = lists_total texts_total

before_then : (a b c : List (List ℕ)) → fields_before a b ≡ true → fields_before b c ≡ true → fields_before a c ≡ true
before_then a b c one two = ap is_lt (fields_total.trans a b c (is_less _ one) (is_less _ two))

-- what `partition_point` asks
pub parted : {X : Type 0} (fields : X → List (List ℕ)) (these : List (List ℕ)) (xs : List X) → is_in_order (λ a b. fields_before (fields a) (fields b)) xs ≡ true
    → IsPartitionedBy (λ x. fields_before (fields x) these) xs
parted fields these xs ordered i j d le within passes = elim (cases_lt i j) [
  | inl less ↦ before_then (fields (get_or xs i d)) (fields (get_or xs j d)) these (order_at (λ a b. fields_before (fields a) (fields b)) xs i j d ordered less within) passes
  | inr more ↦ (let same : j ≡ i = omega arith in subst (λ k. fields_before (fields (get_or xs k d)) these ≡ true) same passes)
]

text_itself : (x : List ℕ) → slice_cmp nat_cmp x x ≡ Equal
text_itself x = tied_itself texts_total x

same_texts : (a b : List ℕ) → is_eq (slice_cmp nat_cmp a b) ≡ true → a ≡ b
same_texts a b is = (bytes_decides a b).0 (texts_ties a b ∙ is)

-- the first fields begin the others
abbrev pub IsFront : List (List ℕ) → List (List ℕ) → Type 0
IsFront [] fields = Unit {0}
IsFront (x ∷ xs) [] = ⊥
IsFront (x ∷ xs) (y ∷ ys) = (y ≡ x) × IsFront xs ys

-- fields don't come before what begins them
front_not_before : (these fields : List (List ℕ)) → IsFront these fields → fields_before fields these ≡ false
front_not_before [] [] front = refl
front_not_before [] (y ∷ ys) front = refl
front_not_before (x ∷ xs) [] front = absurd front
front_not_before (x ∷ xs) (y ∷ ys) front =
    let tied : slice_cmp nat_cmp y x ≡ Equal = subst (λ z. slice_cmp nat_cmp z x ≡ Equal) (sym front.0) (text_itself x) in
    ap (λ o. is_lt (ordering_then o (slice_cmp (slice_cmp nat_cmp) ys xs))) tied ∙ front_not_before xs ys front.1

-- what lies between some fields and others that they begin, begins with them too
front_between : (these low high : List (List ℕ)) → fields_before low these ≡ false → fields_before low high ≡ true → IsFront these high → IsFront these low
front_between [] low high not_before less front = tt
front_between (x ∷ xs) [] high not_before less front = absurd (let e : true ≡ false = not_before in cc)
front_between (x ∷ xs) (y ∷ ys) [] not_before less front = absurd front
front_between (x ∷ xs) (y ∷ ys) (z ∷ zs) not_before less front =
    at (λ low less. front_between xs ys zs low less front.1) (slice_cmp nat_cmp y x) refl not_before (subst (λ w. is_lt (ordering_then (slice_cmp nat_cmp y w) (slice_cmp (slice_cmp nat_cmp) ys zs)) ≡ true) front.0 less)
  where
    at : (fields_before ys xs ≡ false → fields_before ys zs ≡ true → IsFront xs ys) → (o : Ordering) → slice_cmp nat_cmp y x ≡ o → is_lt (ordering_then o (slice_cmp (slice_cmp nat_cmp) ys xs)) ≡ false
        → is_lt (ordering_then o (slice_cmp (slice_cmp nat_cmp) ys zs)) ≡ true → IsFront (x ∷ xs) (y ∷ ys)
    at more Less is low less = absurd (let e : true ≡ false = low in cc)
    at more Equal is low less = (same_texts y x (ap is_eq is), more low less)
    at more Greater is low less = absurd (let e : false ≡ true = less in cc)

-- of two tests one passes where the other does
same_bool : (a b : Bool) → (a ≡ true → b ≡ true) → (b ≡ true → a ≡ true) → a ≡ b
same_bool true b to from = sym (to refl)
same_bool false true to from = from refl
same_bool false false to from = refl

-- an entry whose fields begin so stands at the place or behind it
behind : {X : Type 0} (fields : X → List (List ℕ)) (these : List (List ℕ)) (xs : List X) (k i : ℕ) (d : X) → IsPlaceOf fields these xs k → i < length xs
    → IsFront these (fields (get_or xs i d)) → k ≤ i
behind fields these xs k i d place within front = elim (cases_lt i k) [
  | inl less ↦ absurd (let before : fields_before (fields (get_or xs i d)) these ≡ true = place.1.0 i d (omega arith) less in let not : fields_before (fields (get_or xs i d)) these ≡ false = front_not_before these (fields (get_or xs i d)) front in let e : true ≡ false = sym before ∙ not in cc)
  | inr more ↦ more
]

-- the fields of the entry at the place begin so too
front_at : {X : Type 0} (fields : X → List (List ℕ)) (these : List (List ℕ)) (xs : List X) (k i : ℕ) (d : X)
    → is_in_order (λ a b. fields_before (fields a) (fields b)) xs ≡ true → IsPlaceOf fields these xs k → i < length xs
    → IsFront these (fields (get_or xs i d)) → (k ≤ i) × IsFront these (fields (get_or xs k d))
front_at fields these xs k i d ordered place within front =
    let le = behind fields these xs k i d place within front in (
      le,
      elim (cases_lt k i) [
        | inl less ↦ front_between these (fields (get_or xs k d)) (fields (get_or xs i d)) (place.1.1 k d (omega arith) (omega arith)) (order_at (λ a b. fields_before (fields a) (fields b)) xs k i d ordered less within) front
        | inr more ↦ (let same : i ≡ k = omega arith in subst (λ j. IsFront these (fields (get_or xs j d))) same front)
      ],
    )

pub read_back : {X : Type 0} (xs : List X) (k : ℕ) (d : X) → k < length xs → Contains xs (get_or xs k d)
read_back [] k d within = absurd (omega arith)
read_back (x ∷ xs) zero d within = (0, within, refl)
read_back (x ∷ xs) (suc k) d within = (let has = read_back xs k d (omega arith) in (suc k, within, again xs k d (omega arith)))
  where
    again : {X : Type 0} (xs : List X) (k : ℕ) (d : X) → k < length xs → get_or xs k (get_or xs k d) ≡ get_or xs k d
    again [] k d within = absurd (omega arith)
    again (x ∷ xs) zero d within = refl
    again (x ∷ xs) (suc k) d within = again xs k d (omega arith)

pub same_read : {X : Type 0} (xs : List X) (k : ℕ) (a b : X) → k < length xs → get_or xs k a ≡ get_or xs k b
same_read [] k a b within = absurd (omega arith)
same_read (x ∷ xs) zero a b within = refl
same_read (x ∷ xs) (suc k) a b within = same_read xs k a b (omega arith)

-- some entry passes a test of its front exactly where the one at the place does
pub any_at : {X : Type 0} (fields : X → List (List ℕ)) (these : List (List ℕ)) (test : X → Bool) (xs : List X) (k : ℕ) (d : X)
    → ((x : X) → test x ≡ true → IsFront these (fields x)) → ((x : X) → IsFront these (fields x) → test x ≡ true)
    → is_in_order (λ a b. fields_before (fields a) (fields b)) xs ≡ true → IsPlaceOf fields these xs k → k < length xs
    → list_any test xs ≡ test (get_or xs k d)
any_at fields these test xs k d to from ordered place within = same_bool _ _ (λ any.
    (let (x, (i, less, is), passes) = any_from test xs any in
    let front : IsFront these (fields (get_or xs i x)) = subst (λ y. IsFront these (fields y)) (sym is) (to x passes) in
    let at = front_at fields these xs k i x ordered place less front in
    subst (λ y. test y ≡ true) (same_read xs k x d within) (from _ at.1)))
    (λ passes. any_to test xs (get_or xs k d) (read_back xs k d within) passes)

-- none passes where the place is the end
pub none_at : {X : Type 0} (fields : X → List (List ℕ)) (these : List (List ℕ)) (test : X → Bool) (xs : List X) (k : ℕ)
    → ((x : X) → test x ≡ true → IsFront these (fields x)) → IsPlaceOf fields these xs k → length xs ≤ k
    → list_any test xs ≡ false
none_at fields these test xs k to place end = same_bool _ _ (λ any.
    (let (x, (i, less, is), passes) = any_from test xs any in
    let front : IsFront these (fields (get_or xs i x)) = subst (λ y. IsFront these (fields y)) (sym is) (to x passes) in
    absurd (let le = behind fields these xs k i x place less front in omega (arith, le, less, end))))
    (λ passes. absurd (let e : false ≡ true = passes in cc))

-- two entries with the same fields are one
before_other : (a b : List (List ℕ)) → a ≡ b → fields_before a b ≡ true → ⊥
before_other a b same before = let tied : fields_before b b ≡ false = ap is_lt (tied_itself fields_total b) in let e : true ≡ false = sym before ∙ ap (λ f. fields_before f b) same ∙ tied in cc

pub only_one : {X : Type 0} (fields : X → List (List ℕ)) (xs : List X) (a b : X) → is_in_order (λ a b. fields_before (fields a) (fields b)) xs ≡ true
    → Contains xs a → Contains xs b → fields a ≡ fields b → a ≡ b
only_one fields xs a b ordered (i, inside, is) (j, within, are) same = elim (cases_lt i j) [
  | inl less ↦ absurd (before_other (fields a) (fields b) same
      (subst (λ z. fields_before (fields a) (fields z) ≡ true) (same_read xs j a b within ∙ are) (subst (λ z. fields_before (fields z) (fields (get_or xs j a)) ≡ true) is (order_at (λ x y. fields_before (fields x) (fields y)) xs i j a ordered less within))))
  | inr more ↦ elim (cases_lt j i) [
    | inl less ↦ absurd (before_other (fields b) (fields a) (sym same)
        (subst (λ z. fields_before (fields b) (fields z) ≡ true) (same_read xs i b a inside ∙ is) (subst (λ z. fields_before (fields z) (fields (get_or xs i b)) ≡ true) are (order_at (λ x y. fields_before (fields x) (fields y)) xs j i b ordered less inside))))
    | inr other ↦ (let at : i ≡ j = omega (arith, more, other) in sym is ∙ ap (λ k. get_or xs k a) at ∙ same_read xs j a b within ∙ are)
  ]
]

-- entries whose keys stand in order stand so themselves
firsts : {K X : Type 0} (before : K → K → Bool) (key : X → K) (other : X → X → Bool) → ((a b : X) → before (key a) (key b) ≡ true → other a b ≡ true)
    → (x : X) (xs : List X) → list_all (before (key x)) (map key xs) ≡ true → list_all (other x) xs ≡ true
firsts before key other to x [] all = refl
firsts before key other to x (y ∷ xs) all =
    let parts = and_parts (before (key x) (key y)) (list_all (before (key x)) (map key xs)) all in
    and_from (other x y) _ (to x y parts.0) (firsts before key other to x xs parts.1)

pub direct : {K X : Type 0} (before : K → K → Bool) (key : X → K) (other : X → X → Bool) → ((a b : X) → before (key a) (key b) ≡ true → other a b ≡ true)
    → (xs : List X) → is_in_order before (map key xs) ≡ true → is_in_order other xs ≡ true
direct before key other to [] ordered = refl
direct before key other to (x ∷ xs) ordered =
    let parts = and_parts (list_all (before (key x)) (map key xs)) (is_in_order before (map key xs)) ordered in
    and_from (list_all (other x) xs) _ (firsts before key other to x xs parts.0) (direct before key other to xs parts.1)

one_field_at : (o : Ordering) → is_lt (ordering_then o Equal) ≡ is_lt o
one_field_at Less = refl
one_field_at Equal = refl
one_field_at Greater = refl

-- a name as the only field
pub one_field : (a b : List ℕ) → fields_before (a ∷ []) (b ∷ []) ≡ name_before a b
one_field a b = one_field_at (slice_cmp nat_cmp a b)

pub by_names : {X : Type 0} (name : X → List ℕ) (xs : List X) → is_in_order name_before (map name xs) ≡ true → is_in_order (λ a b. fields_before (name a ∷ []) (name b ∷ [])) xs ≡ true
by_names name xs ordered = direct name_before name (λ a b. fields_before (name a ∷ []) (name b ∷ [])) (λ a b is. one_field (name a) (name b) ∙ is) xs ordered

pub by_fields : {X : Type 0} (fields : X → List (List ℕ)) (xs : List X) → is_in_order fields_before (map fields xs) ≡ true → is_in_order (λ a b. fields_before (fields a) (fields b)) xs ≡ true
by_fields fields xs ordered = direct fields_before fields (λ a b. fields_before (fields a) (fields b)) (λ a b is. is) xs ordered
