-- Places in lists, and sets of them.
use Rattle.std.proofs.Common.{◌≡◌, ◌∙◌, inl, inr, refl, sym, ap, ℕ, zero, suc, ◌+◌, ◌-◌, ◌<◌, ◌≤◌, Bool, true, false, cond, ◌||◌, ◌&&◌, List, [], ◌∷◌, length, get_or, map, take, arith, subst}
use Rattle.std.proofs.lemmas.Bool.Decides.{eqb_tells}
use Rattle.std.proofs.lemmas.Cmp.{ranked}
use Rattle.std.proofs.lemmas.Option.{get_or_from_slice_get}
use Rattle.std.proofs.lemmas.Map.Keys.{sorted_head, sorted_tail}
use Rattle.std.specs.List.{AllByRecursion, filter, list_any, slice_get}
use Rattle.std.specs.List.Sorted.{IsStrictlySortedBy}
use Rattle.std.specs.Ordering.{MatchOrdering, nat_cmp}
use Rattle.std.specs.Prelude.{◌==◌, Option, Some, None, ⊤}
use Rattle.std.specs.declared.cmp.Ordering.TheVariants.{Less}
use Rattle.au_pindex.specs.Places.{passes, passes_at}
use Rattle.au_pindex.specs.descent.Places.{places_where}

-- ---- numbers

pub is_itself : (a : ℕ) → (a == a) ≡ true
is_itself a = elim (eqb_tells a a) [ inl e ↦ e.0 | inr e ↦ absurd (e.1 refl) ]

pub is_other : (a b : ℕ) → (a ≡ b → ⊥) → (a == b) ≡ false
is_other a b differ = elim (eqb_tells a b) [ inl e ↦ absurd (differ e.1) | inr e ↦ e.0 ]

same_next : (a b : ℕ) → (suc a == suc b) ≡ (a == b)
same_next a b = elim (eqb_tells a b) [
  | inl e ↦ ap (λ z. suc a == suc z) (sym e.1) ∙ is_itself (suc a) ∙ sym e.0
  | inr e ↦ is_other (suc a) (suc b) (λ same. e.1 (omega (arith, same))) ∙ sym e.0
]

-- ---- tests

pub or_none : (a : Bool) → (a || false) ≡ a
or_none true = refl
or_none false = refl

pub and_none : (a : Bool) → (a && false) ≡ false
and_none true = refl
and_none false = refl

and_all : (a : Bool) → (a && true) ≡ a
and_all true = refl
and_all false = refl

-- an entry more: the test passes at its place where it does, and elsewhere as before
at_first : {X : Type 0} (test : X → Bool) (x : X) (at : ℕ) → passes_at test (x ∷ []) at ≡ ((test x && (0 == at)) || false)
at_first test x zero = sym (and_all (test x)) ∙ sym (or_none (test x && true))
at_first test x (suc at) = sym (ap (λ b. (test x && b) || false) (is_other 0 (suc at) (λ e. omega (arith, e))) ∙ ap (λ b. b || false) (and_none (test x)))

pub one_more : {X : Type 0} (test : X → Bool) (xs : List X) (n : ℕ) (x : X) (at : ℕ) → n < length xs → x ≡ get_or xs n x
    → passes_at test (take (suc n) xs) at ≡ ((test x && (n == at)) || passes_at test (take n xs) at)
one_more test [] n x at within is = absurd (omega arith)
one_more test (y ∷ xs) zero x at within is = ap (λ z. passes_at test (z ∷ []) at) (sym is) ∙ at_first test x at
one_more test (y ∷ xs) (suc n) x zero within is =
    sym (ap (λ b. (test x && b) || test y) (is_other (suc n) 0 (λ e. omega (arith, e))) ∙ ap (λ b. b || test y) (and_none (test x)))
one_more test (y ∷ xs) (suc n) x (suc at) within is =
    one_more test xs n x at (omega arith) is ∙ ap (λ b. (test x && b) || passes_at test (take n xs) at) (sym (same_next n at))

pub both_ways : (a b : Bool) → (a ≡ true → b ≡ true) → (b ≡ true → a ≡ true) → a ≡ b
both_ways true true one other = refl
both_ways true false one other = sym (one refl)
both_ways false true one other = other refl
both_ways false false one other = refl

pub any_same : {X : Type 0} (one other : X → Bool) → ((x : X) → one x ≡ other x) → (xs : List X) → list_any one xs ≡ list_any other xs
any_same one other same [] = refl
any_same one other same (x ∷ xs) = ap (λ b. b || list_any one xs) (same x) ∙ ap (λ b. other x || b) (any_same one other same xs)

-- some of the keys
any_none : {K : Type 0} (keys : List K) → list_any (λ key. false) keys ≡ false
any_none [] = refl
any_none (key ∷ keys) = any_none keys

any_with : {K : Type 0} (on : Bool) (test : K → Bool) (keys : List K) → list_any (λ key. on && test key) keys ≡ (on && list_any test keys)
any_with true test keys = refl
any_with false test keys = any_none keys

pub any_passes : {X K : Type 0} (on : X → Bool) (test : K → X → Bool) (keys : List K) (o : Option X)
    → list_any (λ key. passes (λ x. on x && test key x) o) keys ≡ passes (λ x. on x && list_any (λ key. test key x) keys) o
any_passes on test keys None = any_none keys
any_passes on test keys (Some x) = any_with (on x) (λ key. test key x) keys

or_with : (on a b : Bool) → ((on && a) || (on && b)) ≡ (on && (a || b))
or_with true a b = refl
or_with false a b = refl

pub or_passes : {X : Type 0} (on one other : X → Bool) (o : Option X) → (passes (λ x. on x && one x) o || passes (λ x. on x && other x) o) ≡ passes (λ x. on x && (one x || other x)) o
or_passes on one other None = refl
or_passes on one other (Some x) = or_with (on x) (one x) (other x)

-- ---- rising lists

-- the numbers rise, from this one on
abbrev pub Rise : ℕ → List ℕ → Type 0
Rise from [] = ⊤
Rise from (k ∷ ks) = (from ≤ k) × Rise (suc k) ks

below_next : (a b : ℕ) → nat_cmp a b ≡ Less → suc a ≤ b
below_next a b less = (let r : MatchOrdering Less (a < b) (a ≡ b) (b < a) = ranked a b Less (sym less) in omega (arith, r))

rise_after : (x : ℕ) (xs : List ℕ) → AllByRecursion (λ y. nat_cmp x y ≡ Less) xs → IsStrictlySortedBy nat_cmp xs → Rise (suc x) xs
rise_after x [] all sorted = tt
rise_after x (y ∷ ys) all sorted = (below_next x y all.0, rise_after y ys (sorted_head nat_cmp y ys sorted) (sorted_tail nat_cmp y ys sorted))

pub rising : (xs : List ℕ) → IsStrictlySortedBy nat_cmp xs → Rise 0 xs
rising [] sorted = tt
rising (x ∷ xs) sorted = (omega arith, rise_after x xs (sorted_head nat_cmp x xs sorted) (sorted_tail nat_cmp x xs sorted))

-- none is below the first
is_below : (from j : ℕ) (ks : List ℕ) → Rise from ks → j < from → list_any (λ k. k == j) ks ≡ false
is_below from j [] rise less = refl
is_below from j (k ∷ ks) rise less =
    ap (λ b. b || list_any (λ k. k == j) ks) (is_other k j (λ e. omega (arith, e, rise.0))) ∙ is_below (suc k) j ks rise.1 (omega (arith, rise.0))

-- what numbers say of the entries from `from` on
abbrev Tells : {X : Type 0} → (X → Bool) → ℕ → List X → List ℕ → Type 0
Tells {X} test from xs ks = (at : ℕ) → list_any (λ k. k == from + at) ks ≡ passes_at test xs at

later : (from at : ℕ) (ks : List ℕ) → list_any (λ k. k == suc from + at) ks ≡ list_any (λ k. k == from + suc at) ks
later from at ks = ap (λ n. list_any (λ k. k == n) ks) (let e : suc from + at ≡ from + suc at = omega arith in e)

ends : {X : Type 0} (test : X → Bool) (from : ℕ) (ks : List ℕ) → Rise from ks → Tells test from [] ks → ks ≡ []
ends test from [] rise tells = refl
ends test from (k ∷ ks) rise tells =
    let same : k ≡ from + (k - from) = omega (arith, rise.0) in
    let e : true ≡ false = sym (ap (λ b. b || list_any (λ k'. k' == from + (k - from)) ks) (sym (ap (λ n. k == n) same) ∙ is_itself k)) ∙ tells (k - from) in
    absurd (cc)

-- the first number stands for the first entry, where that passes
first_is : (from k : ℕ) (ks : List ℕ) → Rise from (k ∷ ks) → list_any (λ j. j == from + 0) (k ∷ ks) ≡ true → k ≡ from
first_is from k ks rise found = elim (eqb_tells k from) [
  | inl e ↦ e.1
  | inr e ↦
      (let none : list_any (λ j. j == from + 0) (k ∷ ks) ≡ false = is_below (suc from) (from + 0) (k ∷ ks) (omega (arith, rise.0, e.1), rise.1) (omega arith) in
      let f : true ≡ false = sym found ∙ none in
      absurd (cc))
]

-- no number stands for it where it doesn't
past_first : (from : ℕ) (ks : List ℕ) → Rise from ks → list_any (λ j. j == from + 0) ks ≡ false → Rise (suc from) ks
past_first from [] rise none = tt
past_first from (k ∷ ks) rise none = elim (eqb_tells k from) [
  | inl e ↦
      (let here : (k == from + 0) ≡ true = ap (λ n. k == n) (let f : from + 0 ≡ k = omega (arith, e.1) in f) ∙ is_itself k in
      let f : true ≡ false = sym (ap (λ b. b || list_any (λ j. j == from + 0) ks) here) ∙ none in
      absurd (cc))
  | inr e ↦ (omega (arith, rise.0, e.1), rise.1)
]

module _ {X : Type 0} (test : X → Bool) where
  tells_on : (x : X) (xs : List X) (from : ℕ) (ks : List ℕ) → Tells test from (x ∷ xs) ks → Tells test (suc from) xs ks
  tells_on x xs from ks tells at = later from at ks ∙ tells (suc at)

  tells_behind : (x : X) (xs : List X) (from k : ℕ) (ks : List ℕ) → k ≡ from → Tells test from (x ∷ xs) (k ∷ ks) → Tells test (suc from) xs ks
  tells_behind x xs from k ks is tells at =
      later from at ks ∙ ap (λ b. b || list_any (λ j. j == from + suc at) ks) (sym (is_other k (from + suc at) (λ e. omega (arith, e, is)))) ∙ tells (suc at)

  first_or_not : (x : X) (xs : List X) (from : ℕ) (ks : List ℕ) (t : Bool) → test x ≡ t → Rise from ks → Tells test from (x ∷ xs) ks
      → ((rest : List ℕ) → Rise (suc from) rest → Tells test (suc from) xs rest → rest ≡ places_where test (suc from) xs)
      → ks ≡ cond t (from ∷ places_where test (suc from) xs) (places_where test (suc from) xs)
  first_or_not x xs from [] true is rise tells on = absurd (let e : false ≡ true = tells 0 ∙ is in cc)
  first_or_not x xs from (k ∷ ks) true is rise tells on =
      let same = first_is from k ks rise (tells 0 ∙ is) in
      ap (λ n. n ∷ ks) same ∙ ap (λ rest. from ∷ rest) (on ks (subst (λ n. Rise (suc n) ks) same rise.1) (tells_behind x xs from k ks same tells))
  first_or_not x xs from ks false is rise tells on = on ks (past_first from ks rise (tells 0 ∙ is)) (tells_on x xs from ks tells)

  -- numbers that rise and stand for the entries that pass are the places of these
  pub listed : (xs : List X) (from : ℕ) (ks : List ℕ) → Rise from ks → Tells test from xs ks → ks ≡ places_where test from xs
  listed [] from ks rise tells = ends test from ks rise tells
  listed (x ∷ xs) from ks rise tells = first_or_not x xs from ks (test x) refl rise tells (λ rest behind told. listed xs (suc from) rest behind told)

-- ---- what stands at the places

-- there are as many places as entries that pass
counted : {X : Type 0} (t : Bool) (x : X) (xs : List X) (from : ℕ) (ks : List ℕ) → length ks ≡ length xs → length (cond t (from ∷ ks) ks) ≡ length (cond t (x ∷ xs) xs)
counted true x xs from ks same = ap suc same
counted false x xs from ks same = same

pub as_many : {X : Type 0} (test : X → Bool) (xs : List X) (from : ℕ) → length (places_where test from xs) ≡ length (filter test xs)
as_many test [] from = refl
as_many test (x ∷ xs) from = counted (test x) x (filter test xs) from (places_where test (suc from) xs) (as_many test xs (suc from))

-- The number of these at k, from `from` on, is the place of an entry, which is the one of those that pass.
pub record StandsAt {X : Type 0} (from : ℕ) (xs : List X) (ks : List ℕ) (passing : List X) (k : ℕ) (d : X) : Type 0 where
  pub low : from ≤ get_or ks k 0
  pub within : get_or ks k 0 < from + length xs
  pub same : get_or xs (get_or ks k 0 - from) d ≡ get_or passing k d

module _ {X : Type 0} (d : X) where
  behind : (x : X) (xs : List X) (from : ℕ) (ks : List ℕ) (passing : List X) (k : ℕ) → StandsAt (suc from) xs ks passing k d → StandsAt from (x ∷ xs) ks passing k d
  behind x xs from ks passing k at = record {
    low = omega (arith, at.low);
    within = omega (arith, at.within);
    same = ap (λ n. get_or (x ∷ xs) n d) (let e : get_or ks k 0 - from ≡ suc (get_or ks k 0 - suc from) = omega (arith, at.low) in e) ∙ at.same;
  }

  here_or_behind : (t : Bool) (x : X) (xs : List X) (from : ℕ) (ks : List ℕ) (passing : List X) (k : ℕ) → ((j : ℕ) → j < length ks → StandsAt (suc from) xs ks passing j d)
      → k < length (cond t (from ∷ ks) ks) → StandsAt from (x ∷ xs) (cond t (from ∷ ks) ks) (cond t (x ∷ passing) passing) k d
  here_or_behind true x xs from ks passing zero on within = record {
    low = omega arith;
    within = omega arith;
    same = ap (λ n. get_or (x ∷ xs) n d) (let e : from - from ≡ 0 = omega arith in e);
  }
  here_or_behind true x xs from ks passing (suc k) on within =
      let at = behind x xs from ks passing k (on k (omega arith)) in record { low = at.low; within = at.within; same = at.same }
  here_or_behind false x xs from ks passing k on within = behind x xs from ks passing k (on k within)

  pub stands : (test : X → Bool) (xs : List X) (from k : ℕ) → k < length (places_where test from xs) → StandsAt from xs (places_where test from xs) (filter test xs) k d
  stands test [] from k within = absurd (omega arith)
  stands test (x ∷ xs) from k within =
      here_or_behind (test x) x xs from (places_where test (suc from) xs) (filter test xs) k (λ j less. stands test xs (suc from) j less) within

-- ---- filters

pub passes_on : {X : Type 0} (first second : X → Bool) → ((x : X) → second x ≡ true → first x ≡ true) → (xs : List X) → filter second (filter first xs) ≡ filter second xs
passes_on first second stronger [] = refl
passes_on first second stronger (x ∷ xs) = in_case (first x) (second x) refl refl (passes_on first second stronger xs)
  where
    in_case : (a b : Bool) → first x ≡ a → second x ≡ b → filter second (filter first xs) ≡ filter second xs → filter second (cond a (x ∷ filter first xs) (filter first xs)) ≡ cond b (x ∷ filter second xs) (filter second xs)
    in_case true b one two rest = ap (λ c. cond c (x ∷ filter second (filter first xs)) (filter second (filter first xs))) two ∙ ap (λ ys. cond b (x ∷ ys) ys) rest
    in_case false true one two rest = absurd (let e : false ≡ true = sym one ∙ stronger x two in cc)
    in_case false false one two rest = rest

-- ---- elements by their places

-- what is so of all is so of the one at a place
pub all_at : {X : Type 0} (Is : X → Type 0) (xs : List X) (i : ℕ) (x : X) → AllByRecursion Is xs → i < length xs → x ≡ get_or xs i x → Is x
all_at Is [] i x all within is = absurd (omega arith)
all_at Is (y ∷ xs) zero x all within is = subst Is (sym is) all.0
all_at Is (y ∷ xs) (suc i) x all within is = all_at Is xs i x all.1 (omega arith) is

-- what stands at a place of a list whose elements are mapped
pub mapped_at : {X Y : Type 0} (f : X → Y) (xs : List X) (ys : List Y) (i : ℕ) (x : X) (y : Y) → ys ≡ map f xs → i < length xs → x ≡ get_or xs i x → y ≡ get_or ys i y → y ≡ f x
mapped_at f xs ys i x y are within is stands = stands ∙ ap (λ zs. get_or zs i y) are ∙ of f xs i x y within is
  where
    of : {X Y : Type 0} (f : X → Y) (xs : List X) (i : ℕ) (x : X) (y : Y) → i < length xs → x ≡ get_or xs i x → get_or (map f xs) i y ≡ f x
    of f [] i x y within is = absurd (omega arith)
    of f (z ∷ xs) zero x y within is = ap f (sym is)
    of f (z ∷ xs) (suc i) x y within is = of f xs i x y (omega arith) is

-- a number of a list, whatever stands for one that isn't there
pub any_default : (ks : List ℕ) (i k : ℕ) → i < length ks → k ≡ get_or ks i k → get_or ks i 0 ≡ k
any_default [] i k within is = absurd (omega arith)
any_default (j ∷ ks) zero k within is = sym is
any_default (j ∷ ks) (suc i) k within is = any_default ks i k (omega arith) is

module _ {X : Type 0} (test : X → Bool) (xs : List X) (ks : List ℕ) (k at : ℕ) where
  -- the number at k of the places is the place of an element
  pub is_within : ks ≡ places_where test 0 xs → k < length ks → at ≡ get_or ks k at → at < length xs
  is_within are within is = (
      let here = subst (λ js. k < length js) are within in
      let one : get_or (places_where test 0 xs) k 0 ≡ at = ap (λ js. get_or js k 0) (sym are) ∙ any_default ks k at within is in
      omega (arith, one, bound xs k here))
    where
      bound : (xs : List X) (k : ℕ) → k < length (places_where test 0 xs) → get_or (places_where test 0 xs) k 0 < 0 + length xs
      bound [] k within = absurd (omega arith)
      bound (y ∷ ys) k within = (stands y test (y ∷ ys) 0 k within).within

  -- and that is the one at k of those that pass
  pub is_kth : (x : X) → ks ≡ places_where test 0 xs → k < length ks → at ≡ get_or ks k at → x ≡ get_or xs at x → x ≡ get_or (filter test xs) k x
  is_kth x are within is stood =
      let here = subst (λ js. k < length js) are within in
      let one : get_or (places_where test 0 xs) k 0 ≡ at = ap (λ js. get_or js k 0) (sym are) ∙ any_default ks k at within is in
      stood ∙ ap (λ n. get_or xs n x) (let e : at ≡ get_or (places_where test 0 xs) k 0 - 0 = omega (arith, one) in e) ∙ (stands x test xs 0 k here).same

-- what stands there doesn't depend on what stands for one that isn't there
pub same_default : {X : Type 0} (xs : List X) (i : ℕ) (a b : X) → i < length xs → get_or xs i a ≡ get_or xs i b
same_default [] i a b within = absurd (omega arith)
same_default (x ∷ xs) zero a b within = refl
same_default (x ∷ xs) (suc i) a b within = same_default xs i a b (omega arith)

-- there is an element at each place of a list
pub found_within : {X : Type 0} (xs : List X) (i : ℕ) → i < length xs → (x : X) × (slice_get xs i ≡ Some x)
found_within [] i within = absurd (omega arith)
found_within (x ∷ xs) zero within = (x, refl)
found_within (x ∷ xs) (suc i) within = found_within xs i (omega arith)

pub stands_there : {X : Type 0} (xs : List X) (i : ℕ) (x d : X) → slice_get xs i ≡ Some x → get_or xs i d ≡ x
stands_there xs i x d is = get_or_from_slice_get xs i x d is
