-- What stands at the places of a list that is parted at a place.
use Rattle.std.proofs.Common.{◌≡◌, ◌∙◌, ◌≤◌, ◌<◌, ◌+◌, ◌-◌, refl, sym, ap, inl, inr, ◌⊎◌, ℕ, zero, suc, Bool, true, false, cond, ◌||◌, ◌&&◌, nat_lt, List, [], ◌∷◌, ◌++◌, length, map, take, drop, arith, ltb-true, ltb-false}
use Rattle.std.proofs.lemmas.Bool.Decides.{eqb_tells}
use Rattle.std.proofs.lemmas.Bool.{cases_Bool}
use Rattle.std.specs.List.{slice_get}
use Rattle.std.specs.Prelude.{◌==◌, Option, Some, None, slice_set}
use Rattle.au_pindex.specs.declared.shift.Shift.TheVariants.{Opens, Closes}
use Rattle.au_pindex.specs.Places.{passes, passes_at}
use Rattle.au_pindex.specs.descent.Shifting.{came_from}
use Rattle.au_pindex.proofs.Placing.{and_none, is_itself, is_other}

pub length_mapped : {X Y : Type 0} (f : X → Y) (xs : List X) → length (map f xs) ≡ length xs
length_mapped f [] = refl
length_mapped f (x ∷ xs) = let rest = length_mapped f xs in omega (arith, rest)

pub set_laid : {X : Type 0} (xs : List X) (i : ℕ) (x : X) → i < length xs → slice_set xs i x ≡ take i xs ++ x ∷ drop (i + 1) xs
set_laid [] i x within = absurd (omega arith)
set_laid (y ∷ xs) zero x within = refl
set_laid (y ∷ xs) (suc i) x within =
    ap (λ ys. y ∷ ys) (set_laid xs i x (omega arith)) ∙ ap (λ n. y ∷ (take i xs ++ x ∷ drop n (y ∷ xs))) (let e : suc (i + 1) ≡ suc i + 1 = omega arith in e)

-- ---- mapped

pub taken_mapped : {X Y : Type 0} (f : X → Y) (i : ℕ) (xs : List X) → map f (take i xs) ≡ take i (map f xs)
taken_mapped f zero xs = refl
taken_mapped f (suc i) [] = refl
taken_mapped f (suc i) (x ∷ xs) = ap (λ ys. f x ∷ ys) (taken_mapped f i xs)

pub dropped_mapped : {X Y : Type 0} (f : X → Y) (i : ℕ) (xs : List X) → map f (drop i xs) ≡ drop i (map f xs)
dropped_mapped f zero xs = refl
dropped_mapped f (suc i) [] = refl
dropped_mapped f (suc i) (x ∷ xs) = dropped_mapped f i xs

pub joined_mapped : {X Y : Type 0} (f : X → Y) (xs ys : List X) → map f (xs ++ ys) ≡ map f xs ++ map f ys
joined_mapped f [] ys = refl
joined_mapped f (x ∷ xs) ys = ap (λ zs. f x ∷ zs) (joined_mapped f xs ys)

-- ---- what stands where

pub in_front : {X : Type 0} (xs ys : List X) (p at : ℕ) → p ≤ length xs → at < p → slice_get (take p xs ++ ys) at ≡ slice_get xs at
in_front [] ys p at within less = absurd (omega arith)
in_front (x ∷ xs) ys zero at within less = absurd (omega arith)
in_front (x ∷ xs) ys (suc p) zero within less = refl
in_front (x ∷ xs) ys (suc p) (suc at) within less = in_front xs ys p at (omega arith) (omega arith)

pub behind : {X : Type 0} (xs ys : List X) (p k : ℕ) → p ≤ length xs → slice_get (take p xs ++ ys) (p + k) ≡ slice_get ys k
behind xs ys zero k within = ap (slice_get ys) (let e : 0 + k ≡ k = omega arith in e)
behind [] ys (suc p) k within = absurd (omega arith)
behind (x ∷ xs) ys (suc p) k within = ap (slice_get (x ∷ take p xs ++ ys)) (let e : suc p + k ≡ suc (p + k) = omega arith in e) ∙ behind xs ys p k (omega arith)

pub dropped : {X : Type 0} (xs : List X) (p k : ℕ) → slice_get (drop p xs) k ≡ slice_get xs (p + k)
dropped xs zero k = ap (slice_get xs) (let e : k ≡ 0 + k = omega arith in e)
dropped [] (suc p) k = refl
dropped (x ∷ xs) (suc p) k = dropped xs p k ∙ ap (slice_get (x ∷ xs)) (let e : suc (p + k) ≡ suc p + k = omega arith in e)

or_none : (b : Bool) → (b || false) ≡ b
or_none true = refl
or_none false = refl

and_all : (b : Bool) → (b && true) ≡ b
and_all true = refl
and_all false = refl

is_lower : (a b : ℕ) → a < b → nat_lt a b ≡ true
is_lower a b less = elim (cases_Bool (nat_lt a b)) [ inl is ↦ is | inr is ↦ absurd (omega (arith, less, ltb-false a b is)) ]

isnt_lower : (a b : ℕ) → b ≤ a → nat_lt a b ≡ false
isnt_lower a b more = elim (cases_Bool (nat_lt a b)) [ inl is ↦ absurd (omega (arith, more, ltb-true a b is)) | inr is ↦ is ]

-- where what stands at a place came from, by how it stands to the one that opens or closes
opened_below : (p at : ℕ) → at < p → came_from (Opens p) at ≡ Some at
opened_below p at less = ap (λ b. cond b (Some at) (cond (at == p) None (Some (at - 1)))) (is_lower at p less)

opened_at : (p at : ℕ) → at ≡ p → came_from (Opens p) at ≡ None
opened_at p at same =
    ap (λ b. cond b (Some at) (cond (at == p) None (Some (at - 1)))) (isnt_lower at p (omega (arith, same)))
    ∙ ap (λ b. cond b None (Some (at - 1))) (ap (λ z. z == p) same ∙ is_itself p)

opened_above : (p at : ℕ) → p < at → came_from (Opens p) at ≡ Some (at - 1)
opened_above p at more =
    ap (λ b. cond b (Some at) (cond (at == p) None (Some (at - 1)))) (isnt_lower at p (omega (arith, more)))
    ∙ ap (λ b. cond b None (Some (at - 1))) (is_other at p (λ same. omega (arith, more, same)))

closed_below : (p at : ℕ) → at < p → came_from (Closes p) at ≡ Some at
closed_below p at less = ap (λ b. cond b (Some at) (Some (at + 1))) (is_lower at p less)

closed_from : (p at : ℕ) → p ≤ at → came_from (Closes p) at ≡ Some (at + 1)
closed_from p at more = ap (λ b. cond b (Some at) (Some (at + 1))) (isnt_lower at p more)

data Stands (at p : ℕ) : Type 0 where
  below : at < p → Stands at p
  here : at ≡ p → Stands at p
  above : p < at → Stands at p

stands : (at p : ℕ) → Stands at p
stands at p = elim (cases_Bool (nat_lt at p)) [
  | inl is ↦ below (ltb-true at p is)
  | inr is ↦ elim (eqb_tells at p) [ inl e ↦ here e.1 | inr e ↦ above (omega (arith, e.1, ltb-false at p is)) ]
]

module _ {X : Type 0} (test : X → Bool) (xs : List X) where
  abbrev where_from : Option ℕ → Bool
  where_from from = passes (passes_at test xs) from

  other_place : (x : X) (p at : ℕ) (whole rest : Bool) → (p ≡ at → ⊥) → whole ≡ rest → whole ≡ ((test x && (p == at)) || rest)
  other_place x p at whole rest differ is =
      is ∙ ap (λ b. b || rest) (sym (ap (λ b. test x && b) (is_other p at differ) ∙ and_none (test x)))

  own_place : (x : X) (p at : ℕ) (whole rest : Bool) → p ≡ at → rest ≡ false → whole ≡ test x → whole ≡ ((test x && (p == at)) || rest)
  own_place x p at whole rest same none is =
      is ∙ sym (ap (λ b. (test x && b) || rest) (ap (λ z. z == at) same ∙ is_itself at) ∙ ap (λ b. b || rest) (and_all (test x)) ∙ ap (λ b. test x || b) none ∙ or_none (test x))

  -- an entry that comes to stand at a place
  pub opened : (x : X) (p : ℕ) → p ≤ length xs → (at : ℕ) → passes_at test (take p xs ++ x ∷ drop p xs) at ≡ ((test x && (p == at)) || where_from (came_from (Opens p) at))
  opened x p within at = by_place (stands at p)
    where
      by_place : Stands at p → passes_at test (take p xs ++ x ∷ drop p xs) at ≡ ((test x && (p == at)) || where_from (came_from (Opens p) at))
      by_place (below less) = other_place x p at _ _ (λ same. omega (arith, less, same)) (ap (passes test) (in_front xs (x ∷ drop p xs) p at within less) ∙ ap where_from (sym (opened_below p at less)))
      by_place (here same) =
          own_place x p at _ _ (sym same) (ap where_from (opened_at p at same))
          (ap (λ z. passes_at test (take p xs ++ x ∷ drop p xs) z) (let e : at ≡ p + 0 = omega (arith, same) in e) ∙ ap (passes test) (behind xs (x ∷ drop p xs) p 0 within))
      by_place (above more) =
          other_place x p at _ _ (λ same. omega (arith, more, same))
          (ap (λ z. passes_at test (take p xs ++ x ∷ drop p xs) z) (let e : at ≡ p + suc (at - suc p) = omega (arith, more) in e)
          ∙ ap (passes test) (behind xs (x ∷ drop p xs) p (suc (at - suc p)) within ∙ dropped xs p (at - suc p) ∙ ap (slice_get xs) (let e : p + (at - suc p) ≡ at - 1 = omega (arith, more) in e))
          ∙ ap where_from (sym (opened_above p at more)))

  -- an entry that goes
  pub closed : (p : ℕ) → p ≤ length xs → (at : ℕ) → passes_at test (take p xs ++ drop (p + 1) xs) at ≡ where_from (came_from (Closes p) at)
  closed p within at = by_place (cases_Bool (nat_lt at p))
    where
      by_place : (nat_lt at p ≡ true) ⊎ (nat_lt at p ≡ false) → passes_at test (take p xs ++ drop (p + 1) xs) at ≡ where_from (came_from (Closes p) at)
      by_place (inl is) = (let less = ltb-true at p is in ap (passes test) (in_front xs (drop (p + 1) xs) p at within less) ∙ ap where_from (sym (closed_below p at less)))
      by_place (inr is) = (
          let more = ltb-false at p is in
          ap (λ z. passes_at test (take p xs ++ drop (p + 1) xs) z) (let e : at ≡ p + (at - p) = omega (arith, more) in e)
          ∙ ap (passes test) (behind xs (drop (p + 1) xs) p (at - p) within ∙ dropped xs (p + 1) (at - p) ∙ ap (slice_get xs) (let e : p + 1 + (at - p) ≡ at + 1 = omega (arith, more) in e))
          ∙ ap where_from (sym (closed_from p at more)))

  -- an entry that another replaces
  pub replaced : (x : X) (p : ℕ) → p ≤ length xs → (from : ℕ → Option ℕ) → ((at : ℕ) → (p ≡ at → ⊥) → from at ≡ Some at) → where_from (from p) ≡ false
      → (at : ℕ) → passes_at test (take p xs ++ x ∷ drop (p + 1) xs) at ≡ ((test x && (p == at)) || where_from (from at))
  replaced x p within from others own at = by_place (stands at p)
    where
      by_place : Stands at p → passes_at test (take p xs ++ x ∷ drop (p + 1) xs) at ≡ ((test x && (p == at)) || where_from (from at))
      by_place (below less) = other_place x p at _ _ (λ same. omega (arith, less, same)) (ap (passes test) (in_front xs (x ∷ drop (p + 1) xs) p at within less) ∙ ap where_from (sym (others at (λ same. omega (arith, less, same)))))
      by_place (here same) =
          own_place x p at _ _ (sym same) (ap (λ z. where_from (from z)) same ∙ own)
          (ap (λ z. passes_at test (take p xs ++ x ∷ drop (p + 1) xs) z) (let e : at ≡ p + 0 = omega (arith, same) in e) ∙ ap (passes test) (behind xs (x ∷ drop (p + 1) xs) p 0 within))
      by_place (above more) =
          other_place x p at _ _ (λ same. omega (arith, more, same))
          (ap (λ z. passes_at test (take p xs ++ x ∷ drop (p + 1) xs) z) (let e : at ≡ p + suc (at - suc p) = omega (arith, more) in e)
          ∙ ap (passes test) (behind xs (x ∷ drop (p + 1) xs) p (suc (at - suc p)) within ∙ dropped xs (p + 1) (at - suc p) ∙ ap (slice_get xs) (let e : p + 1 + (at - suc p) ≡ at = omega (arith, more) in e))
          ∙ ap where_from (sym (others at (λ same. omega (arith, more, same)))))
