-- Lists of entries: which begin which, and which stand in which.
use Rattle.std.proofs.Common.{◌≡◌, ℕ, zero, suc, ◌≤◌, ◌<◌, ◌≢◌, Bool, true, false, cond, List, [], ◌∷◌, ◌++◌, length, set, drop, refl, ap, sym, ◌∙◌, subst, ⊎_elim, arith, append_assoc}
use Rattle.std.specs.Prelude.{nat_le, All}
use Rattle.std.proofs.lemmas.List.Elements.{All-cons}
use Rattle.std.proofs.Math.Seq.{drop-append_seam}
use Rattle.std.proofs.lemmas.Bool.Decides.{nat_tests}
use mathlib.Core.List.{IsPrefix}
use mathlib.Core.Option.{some, some-ne-none}
use lib.ListN.{get_elem?}
use Rattle.atomic_table.proofs.Lists.{at_set}
use Rattle.au_turn.specs.Entries.{StandsIn, AllBegin, longer}
use Rattle.au_turn.specs.EntryLaws.{stands_nothing, stands_all, stands_both, append_nothing}
use Rattle.au_turn.specs.Entries.StandsIn.{stands_none, stands_later, stands_here}

module _ {A : Type 0} where
  -- a list begins itself
  pub prefix_self : (xs : List A) → IsPrefix xs xs
  prefix_self [] = ([], refl)
  prefix_self (x ∷ xs) = (let r = prefix_self xs in r.0, ap (λ ys. x ∷ ys) (prefix_self xs).1)

  -- a list begins what is longer by some entries
  pub prefix_more : (xs ys : List A) → IsPrefix xs (xs ++ ys)
  prefix_more xs ys = (ys, refl)

  -- a beginning of a beginning is a beginning
  pub prefix_trans : (xs ys zs : List A) → IsPrefix xs ys → IsPrefix ys zs → IsPrefix xs zs
  prefix_trans xs ys zs p q = (p.0 ++ q.0, sym (append_assoc xs p.0 q.0) ∙ (ap (λ w. w ++ q.0) p.1 ∙ q.1))

  -- of two beginnings of one list the shorter begins the longer
  pub prefix_shorter : (xs ys zs : List A) → IsPrefix xs zs → IsPrefix ys zs → length xs ≤ length ys → IsPrefix xs ys
  prefix_shorter [] ys zs p q le = (ys, refl)
  prefix_shorter (x ∷ xs) [] zs p q le = absurd (omega arith)
  prefix_shorter (x ∷ xs) (y ∷ ys) [] p q le = absurd (cc (p.1))
  prefix_shorter (x ∷ xs) (y ∷ ys) (z ∷ zs) p q le =
      let heads : x ≡ y = cc (p.1, q.1) in
      let rest = prefix_shorter xs ys zs (p.0, cc (p.1)) (q.0, cc (q.1)) (omega arith) in
      (rest.0, cc (heads, rest.1))

  -- what stands in a list stands in each list that it begins
  pub stands_longer : (xs ys zs : List A) → StandsIn xs ys → IsPrefix ys zs → StandsIn xs zs
  stands_longer xs ys zs s p = subst (λ w. StandsIn xs w) p.1 (subst (λ w. StandsIn w (ys ++ p.0)) (append_nothing xs) (stands_both [] p.0 s (stands_nothing p.0)))

  -- what stands in what stands in a list stands in that list
  pub stands_trans : {ys zs : List A} → StandsIn ys zs → (xs : List A) → StandsIn xs ys → StandsIn xs zs
  stands_trans stands_none xs s = s
  stands_trans (stands_later z ys zs t) xs s = stands_later z xs zs (stands_trans t xs s)
  stands_trans (stands_here y ys zs t) _ (stands_later _ xs _ s) = stands_later y xs zs (stands_trans t xs s)
  stands_trans (stands_here y ys zs t) _ (stands_here _ xs _ s) = stands_here y xs zs (stands_trans t xs s)

  -- what holds of each entry of a list holds of each that stands in it
  pub all_stands : (P : A → Type 0) {xs ys : List A} → StandsIn xs ys → All P ys → All P xs
  all_stands P stands_none all = all
  all_stands P (stands_later y xs ys s) all = all_stands P s (λ k d lt. all (suc k) d (omega arith))
  all_stands P (stands_here y xs ys s) all = All-cons P y xs (all 0 y (omega arith)) (all_stands P s (λ k d lt. all (suc k) d (omega arith)))

  -- lists that begin a list begin each list that it begins
  pub all_begin : (xss : List (List A)) (ys zs : List A) → AllBegin xss ys → IsPrefix ys zs → AllBegin xss zs
  all_begin [] ys zs a p = tt
  all_begin (xs ∷ xss) ys zs a p = (prefix_trans xs ys zs a.0 p, all_begin xss ys zs a.1 p)

  -- what follows a beginning
  pub rest_of : (xs ys : List A) (p : IsPrefix xs ys) → drop (length xs) ys ≡ p.0
  rest_of xs ys p = ap (λ w. drop (length xs) w) (sym p.1) ∙ drop-append_seam xs p.0

  -- both begin the longer, which begins what both begin
  pub longer_fits : (xs ys zs : List A) → IsPrefix xs zs → IsPrefix ys zs → IsPrefix xs (longer xs ys) × IsPrefix ys (longer xs ys) × IsPrefix (longer xs ys) zs
  longer_fits xs ys zs p q = cases (nat_le (length ys) (length xs)) refl
    where
      cases : (b : Bool) → nat_le (length ys) (length xs) ≡ b → IsPrefix xs (cond b xs ys) × IsPrefix ys (cond b xs ys) × IsPrefix (cond b xs ys) zs
      cases true e = let le : length ys ≤ length xs = grind (arith, nat_tests) in (prefix_self xs, prefix_shorter ys xs zs q p le, p)
      cases false e = let le : length xs ≤ length ys = grind (arith, nat_tests) in (prefix_shorter xs ys zs p q le, prefix_self ys, q)

  -- an index at which there is something is below the length
  pub in_range : (l : List A) (i : ℕ) (a : A) → get_elem? l i ≡ some a → i < length l
  in_range [] i a e = absurd (some-ne-none a (sym e))
  in_range (x ∷ xs) zero a e = omega arith
  in_range (x ∷ xs) (suc i) a e = let h = in_range xs i a e in omega arith

  -- what holds of the new member and of the others holds of all
  pub all_set : (P : ℕ → A → Type 0) (l : List A) (i : ℕ) (w : A) → P i w → ((j : ℕ) (u : A) → j ≢ i → get_elem? l j ≡ some u → P j u) → (j : ℕ) (u : A) → get_elem? (set l i w) j ≡ some u → P j u
  all_set P l i w here others j u e =
      ⊎_elim
      (λ (x : (j ≡ i) × (w ≡ u)). subst (λ (y : ℕ × A). P y.0 y.1) (λ k. (sym x.0 k, x.1 k)) here)
      (λ (x : (j ≢ i) × (get_elem? l j ≡ some u)). others j u x.0 x.1)
      (at_set l i j w u e)
