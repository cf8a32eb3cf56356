-- A list in order is one longer at most behind one that is put in.
use Rattle.std.proofs.Common.{◌≡◌, ◌≤◌, ◌+◌, suc, Bool, true, false, cond, List, [], ◌∷◌, ℕ, length, filter, refl, arith}
use Rattle.std.specs.Ordering.{is_gt, is_lt}
use Rattle.std.specs.declared.cmp.Ordering.{Ordering}
use Rattle.std.specs.declared.cmp.Ordering.TheVariants.{Less, Equal, Greater}
use Rattle.std.proofs.lemmas.List.{length-append}
use Rattle.au_entries.specs.Changing.{put_in_order}

kept_count : (o : Ordering) (m n k : ℕ) (lesser greater : ℕ) → m + n ≤ k → lesser ≡ cond (is_lt o) (suc m) m → greater ≡ cond (is_gt o) (suc n) n → lesser + greater ≤ suc k
kept_count Less m n k lesser greater few one other = omega (arith, few, one, other)
kept_count Equal m n k lesser greater few one other = omega (arith, few, one, other)
kept_count Greater m n k lesser greater few one other = omega (arith, few, one, other)

length_cond : {X : Type 0} (b : Bool) (x : X) (xs : List X) → length (cond b (x ∷ xs) xs) ≡ cond b (suc (length xs)) (length xs)
length_cond true x xs = refl
length_cond false x xs = refl

-- those before and those behind are no more than all
apart_count : {X : Type 0} (order : X → Ordering) (xs : List X) → length (filter (λ x. is_lt (order x)) xs) + length (filter (λ x. is_gt (order x)) xs) ≤ length xs
apart_count order [] = omega arith
apart_count order (x ∷ xs) =
    kept_count (order x) (length (filter (λ y. is_lt (order y)) xs)) (length (filter (λ y. is_gt (order y)) xs)) (length xs) _ _ (apart_count order xs)
    (length_cond (is_lt (order x)) x (filter (λ y. is_lt (order y)) xs)) (length_cond (is_gt (order x)) x (filter (λ y. is_gt (order y)) xs))

put_length : {X : Type 0} (order : X → Ordering) (x : X) (xs : List X) → length (put_in_order order x xs) ≡ length (filter (λ y. is_lt (order y)) xs) + suc (length (filter (λ y. is_gt (order y)) xs))
put_length order x xs = length-append (filter (λ y. is_lt (order y)) xs) (x ∷ filter (λ y. is_gt (order y)) xs)

-- one more at most
pub put_more : {X : Type 0} (order : X → Ordering) (x : X) (xs : List X) → length (put_in_order order x xs) ≤ suc (length xs)
put_more order x xs = let long = put_length order x xs in let few = apart_count order xs in omega (arith, long, few)
