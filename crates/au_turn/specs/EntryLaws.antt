-- Laws of entries that stand in lists, for callers of a turn.
use Rattle.std.proofs.Common.{◌≡◌, List, [], ◌∷◌, ◌++◌, refl, ap}
use Rattle.au_turn.specs.Entries.{StandsIn}
use Rattle.au_turn.specs.Entries.StandsIn.{stands_none, stands_later, stands_here}

module _ {A : Type 0} where
  -- no entries stand in any list
  pub stands_nothing : (ys : List A) → StandsIn [] ys
  stands_nothing [] = stands_none
  stands_nothing (y ∷ ys) = stands_later y [] ys (stands_nothing ys)

  -- a list stands in itself
  pub stands_all : (ys : List A) → StandsIn ys ys
  stands_all [] = stands_none
  stands_all (y ∷ ys) = stands_here y ys ys (stands_all ys)

  -- what stands in two parts stands in both together
  pub stands_both : {xs ys : List A} (zs ws : List A) → StandsIn xs ys → StandsIn zs ws → StandsIn (xs ++ zs) (ys ++ ws)
  stands_both zs ws stands_none t = t
  stands_both zs ws (stands_later x xs ys s) t = stands_later x (xs ++ zs) (ys ++ ws) (stands_both zs ws s t)
  stands_both zs ws (stands_here x xs ys s) t = stands_here x (xs ++ zs) (ys ++ ws) (stands_both zs ws s t)

  -- nothing is added
  pub append_nothing : (xs : List A) → xs ++ [] ≡ xs
  append_nothing [] = refl
  append_nothing (x ∷ xs) = ap (λ ys. x ∷ ys) (append_nothing xs)
