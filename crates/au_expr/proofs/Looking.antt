-- Places that are met one by one.
use Rattle.std.proofs.Common.{◌≡◌, ◌∙◌, refl, sym, ℕ, ◌+◌, Option, Ok, Err, List, [], ◌∷◌, ◌++◌}
use Rattle.std.specs.List.{enumerate_from, flat_map}
use Rattle.au_expr.specs.declared.lookup.Meant.{Meant}
use Rattle.au_expr.specs.declared.lookup.Meant.TheVariants.{Nothing, One, Several}
use Rattle.au_expr.specs.declared.placed.Place.{Place}
use Rattle.au_expr.specs.Descent.{meant, meant_from, meant_in_ranges, with_place}
use Rattle.au_expr.specs.Names.{Finds, places, places_of}
use Rattle.au_base.specs.Codes.{UNKNOWN_COLUMN, AMBIGUOUS_COLUMN}
use Rattle.au_expr.specs.Rows.{Range}

pub meant_append : (before : Meant) (xs ys : List Place) → meant_from before (xs ++ ys) ≡ meant_from (meant_from before xs) ys
meant_append before [] ys = refl
meant_append before (x ∷ xs) ys = meant_append (with_place before x) xs ys

several : (ps : List Place) → meant_from Several ps ≡ Several
several [] = refl
several (p ∷ ps) = several ps

pub meant_is : (ps : List Place) → meant_from Nothing ps ≡ meant ps
meant_is [] = refl
meant_is (p ∷ []) = refl
meant_is (p ∷ q ∷ ps) = several ps

ranges_from : (written : Option (List ℕ)) (name : List ℕ) (before : Meant) (number : ℕ) (ranges : List Range)
    → meant_in_ranges written name before number ranges ≡ meant_from before (flat_map (places_of written name) (enumerate_from number ranges))
ranges_from written name before number [] = refl
ranges_from written name before number (range ∷ ranges) =
    ranges_from written name (meant_from before (places_of written name (number, range))) (number + 1) ranges
    ∙ sym (meant_append before (places_of written name (number, range)) (flat_map (places_of written name) (enumerate_from (number + 1) ranges)))

pub ranges_are : (written : Option (List ℕ)) (name : List ℕ) (ranges : List Range) → meant_in_ranges written name Nothing 0 ranges ≡ meant (places ranges written name)
ranges_are written name ranges = ranges_from written name Nothing 0 ranges ∙ meant_is (places ranges written name)

pub one_is : (ps : List Place) (p : Place) → One p ≡ meant ps → Finds ps (Ok p)
one_is [] p h = absurd (cc)
one_is (q ∷ []) p h = cc
one_is (q ∷ r ∷ ps) p h = absurd (cc)

pub none_is : (ps : List Place) → Nothing ≡ meant ps → Finds ps (Err UNKNOWN_COLUMN)
none_is [] h = refl
none_is (q ∷ []) h = absurd (cc)
none_is (q ∷ r ∷ ps) h = absurd (cc)

pub several_are : (ps : List Place) → Several ≡ meant ps → Finds ps (Err AMBIGUOUS_COLUMN)
several_are [] h = absurd (cc)
several_are (q ∷ []) h = absurd (cc)
several_are (q ∷ r ∷ ps) h = refl
