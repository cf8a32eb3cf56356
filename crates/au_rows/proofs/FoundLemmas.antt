-- What is found among places after one of them is written or taken away.
use Rattle.std.proofs.Common.{◌≡◌, ◌∙◌, ℕ, Bool, true, false, cond, List, [], ◌∷◌, ap, refl, arith, None, Some, ◌+◌, ◌≤◌, ◌++◌}
use Rattle.std.specs.List.{list_all, count_by}
use Rattle.std.proofs.lemmas.Grind.{common_steps}
use Rattle.au_base.specs.declared.numbers.RowNo.{RowNo}
use Rattle.au_rows.specs.Edits.{edited, found}
use Rattle.au_rows.specs.Held.{is_this}
use Rattle.au_rows.specs.declared.place.Place.{Place}
use Rattle.au_rows.specs.Kept.{place_from, place_at, place_in}
use Rattle.au_rows.specs.Order.{is_before, in_order}

-- counting over an edit
pub count-edited : {X : Type 0} (f from at : X → Bool) (xs ys : List X) → count_by f (edited from at xs ys) ≤ count_by f xs + count_by f ys
count-edited f from at [] ys = grind (arith, common_steps)
count-edited f from at (x ∷ xs) ys = let rest = count-edited f from at xs ys in step (from x) (at x) rest
  where
    step : (b a : Bool) → count_by f (edited from at xs ys) ≤ count_by f xs + count_by f ys
        → count_by f (cond b (ys ++ (cond a xs (x ∷ xs))) (x ∷ edited from at xs ys)) ≤ count_by f (x ∷ xs) + count_by f ys
    step true true rest = grind (arith, common_steps)
    step true false rest = grind (arith, common_steps)
    step false a rest = grind (arith, common_steps)

pub count-hidden : {X : Type 0} (f from at : X → Bool) (xs : List X) (x y : X) → found from at xs ≡ Some x → f x ≡ true → f y ≡ false
    → count_by f (edited from at xs (y ∷ [])) + 1 ≡ count_by f xs
count-hidden f from at [] x y is shown hidden = cc
count-hidden f from at (z ∷ zs) x y is shown hidden = step (from z) (at z) (λ later. count-hidden f from at zs x y later shown hidden) is
  where
    step : (b a : Bool) → (found from at zs ≡ Some x → count_by f (edited from at zs (y ∷ [])) + 1 ≡ count_by f zs)
        → cond b (cond a (Some z) None) (found from at zs) ≡ Some x
        → count_by f (cond b ((y ∷ []) ++ (cond a zs (z ∷ zs))) (z ∷ edited from at zs (y ∷ []))) + 1 ≡ count_by f (z ∷ zs)
    step true true rest e = let same : z ≡ x = cc in let passes : f z ≡ true = ap f same ∙ shown in grind (arith, common_steps)
    step true false rest e = cc
    step false a rest e = let later = rest e in grind (arith, common_steps)

-- nothing later is an earlier row
pub none-after : (t : ℕ) (n : RowNo) (p : Place) (ps : List Place) → place_from t n p ≡ true → list_all (is_before p) ps ≡ true → place_in t n ps ≡ None
none-after t n p [] f later = refl
none-after t n p (q ∷ ps) f later =
    let before : is_before p q ≡ true = grind arith in
    let from : place_from t n q ≡ true = later_from f before in
    let no : place_at t n q ≡ false = not_at f before in
    rw (from, no) refl
  where
    later_from : place_from t n p ≡ true → is_before p q ≡ true → place_from t n q ≡ true
    later_from f b = grind (arith, common_steps)

    not_at : place_from t n p ≡ true → is_before p q ≡ true → place_at t n q ≡ false
    not_at f b = grind (arith, common_steps)

module _ (table : ℕ) (number : RowNo) where
  -- the row that is written is found
  pub found-written : (places : List Place) (y : Place) → y.table ≡ table → y.number.0 ≡ number.0
      → place_in table number (edited (place_from table number) (place_at table number) places (y ∷ [])) ≡ Some y
  found-written places y yt yn = go places
    where
      first : place_from table number y ≡ true
      first = grind (arith, common_steps)

      here : place_at table number y ≡ true
      here = grind (arith, common_steps)

      step : (p : Place) (ps : List Place) (b : Bool) → place_from table number p ≡ b → place_in table number (edited (place_from table number) (place_at table number) ps (y ∷ [])) ≡ Some y
          → place_in table number (edited (place_from table number) (place_at table number) (p ∷ ps) (y ∷ [])) ≡ Some y
      step p ps true f rest = rw (f, first, here) refl
      step p ps false f rest = rw (f, f) rest

      go : (ps : List Place) → place_in table number (edited (place_from table number) (place_at table number) ps (y ∷ [])) ≡ Some y
      go [] = rw (first, here) refl
      go (p ∷ ps) = step p ps (place_from table number p) refl (go ps)

  module _ (t : ℕ) (n : RowNo) (ne : is_this table number t n ≡ false) where
    -- another row is found as before
    pub found-other-written : (places : List Place) (y : Place) → y.table ≡ table → y.number.0 ≡ number.0 → in_order places ≡ true
        → place_in t n (edited (place_from table number) (place_at table number) places (y ∷ [])) ≡ place_in t n places
    found-other-written places y yt yn o = go places o
      where
        not_y : place_at t n y ≡ false
        not_y = grind (arith, common_steps)

        not_this : (p : Place) → place_at table number p ≡ true → place_at t n p ≡ false
        not_this p a = grind (arith, common_steps)

        same_from : (p : Place) → place_at table number p ≡ true → place_from t n p ≡ place_from t n y
        same_from p a = grind (arith, common_steps)

        from_on : (p : Place) → place_from table number p ≡ true → place_at table number p ≡ false → place_from t n y ≡ true → place_from t n p ≡ true
        from_on p f a c = grind (arith, common_steps)

        past : (p : Place) → place_from table number p ≡ true → place_at table number p ≡ false → place_from t n y ≡ true → place_at t n p ≡ false
        past p f a c = grind (arith, common_steps)

        step : (p : Place) (ps : List Place) (b a c : Bool) → place_from table number p ≡ b → place_at table number p ≡ a → place_from t n y ≡ c
            → place_in t n (edited (place_from table number) (place_at table number) ps (y ∷ [])) ≡ place_in t n ps
            → place_in t n (edited (place_from table number) (place_at table number) (p ∷ ps) (y ∷ [])) ≡ place_in t n (p ∷ ps)
        step p ps true true true f a c rest = rw (f, a, c, not_y, same_from p a ∙ c, not_this p a) refl
        step p ps true true false f a c rest = rw (f, a, c, same_from p a ∙ c) refl
        step p ps true false true f a c rest = rw (f, a, c, not_y, from_on p f a c, past p f a c) refl
        step p ps true false false f a c rest = rw (f, a, c) refl
        step p ps false a c f at e rest = rw f (ap (λ o. cond (place_from t n p) (cond (place_at t n p) (Some p) None) o) rest)

        last : (c : Bool) → place_from t n y ≡ c → place_in t n (y ∷ []) ≡ None
        last true c = rw (c, not_y) refl
        last false c = rw c refl

        go : (ps : List Place) → in_order ps ≡ true → place_in t n (edited (place_from table number) (place_at table number) ps (y ∷ [])) ≡ place_in t n ps
        go [] o = last (place_from t n y) refl
        go (p ∷ ps) o =
            let rest : in_order ps ≡ true = grind arith in
            step p ps (place_from table number p) (place_at table number p) (place_from t n y) refl refl refl (go ps rest)
