-- The places of one table stand together: what stands in front of them or behind them is of others.
use Rattle.std.proofs.Common.{◌≡◌, ◌∙◌, ℕ, zero, suc, ◌+◌, ◌≤◌, Bool, true, false, List, [], ◌∷◌, ◌++◌, filter, take, drop, refl, sym, ap, ap₂, arith, one-add, take-append-drop}
use Rattle.std.specs.List.{list_all, list_any, position_or_len}
use Rattle.std.proofs.lemmas.Bool.{and_from, and_parts}
use Rattle.std.proofs.lemmas.Grind.{common_steps}
use Rattle.std.proofs.lemmas.List.Elements.{filter-append}
use Rattle.std.proofs.lemmas.List.Folds.{list_all-append}
use Rattle.au_base.specs.declared.numbers.RowNo.{RowNo}
use Rattle.au_rows.specs.declared.place.Place.{Place}
use Rattle.au_rows.specs.Blocks.{goes_past, joined, place_earlier, place_past}
use Rattle.au_rows.specs.Ends.{names_of}
use Rattle.au_rows.specs.Kept.{place_elsewhere, place_from}
use Rattle.au_rows.specs.Order.{in_order, is_before}
use Rattle.au_rows.proofs.BlockLemmas.{joined-append, order-back}
use Rattle.au_rows.proofs.SweepLemmas.{none-goes}
use Rattle.au_rows.proofs.ViewLemmas.{is_past}

abbrev none : RowNo
none = record { 0 = 0 }

module _ (t : ℕ) where
  one-earlier : (p : Place) → place_earlier t none p ≡ true → place_elsewhere t p ≡ true
  one-earlier p e = grind (arith, common_steps)

  one-past : (p : Place) → place_past (t + 1) none p ≡ true → is_past t p ≡ true
  one-past p e = grind (arith, common_steps)

  past-other : (p : Place) → is_past t p ≡ true → place_elsewhere t p ≡ true
  past-other p e = grind (arith, common_steps)

  past-next : (p q : Place) → is_past t p ≡ true → is_before p q ≡ true → is_past t q ≡ true
  past-next p q e b = grind (arith, common_steps)

  earlier-elsewhere : (ps : List Place) → list_all (place_earlier t none) ps ≡ true → list_all (place_elsewhere t) ps ≡ true
  earlier-elsewhere [] h = refl
  earlier-elsewhere (p ∷ ps) h =
      let parts = and_parts (place_earlier t none p) (list_all (place_earlier t none) ps) h in
      and_from (place_elsewhere t p) (list_all (place_elsewhere t) ps) (one-earlier p parts.0) (earlier-elsewhere ps parts.1)

  later-elsewhere : (p : Place) (ps : List Place) → is_past t p ≡ true → list_all (is_before p) ps ≡ true → list_all (place_elsewhere t) ps ≡ true
  later-elsewhere p [] e later = refl
  later-elsewhere p (q ∷ qs) e later =
      let parts = and_parts (is_before p q) (list_all (is_before p) qs) later in
      and_from (place_elsewhere t q) (list_all (place_elsewhere t) qs) (past-other q (past-next p q e parts.0)) (later-elsewhere p qs e parts.1)

  past-elsewhere : (ps : List Place) → goes_past (t + 1) none ps ≡ true → in_order ps ≡ true → list_all (place_elsewhere t) ps ≡ true
  past-elsewhere [] past o = refl
  past-elsewhere (p ∷ ps) past o =
      let first = one-past p past in
      let later = (and_parts (list_all (is_before p) ps) (in_order ps) o).0 in
      and_from (place_elsewhere t p) (list_all (place_elsewhere t) ps) (past-other p first) (later-elsewhere p ps first later)

  -- nothing of the table stands behind the block in which its places end
  pub behind-kept : (blocks : List (List Place)) (k : ℕ) → in_order (joined blocks) ≡ true → goes_past (t + 1) none (joined (drop k blocks)) ≡ true
      → joined (drop k blocks) ≡ filter (place_elsewhere t) (joined (drop k blocks))
  behind-kept blocks k o past =
      let parts : joined (take k blocks) ++ joined (drop k blocks) ≡ joined blocks = sym (joined-append (take k blocks) (drop k blocks)) ∙ ap joined (take-append-drop k blocks) in
      let order : in_order (joined (drop k blocks)) ≡ true = order-back (joined (take k blocks)) (joined (drop k blocks)) (ap in_order parts ∙ o) in
      sym (none-goes (place_elsewhere t) (joined (drop k blocks)) (past-elsewhere (joined (drop k blocks)) past order))

  all-front : (p : Place → Bool) (blocks : List (List Place)) (m n : ℕ) → m ≤ n → list_all p (joined (take n blocks)) ≡ true → list_all p (joined (take m blocks)) ≡ true
  all-front p [] zero n le h = refl
  all-front p [] (suc m) n le h = refl
  all-front p (b ∷ bs) zero n le h = refl
  all-front p (b ∷ bs) (suc m) zero le h = absurd (omega arith)
  all-front p (b ∷ bs) (suc m) (suc n) le h =
      let both = and_parts (list_all p b) (list_all p (joined (take n bs))) (sym (list_all-append p b (joined (take n bs))) ∙ h) in
      list_all-append p b (joined (take m bs)) ∙ and_from (list_all p b) (list_all p (joined (take m bs))) both.0 (all-front p bs m n (omega arith) both.1)

  -- nothing of the table stands in front of the block in which its places begin
  pub span-kept : (old new : List (List Place)) (at first : ℕ) → at ≤ first → list_all (place_earlier t none) (joined (take first old)) ≡ true
      → take at new ≡ take at old → joined (drop at new) ≡ filter (place_elsewhere t) (joined (drop at old))
      → joined new ≡ filter (place_elsewhere t) (joined old)
  span-kept old new at first le before front back =
      let earlier = all-front (place_earlier t none) old at first le before in
      let kept : joined (take at new) ≡ filter (place_elsewhere t) (joined (take at old)) = ap joined front ∙ sym (none-goes (place_elsewhere t) (joined (take at old)) (earlier-elsewhere (joined (take at old)) earlier)) in
      ap joined (sym (take-append-drop at new))
      ∙ (joined-append (take at new) (drop at new)
      ∙ (ap₂ (λ (xs ys : List Place). xs ++ ys) kept back
      ∙ (sym (filter-append (place_elsewhere t) (joined (take at old)) (joined (drop at old)))
      ∙ ap (filter (place_elsewhere t)) (sym (joined-append (take at old) (drop at old)) ∙ ap joined (take-append-drop at old)))))

  module _ (slot : ℕ) where
    not-named : (p : Place) → place_from t none p ≡ false → names_of t slot p ≡ false
    not-named p h = grind (arith, common_steps)

    past-not-named : (p : Place) → is_past t p ≡ true → names_of t slot p ≡ false
    past-not-named p h = grind (arith, common_steps)

    named_step : (p : Place) (ps : List Place) (b : Bool) → place_from t none p ≡ b
        → list_any (names_of t slot) (drop (position_or_len (place_from t none) ps) ps) ≡ list_any (names_of t slot) ps
        → list_any (names_of t slot) (drop (position_or_len (place_from t none) (p ∷ ps)) (p ∷ ps)) ≡ list_any (names_of t slot) (p ∷ ps)
    named_step p ps true e rest = rw e refl
    named_step p ps false e rest = rw (e, one-add, not-named p e) rest

    -- no place before the table's first one is the table's
    pub named-drop : (ps : List Place) → list_any (names_of t slot) (drop (position_or_len (place_from t none) ps) ps) ≡ list_any (names_of t slot) ps
    named-drop [] = refl
    named-drop (p ∷ ps) = named_step p ps (place_from t none p) refl (named-drop ps)

    -- and none behind a place of a later table
    pub named-past : (ps : List Place) → list_all (is_past t) ps ≡ true → list_any (names_of t slot) ps ≡ false
    named-past [] h = refl
    named-past (p ∷ ps) h =
        let parts = and_parts (is_past t p) (list_all (is_past t) ps) h in
        rw (past-not-named p parts.0) (named-past ps parts.1)

pub all-drop : {X : Type 0} (p : X → Bool) (xs : List X) (n : ℕ) → list_all p xs ≡ true → list_all p (drop n xs) ≡ true
all-drop p [] n h = grind (arith, common_steps)
all-drop p (x ∷ xs) zero h = h
all-drop p (x ∷ xs) (suc n) h = all-drop p xs n (and_parts (p x) (list_all p xs) h).1
