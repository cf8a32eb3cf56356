-- What is left when the places of rows of which nothing is left are taken away.
use Rattle.std.proofs.Common.{◌≡◌, ◌∙◌, inl, inr, ℕ, Bool, true, false, cond, is_some, ◌||◌, ◌⊎◌, List, [], ◌∷◌, ◌++◌, filter, refl, ap, arith, Option, Some, None, map}
use Rattle.std.specs.List.{list_all}
use Rattle.std.proofs.lemmas.Grind.{common_steps}
use Rattle.au_base.specs.declared.numbers.RowNo.{RowNo}
use Rattle.au_base.specs.declared.numbers.ClientNo.{ClientNo}
use Rattle.au_rows.specs.declared.ending.Ending.{Ending}
use Rattle.au_rows.specs.declared.place.Place.{Place}
use Rattle.au_rows.specs.declared.version.Version.{Version}
use Rattle.au_rows.specs.Chains.{is_slot}
use Rattle.au_rows.specs.Ends.{RowEnded, is_bare}
use Rattle.au_rows.specs.Held.{all_ended, is_by, is_left, row_ended}
use Rattle.au_rows.specs.Kept.{held_of, is_whole, owner_in, place_at, place_from, place_in, place_left, place_names, place_numbered, place_open, place_shown}
use Rattle.au_rows.specs.Order.{in_order, is_before}
use Rattle.au_rows.proofs.DropLemmas.{all-filter, count-filter, order-filter}
use Rattle.au_rows.specs.Edits.{edited}
use Rattle.au_rows.proofs.EditLemmas.{all_edited}
use Rattle.au_rows.proofs.EndLemmas.{found_passes}
use Rattle.std.proofs.lemmas.Bool.{and_parts}
use Rattle.au_rows.proofs.FoundLemmas.{none-after}
use Rattle.au_rows.proofs.UsedLemmas.{any-filter}

pub all-kept : {X : Type 0} (q : X → Bool) (xs : List X) → list_all q (filter q xs) ≡ true
all-kept q [] = refl
all-kept q (x ∷ xs) = step (q x) refl (all-kept q xs)
  where
    step : (b : Bool) → q x ≡ b → list_all q (filter q xs) ≡ true → list_all q (cond b (x ∷ filter q xs) (filter q xs)) ≡ true
    step true h rest = rw (h, rest) refl
    step false h rest = rest

pub none-goes : {X : Type 0} (q : X → Bool) (xs : List X) → list_all q xs ≡ true → filter q xs ≡ xs
none-goes q [] h = refl
none-goes q (x ∷ xs) h = grind (arith, common_steps, none-goes q xs)

-- where all pass, an edit by an element that passes leaves all of them passing
pub edited-left : {X : Type 0} (q from at : X → Bool) (xs : List X) (y : X) → q y ≡ true → list_all q xs ≡ true → filter q (edited from at xs (y ∷ [])) ≡ edited from at xs (y ∷ [])
edited-left q from at xs y passes all = none-goes q (edited from at xs (y ∷ [])) (all_edited q from at xs (y ∷ []) all (rw passes refl))

-- and one by an element that fails takes it away
pub edited-gone : {X : Type 0} (q from at : X → Bool) (xs : List X) (y : X) → q y ≡ false → list_all q xs ≡ true → filter q (edited from at xs (y ∷ [])) ≡ edited from at xs []
edited-gone q from at [] y fails all = rw fails refl
edited-gone {X = X} q from at (x ∷ xs) y fails all = go (from x) (at x) (edited-gone q from at xs y fails (and_parts (q x) (list_all q xs) all).1)
  where
    here : q x ≡ true
    here = (and_parts (q x) (list_all q xs) all).0

    rest : filter q xs ≡ xs
    rest = none-goes q xs (and_parts (q x) (list_all q xs) all).1

    go : (f a : Bool) → filter q (edited from at xs (y ∷ [])) ≡ edited from at xs []
        → filter q (cond f ((y ∷ []) ++ cond a xs (x ∷ xs)) (x ∷ edited from at xs (y ∷ []))) ≡ cond f ([] ++ cond a xs (x ∷ xs)) (x ∷ edited from at xs [])
    go true true later = rw fails rest
    go true false later = rw (fails, here) (ap (λ (zs : List X). x ∷ zs) rest)
    go false a later = rw here (ap (λ (zs : List X). x ∷ zs) later)

abbrev if_so : Bool → Place → Option Place
if_so true place = Some place
if_so false place = None

-- the place, where something of its row is left
abbrev if_left : Option Place → Option Place
if_left None = None
if_left (Some place) = if_so (place_left place) place

-- a row is found as before, where something of it is left
found-left : (t : ℕ) (n : RowNo) (ps : List Place) → in_order ps ≡ true → place_in t n (filter place_left ps) ≡ if_left (place_in t n ps)
found-left t n [] o = refl
found-left t n (p ∷ ps) o =
    let later : list_all (is_before p) ps ≡ true = grind arith in
    let rest : in_order ps ≡ true = grind arith in
    step (place_left p) (place_from t n p) (place_at t n p) refl refl refl (all-filter (is_before p) place_left ps later) (found-left t n ps rest)
  where
    step : (l f a : Bool) → place_left p ≡ l → place_from t n p ≡ f → place_at t n p ≡ a → list_all (is_before p) (filter place_left ps) ≡ true
        → place_in t n (filter place_left ps) ≡ if_left (place_in t n ps)
        → place_in t n (filter place_left (p ∷ ps)) ≡ if_left (place_in t n (p ∷ ps))
    step true true true l f a later rest = rw (l, f, a, l) refl
    step true true false l f a later rest = rw (l, f, a) refl
    step true false a l f at later rest = rw (l, f) rest
    step false true true l f a later rest = rw (l, f, a, l) (none-after t n p (filter place_left ps) f later)
    step false true false l f a later rest = rw (l, f, a) (none-after t n p (filter place_left ps) f later)
    step false false a l f at later rest = rw (l, f) rest

-- what was left stays, and a place that goes is that of a row without unsettled changes
stays-left : (o : Option Place) → ((p : Place) → o ≡ Some p → place_left p ≡ true) → if_left o ≡ o
stays-left None left = refl
stays-left (Some p) left = rw (left p refl) refl

bare-left : (o : Option Place) → is_bare o ≡ true → is_bare (if_left o) ≡ true
bare-left None h = refl
bare-left (Some p) h = step (place_left p) refl
  where
    step : (b : Bool) → place_left p ≡ b → is_bare (if_left (Some p)) ≡ true
    step true l = rw l h
    step false l = rw l refl

module _ (e : Ending) (by : ClientNo) (slots : List (Option Version)) where
  bare-row : (p : Place) (s : Option ℕ) (w : Option ClientNo) → p.settled ≡ s → p.owner ≡ w → (is_some s || is_some w) ≡ false → is_left (row_ended e by (held_of slots p)) ≡ false
  bare-row p None None es ew l = rw (ew, es) refl
  bare-row p None (Some owner) es ew l = cc
  bare-row p (Some slot) w es ew l = cc

  -- a row of which nothing is left shows nowhere
  swept-rows : (ps : List Place) → all_ended e by (map (held_of slots) (filter place_left ps)) ≡ all_ended e by (map (held_of slots) ps)
  swept-rows [] = refl
  swept-rows (p ∷ ps) = step (place_left p) refl (swept-rows ps)
    where
      step : (b : Bool) → place_left p ≡ b → all_ended e by (map (held_of slots) (filter place_left ps)) ≡ all_ended e by (map (held_of slots) ps)
          → all_ended e by (map (held_of slots) (filter place_left (p ∷ ps))) ≡ all_ended e by (map (held_of slots) (p ∷ ps))
      step true l rest = rw (l, rest) refl
      step false l rest = rw (l, bare-row p p.settled p.owner refl refl l) rest

names-left : (slot : ℕ) (p : Place) → place_names slot p ≡ true → place_left p ≡ true
names-left slot p h = step p.settled refl h
  where
    step : (s : Option ℕ) → p.settled ≡ s → is_slot slot p.settled ≡ true → place_left p ≡ true
    step None es n = let none : false ≡ true = rw es at n in cc
    step (Some s) es n = rw es refl

module _ (e : Ending) (table : ℕ) (number : RowNo) (by : ClientNo) (old new : List Place) (before after : List (Option Version))
    (left : list_all place_left old ≡ true) (done : RowEnded e table number by old before new after) where
  was-left : (t : ℕ) (n : RowNo) (p : Place) → place_in t n old ≡ Some p → place_left p ≡ true
  was-left t n p is = found_passes place_left (place_from t n) (place_at t n) old p left is

  same-left : (t : ℕ) (n : RowNo) → place_in t n new ≡ place_in t n old → place_in t n (filter place_left new) ≡ place_in t n old
  same-left t n same = found-left t n new done.order ∙ (ap if_left same ∙ stays-left (place_in t n old) (was-left t n))

  here : (is_bare (place_in table number new) ≡ true) ⊎ ((is_by by (owner_in table number old) ≡ false) × (place_in table number new ≡ place_in table number old))
      → (is_bare (place_in table number (filter place_left new)) ≡ true) ⊎ ((is_by by (owner_in table number old) ≡ false) × (place_in table number (filter place_left new) ≡ place_in table number old))
  here (inl bare) = inl (ap is_bare (found-left table number new done.order) ∙ bare-left (place_in table number new) bare)
  here (inr kept) = inr (kept.0, same-left table number kept.1)

  -- a row's changes have ended also where its place is taken away if nothing is left of it
  pub swept : RowEnded e table number by old before (filter place_left new) after
  swept = record {
    order = order-filter place_left new done.order;
    whole = all-filter (is_whole after) place_left new done.whole;
    open_tables = λ tables h. all-filter (place_open tables) place_left new (done.open_tables tables h);
    numbered = λ h. all-filter place_numbered place_left new (done.numbered h);
    rows = swept-rows e by after new ∙ done.rows;
    elsewhere = done.elsewhere;
    frees = done.frees;
    others = λ t n ne. same-left t n (done.others t n ne);
    here = here done.here;
    shown = let fewer = count-filter place_shown place_left new in let shown = done.shown in omega arith;
    keeps = λ slot some names. any-filter (place_names slot) place_left new (done.keeps slot some names) (names-left slot);
  }
