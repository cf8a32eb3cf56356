-- What the order of the places gives, and what keeps it.
use Rattle.std.proofs.Common.{◌≡◌, ℕ, zero, suc, ◌<◌, ◌≤◌, Bool, true, false, List, [], ◌∷◌, length, get_or, refl, arith, Option, cond, ◌++◌}
use Rattle.std.specs.List.{list_all}
use Rattle.std.proofs.lemmas.Grind.{common_steps}
use Rattle.au_base.specs.declared.numbers.RowNo.{RowNo}
use Rattle.au_base.specs.declared.numbers.ClientNo.{ClientNo}
use Rattle.au_rows.specs.Edits.{edited}
use Rattle.au_rows.proofs.EditLemmas.{all_edited}
use Rattle.au_rows.specs.declared.place.Place.{Place}
use Rattle.au_rows.specs.Kept.{place_from, place_at, with_place}
use Rattle.au_rows.specs.Order.{is_before, in_order}

all_weaker : {X : Type 0} (p q : X → Bool) (xs : List X) → ((x : X) → p x ≡ true → q x ≡ true) → list_all p xs ≡ true → list_all q xs ≡ true
all_weaker p q [] more h = refl
all_weaker p q (x ∷ xs) more h =
    let first : p x ≡ true = grind arith in
    let rest : list_all p xs ≡ true = grind arith in
    rw (more x first, all_weaker p q xs more rest) refl

pub all_at : {X : Type 0} (p : X → Bool) (xs : List X) (i : ℕ) (d : X) → i < length xs → list_all p xs ≡ true → p (get_or xs i d) ≡ true
all_at p [] i d l h = grind arith
all_at p (x ∷ xs) zero d l h = grind arith
all_at p (x ∷ xs) (suc i) d l h =
    let rest : list_all p xs ≡ true = grind arith in
    let within : i < length xs = omega arith in
    all_at p xs i d within rest

later_from : (table : ℕ) (number : RowNo) (p q : Place) → place_from table number p ≡ true → is_before p q ≡ true → place_from table number q ≡ true
later_from table number p q h b = grind (arith, common_steps)

-- after a place of a later row come places of later rows alone
pub from_on : (table : ℕ) (number : RowNo) (places : List Place) (i j : ℕ) (d : Place)
    → in_order places ≡ true → i ≤ j → j < length places → place_from table number (get_or places i d) ≡ true → place_from table number (get_or places j d) ≡ true
from_on table number [] i j d o le l h = grind arith
from_on table number (p ∷ places) zero zero d o le l h = h
from_on table number (p ∷ places) zero (suc j) d o le l h =
    let later : list_all (is_before p) places ≡ true = grind arith in
    let within : j < length places = omega arith in
    later_from table number p (get_or places j d) h (all_at (is_before p) places j d within later)
from_on table number (p ∷ places) (suc i) zero d o le l h = absurd (omega arith)
from_on table number (p ∷ places) (suc i) (suc j) d o le l h =
    let rest : in_order places ≡ true = grind arith in
    let within : j < length places = omega arith in
    let below : i ≤ j = omega arith in
    from_on table number places i j d rest below within h

by_test : (b : Bool) (table : ℕ) (number : RowNo) (p q : Place) → place_from table number p ≡ b → (place_from table number p ≡ true → place_from table number q ≡ true)
    → place_from table number q ≡ false → place_from table number p ≡ false
by_test true table number p q e on h = let yes = on e in absurd (cc)
by_test false table number p q e on h = e

-- before a place of an earlier row stand places of earlier rows alone
pub not_from_before : (table : ℕ) (number : RowNo) (places : List Place) (i j : ℕ) (d : Place)
    → in_order places ≡ true → i ≤ j → j < length places → place_from table number (get_or places j d) ≡ false → place_from table number (get_or places i d) ≡ false
not_from_before table number places i j d o le l h =
    by_test (place_from table number (get_or places i d)) table number (get_or places i d) (get_or places j d) refl (from_on table number places i j d o le l) h

module _ (table : ℕ) (number : RowNo) (y : Place) (t : y.table ≡ table) (n : y.number.0 ≡ number.0) where
  same_before : (p : Place) → place_at table number p ≡ true → (x : Place) → is_before p x ≡ true → is_before y x ≡ true
  same_before p h x b = grind (arith, common_steps)

  is_first : (p : Place) → place_from table number p ≡ true → place_at table number p ≡ false → is_before y p ≡ true
  is_first p h a = grind (arith, common_steps)

  first_before : (p : Place) → place_from table number p ≡ true → place_at table number p ≡ false → (x : Place) → is_before p x ≡ true → is_before y x ≡ true
  first_before p h a x b = grind (arith, common_steps)

  is_last : (p : Place) → place_from table number p ≡ false → is_before p y ≡ true
  is_last p h = grind (arith, common_steps)

  step : (p : Place) (ps : List Place) (f a : Bool) → place_from table number p ≡ f → place_at table number p ≡ a
      → list_all (is_before p) ps ≡ true → in_order ps ≡ true → in_order (edited (place_from table number) (place_at table number) ps (y ∷ [])) ≡ true
      → in_order (edited (place_from table number) (place_at table number) (p ∷ ps) (y ∷ [])) ≡ true
  step p ps true true f a later o rest = rw (f, a, all_weaker (is_before p) (is_before y) ps (same_before p a) later) o
  step p ps true false f a later o rest =
      rw (f, a, is_first p f a, all_weaker (is_before p) (is_before y) ps (first_before p f a) later, later) o
  step p ps false a f e later o rest =
      rw (f, all_edited (is_before p) (place_from table number) (place_at table number) ps (y ∷ []) later (rw (is_last p f) refl)) rest

  edited-order : (places : List Place) → in_order places ≡ true → in_order (edited (place_from table number) (place_at table number) places (y ∷ [])) ≡ true
  edited-order [] o = refl
  edited-order (p ∷ ps) o =
      let later : list_all (is_before p) ps ≡ true = grind arith in
      let rest : in_order ps ≡ true = grind arith in
      step p ps (place_from table number p) (place_at table number p) refl refl later rest (edited-order ps rest)

-- a client that names a slot keeps the order
pub with_place-order : (table : ℕ) (number : RowNo) (by : ClientNo) (slot : Option ℕ) (places : List Place)
    → in_order places ≡ true → in_order (with_place table number by slot places) ≡ true
unfolding with_place
with_place-order table number by slot places o = edited-order table number _ refl refl places o

-- a place that is written keeps the order
pub written-order : (table : ℕ) (number : RowNo) (y : Place) → y.table ≡ table → y.number.0 ≡ number.0 → (places : List Place)
    → in_order places ≡ true → in_order (edited (place_from table number) (place_at table number) places (y ∷ [])) ≡ true
written-order table number y t n places o = edited-order table number y t n places o

-- a place that is taken away leaves the order
pub gone-order : (table : ℕ) (number : RowNo) (places : List Place) → in_order places ≡ true → in_order (edited (place_from table number) (place_at table number) places []) ≡ true
gone-order table number [] o = refl
gone-order table number (p ∷ ps) o = go (place_from table number p) (place_at table number p) later rest (gone-order table number ps rest)
  where
    later : list_all (is_before p) ps ≡ true
    later = grind arith

    rest : in_order ps ≡ true
    rest = grind arith

    go : (f a : Bool) → list_all (is_before p) ps ≡ true → in_order ps ≡ true → in_order (edited (place_from table number) (place_at table number) ps []) ≡ true
        → in_order (cond f ([] ++ cond a ps (p ∷ ps)) (p ∷ edited (place_from table number) (place_at table number) ps [])) ≡ true
    go true true l r e = r
    go true false l r e = rw (l, r) refl
    go false a l r e = rw (all_edited (is_before p) (place_from table number) (place_at table number) ps [] l refl, e) refl
