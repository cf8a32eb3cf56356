-- Which slots places and changes name.
use Rattle.std.proofs.Common.{◌≡◌, ◌∙◌, ◌⊎◌, inl, inr, ℕ, Bool, true, false, ◌&&◌, ◌||◌, is_some, List, [], ◌∷◌, filter, get_or, refl, ap, sym, arith, Option, Some, None}
use Rattle.std.specs.List.{list_any}
use Rattle.std.specs.Option.{option_and_then}
use Rattle.std.proofs.lemmas.Grind.{common_steps}
use Rattle.std.proofs.lemmas.List.Folds.{list_any-append}
use Rattle.au_base.specs.declared.numbers.RowNo.{RowNo}
use Rattle.au_base.specs.declared.numbers.ClientNo.{ClientNo}
use Rattle.au_rows.specs.declared.place.Place.{Place}
use Rattle.au_rows.specs.declared.version.Version.{Version}
use Rattle.au_rows.specs.Chains.{is_slot}
use Rattle.au_rows.specs.Edits.{edited, found}
use Rattle.au_rows.specs.Ends.{OnlyFrees, is_bare, is_clear}
use Rattle.au_rows.specs.Kept.{is_apart, owned_place, place_at, place_from, place_in, place_names, place_owner, settled_slot, with_place}

pub or-left : (a b : Bool) → a ≡ true → (a || b) ≡ true
or-left a b h = rw h refl

pub or-right : (a b : Bool) → b ≡ true → (a || b) ≡ true
or-right true b h = refl
or-right false b h = h

pub or-cases : (a b : Bool) → (a || b) ≡ true → (a ≡ true) ⊎ (b ≡ true)
or-cases true b h = inl refl
or-cases false b h = inr h

-- what passes still passes after an edit, unless it is the element that goes
pub any-edited : {X : Type 0} (f from at : X → Bool) (xs news : List X) → list_any f xs ≡ true
    → ((x : X) → found from at xs ≡ Some x → f x ≡ true → list_any f news ≡ true)
    → list_any f (edited from at xs news) ≡ true
any-edited f from at [] news h go = cc
any-edited f from at (x ∷ xs) news h go = step (from x) (at x) refl refl (or-cases (f x) (list_any f xs) h) (any-edited f from at xs news)
  where
    step : (b a : Bool) → from x ≡ b → at x ≡ a → (f x ≡ true) ⊎ (list_any f xs ≡ true)
        → (list_any f xs ≡ true → ((y : _) → found from at xs ≡ Some y → f y ≡ true → list_any f news ≡ true) → list_any f (edited from at xs news) ≡ true)
        → list_any f (edited from at (x ∷ xs) news) ≡ true
    step true true e g (inl here) rest = rw (e, g) (list_any-append f news xs ∙ or-left (list_any f news) (list_any f xs) (go x (rw (e, g) refl) here))
    step true true e g (inr later) rest = rw (e, g) (list_any-append f news xs ∙ or-right (list_any f news) (list_any f xs) later)
    step true false e g some rest = rw (e, g) (list_any-append f news (x ∷ xs) ∙ or-right (list_any f news) (list_any f (x ∷ xs)) h)
    step false a e g (inl here) rest = rw e (or-left (f x) (list_any f (edited from at xs news)) here)
    step false a e g (inr later) rest = rw e (or-right (f x) (list_any f (edited from at xs news)) (rest later (λ y is fy. go y (rw e is) fy)))

pub any-found : {X : Type 0} (f from at : X → Bool) (xs : List X) (x : X) → found from at xs ≡ Some x → f x ≡ true → list_any f xs ≡ true
any-found f from at [] x is h = cc
any-found f from at (y ∷ xs) x is h = grind (arith, common_steps, any-found f from at xs x)

pub any-filter : {X : Type 0} (f q : X → Bool) (xs : List X) → list_any f xs ≡ true → ((x : X) → f x ≡ true → q x ≡ true) → list_any f (filter q xs) ≡ true
any-filter f q [] h all = cc
any-filter f q (x ∷ xs) h all = step (q x) refl (or-cases (f x) (list_any f xs) h) (λ later. any-filter f q xs later all)
  where
    step : (b : Bool) → q x ≡ b → (f x ≡ true) ⊎ (list_any f xs ≡ true) → (list_any f xs ≡ true → list_any f (filter q xs) ≡ true) → list_any f (filter q (x ∷ xs)) ≡ true
    step true e (inl here) rest = rw e (or-left (f x) (list_any f (filter q xs)) here)
    step true e (inr later) rest = rw e (or-right (f x) (list_any f (filter q xs)) (rest later))
    step false e (inl here) rest = let no : true ≡ false = sym (all x here) ∙ e in cc
    step false e (inr later) rest = rw e (rest later)

-- either a passing element is kept by the filter, or one that isn't kept passes
pub any-parts : {X : Type 0} (f q g : X → Bool) (xs : List X) → ((x : X) → f x ≡ true → q x ≡ false → g x ≡ true) → list_any f xs ≡ true → (list_any f (filter q xs) ≡ true) ⊎ (list_any g xs ≡ true)
any-parts f q g [] all h = cc
any-parts f q g (x ∷ xs) all h = step (q x) refl (or-cases (f x) (list_any f xs) h) (any-parts f q g xs all)
  where
    step : (b : Bool) → q x ≡ b → (f x ≡ true) ⊎ (list_any f xs ≡ true) → (list_any f xs ≡ true → (list_any f (filter q xs) ≡ true) ⊎ (list_any g xs ≡ true))
        → (list_any f (filter q (x ∷ xs)) ≡ true) ⊎ (list_any g (x ∷ xs) ≡ true)
    step true e (inl here) rest = inl (rw e (or-left (f x) (list_any f (filter q xs)) here))
    step false e (inl here) rest = inr (or-left (g x) (list_any g xs) (all x here e))
    step b e (inr later) rest = both b e (rest later)
      where
        both : (c : Bool) → q x ≡ c → (list_any f (filter q xs) ≡ true) ⊎ (list_any g xs ≡ true) → (list_any f (filter q (x ∷ xs)) ≡ true) ⊎ (list_any g (x ∷ xs) ≡ true)
        both true e (inl kept) = inl (rw e (or-right (f x) (list_any f (filter q xs)) kept))
        both false e (inl kept) = inl (rw e kept)
        both c e (inr gone) = inr (or-right (g x) (list_any g xs) gone)

pub bare-unowned : (o : Option Place) → is_bare o ≡ true → option_and_then place_owner o ≡ None
bare-unowned None h = refl
bare-unowned (Some place) h = go place.owner refl
  where
    go : (w : Option ClientNo) → place.owner ≡ w → place.owner ≡ None
    go None e = e
    go (Some owner) e = let no : is_bare (Some place) ≡ false = rw e refl in let both : true ≡ false = sym h ∙ no in cc

apart-settled : (s n : Option ℕ) (slot : ℕ) → is_some n ≡ false → (is_apart s (Some slot) && is_apart n (Some slot)) ≡ false → is_slot slot s ≡ true
apart-settled None None slot e h = cc
apart-settled s (Some n) slot e h = cc
apart-settled (Some s) None slot e h = grind (arith, common_steps)

-- a place without unsettled changes names a slot as its committed content alone
pub bare-names : (places : List Place) (table : ℕ) (number : RowNo) (slot : ℕ) → is_bare (place_in table number places) ≡ true → is_clear (Some slot) (place_in table number places) ≡ false
    → list_any (place_names slot) places ≡ true
bare-names places table number slot bare clear = go (place_in table number places) refl bare clear
  where
    go : (o : Option Place) → place_in table number places ≡ o → is_bare o ≡ true → is_clear (Some slot) o ≡ false → list_any (place_names slot) places ≡ true
    go None e b h = cc
    go (Some place) e b h =
        let none : is_some place.newest ≡ false = grind (arith, common_steps) in
        any-found (place_names slot) (place_from table number) (place_at table number) places place e (apart-settled place.settled place.newest slot none h)

-- what is vacant stays vacant
pub vacant-stays : (old new : List (Option Version)) → OnlyFrees old new → (slot : ℕ) → get_or old slot None ≡ None → get_or new slot None ≡ None
vacant-stays old new f slot h = go (f slot)
  where
    go : (get_or new slot None ≡ get_or old slot None) ⊎ (get_or new slot None ≡ None) → get_or new slot None ≡ None
    go (inl same) = same ∙ h
    go (inr none) = none

pub some-before : (old new : List (Option Version)) → OnlyFrees old new → (slot : ℕ) → is_some (get_or new slot None) ≡ true → is_some (get_or old slot None) ≡ true
some-before old new f slot h = go (f slot)
  where
    go : (get_or new slot None ≡ get_or old slot None) ⊎ (get_or new slot None ≡ None) → is_some (get_or old slot None) ≡ true
    go (inl same) = ap is_some (sym same) ∙ h
    go (inr none) = let no : is_some (get_or new slot None) ≡ false = ap is_some none in let both : true ≡ false = sym h ∙ no in cc

pub not-vacant : (slots : List (Option Version)) (slot : ℕ) → is_some (get_or slots slot None) ≡ true → get_or slots slot None ≡ None → ⊥
not-vacant slots slot h none = let no : is_some (get_or slots slot None) ≡ false = ap is_some none in let both : true ≡ false = sym h ∙ no in cc

-- a place that is written keeps the committed content
pub owned-names : (table : ℕ) (number : RowNo) (by : ClientNo) (slot : Option ℕ) (places : List Place) (s : ℕ) → list_any (place_names s) places ≡ true → list_any (place_names s) (with_place table number by slot places) ≡ true
unfolding with_place
owned-names table number by slot places s h =
    any-edited (place_names s) (place_from table number) (place_at table number) places (owned_place table number by slot places ∷ []) h
    (λ p is names.
    let settled : settled_slot table number places ≡ p.settled = ap (option_and_then (λ (q : Place). q.settled)) is in
    or-left (is_slot s (settled_slot table number places)) false (ap (is_slot s) settled ∙ names))
