-- What `edited` gives, by the place of the first element that passes.
use Rattle.std.proofs.Common.{◌≡◌, ℕ, Bool, true, false, not, List, [], ◌∷◌, length, set, Option, None, Some, refl, arith, one-add}
use Rattle.std.specs.Prelude.{map, unwrap_or, insert, remove, position, slice_get, if◌then◌else◌}
use Rattle.std.specs.Option.{option_map_or, option_and_then}
use Rattle.std.specs.List.{position_or_len, list_all}
use Rattle.std.proofs.lemmas.List.Sums.{prefix_len-le-length}
use Rattle.std.proofs.lemmas.Grind.{common_steps}
use Rattle.au_base.specs.declared.numbers.RowNo.{RowNo}
use Rattle.au_rows.specs.Edits.{edited, found}
use Rattle.au_rows.specs.declared.place.Place.{Place}
use Rattle.au_rows.specs.Kept.{place_from, place_at, place_if, place_in}

pub place_or_end : {X : Type 0} (p : X → Bool) (xs : List X) → unwrap_or (position p xs) (length xs) ≡ position_or_len p xs
place_or_end p xs = let h = prefix_len-le-length (λ x. not (p x)) xs in grind (arith, common_steps)

-- whether the element at the place passes
abbrev pub holds_at : {X : Type 0} → (X → Bool) → List X → ℕ → Bool
holds_at at xs i = option_map_or at (slice_get xs i) false

pub edited-insert : {X : Type 0} (from at : X → Bool) (xs : List X) (y : X)
    → holds_at at xs (position_or_len from xs) ≡ false → edited from at xs (y ∷ []) ≡ insert xs (position_or_len from xs) y
edited-insert from at [] y h = refl
edited-insert from at (x ∷ xs) y h = grind (arith, common_steps, edited-insert from at xs y)

pub edited-set : {X : Type 0} (from at : X → Bool) (xs : List X) (y : X)
    → holds_at at xs (position_or_len from xs) ≡ true → edited from at xs (y ∷ []) ≡ set xs (position_or_len from xs) y
edited-set from at [] y h = grind arith
edited-set from at (x ∷ xs) y h = grind (arith, common_steps, edited-set from at xs y)

remove-step : {X : Type 0} (from at : X → Bool) (x : X) (xs : List X) (b : Bool) → from x ≡ b
    → (holds_at at xs (position_or_len from xs) ≡ true → edited from at xs [] ≡ remove xs (position_or_len from xs))
    → holds_at at (x ∷ xs) (position_or_len from (x ∷ xs)) ≡ true → edited from at (x ∷ xs) [] ≡ remove (x ∷ xs) (position_or_len from (x ∷ xs))
remove-step from at x xs true e rest h = rw e (let passes : at x ≡ true = rw e at h in rw passes refl)
remove-step from at x xs false e rest h = rw e (let later : holds_at at xs (position_or_len from xs) ≡ true = rw (e, one-add) at h in rw (one-add, rest later) refl)

pub edited-remove : {X : Type 0} (from at : X → Bool) (xs : List X)
    → holds_at at xs (position_or_len from xs) ≡ true → edited from at xs [] ≡ remove xs (position_or_len from xs)
edited-remove from at [] h = grind arith
edited-remove from at (x ∷ xs) h = remove-step from at x xs (from x) refl (edited-remove from at xs) h

pub edited-none : {X : Type 0} (from at : X → Bool) (xs : List X)
    → holds_at at xs (position_or_len from xs) ≡ false → edited from at xs [] ≡ xs
edited-none from at [] h = refl
edited-none from at (x ∷ xs) h = grind (arith, common_steps, edited-none from at xs)

-- an edit of what a function gives
pub map-edited : {X Y : Type 0} (f : X → Y) (from at : Y → Bool) (xs new : List X)
    → map f (edited (λ x. from (f x)) (λ x. at (f x)) xs new) ≡ edited from at (map f xs) (map f new)
map-edited f from at [] new = refl
map-edited f from at (x ∷ xs) new = grind (arith, common_steps, map-edited f from at xs new)

-- the place says what is found
pub found-none : {X : Type 0} (from at : X → Bool) (xs : List X)
    → holds_at at xs (position_or_len from xs) ≡ false → found from at xs ≡ None
found-none from at [] h = refl
found-none from at (x ∷ xs) h = grind (arith, common_steps, found-none from at xs)

pub found-some : {X : Type 0} (from at : X → Bool) (xs : List X)
    → holds_at at xs (position_or_len from xs) ≡ true → found from at xs ≡ slice_get xs (position_or_len from xs)
found-some from at [] h = grind arith
found-some from at (x ∷ xs) h = grind (arith, common_steps, found-some from at xs)

pub all_edited : {X : Type 0} (p from at : X → Bool) (xs new : List X)
    → list_all p xs ≡ true → list_all p new ≡ true → list_all p (edited from at xs new) ≡ true
all_edited p from at [] new h n = n
all_edited p from at (x ∷ xs) new h n = grind (arith, common_steps, all_edited p from at xs new)

-- what is read of the element that is found
pub found-reads : {X Y : Type 0} (f : X → Option Y) (from at : X → Bool) (xs : List X)
    → option_and_then (λ x. if at x then f x else None) (slice_get xs (position_or_len from xs)) ≡ option_and_then f (found from at xs)
found-reads f from at [] = refl
found-reads f from at (x ∷ xs) = grind (arith, common_steps, found-reads f from at xs)

-- the element that is found
pub found-itself : {X : Type 0} (from at : X → Bool) (xs : List X)
    → option_and_then (λ x. if at x then Some x else None) (slice_get xs (position_or_len from xs)) ≡ found from at xs
found-itself from at [] = refl
found-itself from at (x ∷ xs) = grind (arith, common_steps, found-itself from at xs)

module _ (table : ℕ) (number : RowNo) (places : List Place) where
  pub place-reads : option_and_then (place_if table number) (slice_get places (position_or_len (place_from table number) places)) ≡ place_in table number places
  place-reads = found-itself (place_from table number) (place_at table number) places

  -- the place of the row, at its index
  pub place-some : holds_at (place_at table number) places (position_or_len (place_from table number) places) ≡ true
      → place_in table number places ≡ slice_get places (position_or_len (place_from table number) places)
  place-some h = found-some (place_from table number) (place_at table number) places h

  pub place-none : holds_at (place_at table number) places (position_or_len (place_from table number) places) ≡ false → place_in table number places ≡ None
  place-none h = found-none (place_from table number) (place_at table number) places h

pub ruleset found_steps = (place_or_end, place-reads, place-some, place-none, edited-insert, edited-set, edited-remove, edited-none)
