-- The largest number of a table stands in the block in which its places end.
use Rattle.std.proofs.Common.{◌≡◌, ◌∙◌, ℕ, zero, suc, ◌+◌, ◌-◌, ◌<◌, ◌≤◌, Bool, true, false, ◌&&◌, List, [], ◌∷◌, ◌++◌, length, get_or, take, drop, refl, sym, ap, arith}
use Rattle.std.specs.List.{list_all, count_by, position_or_len}
use Rattle.std.proofs.lemmas.Bool.{and_parts}
use Rattle.std.proofs.lemmas.Grind.{common_steps}
use Rattle.std.proofs.lemmas.List.{get_or-append-add, get_or_append_left}
use Rattle.std.proofs.lemmas.List.Folds.{list_all-append}
use Rattle.au_base.specs.declared.numbers.RowNo.{RowNo}
use Rattle.au_rows.specs.declared.place.Place.{Place}
use Rattle.au_rows.specs.Blocks.{IsHome, is_filled, joined, place_past, starts_past}
use Rattle.au_rows.specs.Kept.{largest_in, place_from, place_numbered, place_of}
use Rattle.au_rows.specs.Order.{in_order}
use Rattle.au_rows.proofs.BlockLemmas.{filled-at, joined-at, not-past, position-home, some-places}
use Rattle.au_rows.proofs.NumberLemmas.{end, last, range}

abbrev pub none : RowNo
none = record { 0 = 0 }

not-from : (t : ℕ) (y : Place) → place_past t none y ≡ false → place_numbered y ≡ true → place_from t none y ≡ false
not-from t y p n = grind (arith, common_steps)

module _ (t : ℕ) (blocks : List (List Place)) (at : ℕ) (home : IsHome (t + 1) none blocks at) (order : in_order (joined blocks) ≡ true) (filled : is_filled blocks ≡ true)
    (numbered : list_all place_numbered (joined blocks) ≡ true) (begins : 0 < at → starts_past (t + 1) none (get_or blocks at []) ≡ false)
    (there : 0 < count_by (place_of t) (joined blocks)) where
  abbrev block : List Place
  block = get_or blocks at []

  abbrev front : List Place
  front = joined (take at blocks)

  abbrev back : List Place
  back = joined (drop (suc at) blocks)

  ends : position_or_len (place_from (t + 1) none) (joined blocks) ≡ length front + position_or_len (place_from (t + 1) none) block
  ends = position-home (t + 1) none blocks at home

  some-ends : 1 ≤ position_or_len (place_from (t + 1) none) (joined blocks)
  some-ends = let r = range t (joined blocks) order in omega (arith, r, there)

  by_place : (y : Place) (ys : List Place) → block ≡ y ∷ ys → starts_past (t + 1) none block ≡ false → 1 ≤ position_or_len (place_from (t + 1) none) block
  by_place y ys is p =
      let all : list_all place_numbered (front ++ (block ++ back)) ≡ true = ap (list_all place_numbered) (sym (joined-at blocks at home.within)) ∙ numbered in
      let parts = and_parts (list_all place_numbered front) (list_all place_numbered (block ++ back)) (sym (list_all-append place_numbered front (block ++ back)) ∙ all) in
      let own = and_parts (list_all place_numbered block) (list_all place_numbered back) (sym (list_all-append place_numbered block back) ∙ parts.1) in
      let first : list_all place_numbered (y ∷ ys) ≡ true = ap (list_all place_numbered) (sym is) ∙ own.0 in
      let one = and_parts (place_numbered y) (list_all place_numbered ys) first in
      let no : place_from (t + 1) none y ≡ false = not-from (t + 1) y (not-past (t + 1) none block y ys is p) one.0 in
      let position : position_or_len (place_from (t + 1) none) block ≡ 1 + position_or_len (place_from (t + 1) none) ys = ap (position_or_len (place_from (t + 1) none)) is ∙ rw no refl in
      omega arith

  -- the block has a place that isn't of a later table
  pub some-end : 1 ≤ position_or_len (place_from (t + 1) none) block
  some-end = go at refl
    where
      go : (k : ℕ) → at ≡ k → 1 ≤ position_or_len (place_from (t + 1) none) block
      go zero e =
          let nothing : length front ≡ 0 = ap (λ (n : ℕ). length (joined (take n blocks))) e in
          omega (arith, ends, some-ends)
      go (suc k) e =
          let some = some-places block (filled-at blocks at filled (omega arith) home.within) in
          by_place some.0 some.1 some.2 (begins (omega arith))

  pub largest-at : (i : ℕ) (d : Place) → i + 1 ≡ position_or_len (place_from (t + 1) none) block → i < length block → (get_or block i d).number.0 ≡ largest_in t (joined blocks)
  largest-at i d is within =
      let k = length front + i in
      let at_end : end t (joined blocks) ≡ k + 1 = omega (arith, ends, is) in
      let place : get_or (joined blocks) k d ≡ get_or block i d =
      ap (λ (ps : List Place). get_or ps k d) (joined-at blocks at home.within)
      ∙ (get_or-append-add front (block ++ back) i d ∙ get_or_append_left block back d i within) in
      sym (last t (joined blocks) d k order at_end there ∙ ap (λ (p : Place). p.number.0) place)
