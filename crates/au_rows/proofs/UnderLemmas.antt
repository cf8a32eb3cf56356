-- What a walk over a table finds under a key, and what the tests of a call's conditions say.
use Rattle.std.proofs.Common.{◌≡◌, ◌∙◌, ◌&&◌, ◌⊎◌, inl, inr, ℕ, zero, suc, ◌+◌, ◌-◌, ◌<◌, Bool, true, false, cond, is_some, List, [], ◌∷◌, ◌++◌, length, get_or, take, drop, drop-cons, add-one, refl, ap, sym, subst, arith, Option, None, Some, map}
use Rattle.std.specs.Prelude.{◌==◌, IfNone}
use Rattle.std.specs.List.{Contains, list_all, position_or_len}
use Rattle.std.specs.Option.{option_and_then, option_map}
use Rattle.std.proofs.lemmas.Grind.{common_steps}
use Rattle.std.proofs.lemmas.List.{take_rest}
use Rattle.std.proofs.lemmas.List.Elements.{Contains-append_cases}
use Rattle.std.proofs.lemmas.List.Elements.{Contains-append_left}
use Rattle.std.proofs.lemmas.List.Elements.{Contains-append_right}
use Rattle.au_base.specs.declared.cell.Cell.{Cell}
use Rattle.au_base.specs.declared.numbers.RowNo.{RowNo}
use Rattle.au_base.specs.declared.numbers.ClientNo.{ClientNo}
use Rattle.au_rows.specs.declared.place.Place.{Place}
use Rattle.au_rows.specs.declared.unsettled.Unsettled.{Unsettled}
use Rattle.au_rows.specs.declared.version.Version.{Version}
use Rattle.au_rows.specs.Held.{HasKey, entry, is_by, is_of_other, is_this, owner_of, seen_at, seen_by, shown_to, view_of}
use Rattle.au_rows.specs.Kept.{Sound, change_of, found_seen, held_of, is_kept, is_whole, last_unsettled, place_at, place_from, place_in, place_owned, place_owner, place_seen, unsettled_elsewhere}
use Rattle.au_rows.proofs.EndLemmas.{found_passes, kept-some}
use Rattle.au_rows.proofs.PutLemmas.{owner_of-map, row_at-map}
use Rattle.au_rows.proofs.ViewLemmas.{view_of-drop}

-- what stands in a list is its first element or stands behind it
pub first-or-later : {X : Type 0} (head x : X) (rest : List X) → Contains (head ∷ rest) x → (head ≡ x) ⊎ Contains rest x
first-or-later {X} head x rest p = by_index p.0 p.1 p.2
  where
    by_index : (k : ℕ) → k < suc (length rest) → get_or (head ∷ rest) k x ≡ x → (head ≡ x) ⊎ Contains rest x
    by_index zero within found = inl found
    by_index (suc k) within found = inr (k, omega arith, found)

nothing-in : {X : Type 0} (x : X) → Contains [] x → ⊥
nothing-in x h = let lt = h.1 in omega arith

pub none-contained : {X : Type 0} (xs : List X) (x : X) → xs ≡ [] → Contains xs x → ⊥
none-contained xs x none h = nothing-in x (subst (λ (ys : List _). Contains ys x) none h)

module _ (slots : List (Option Version)) (t : ℕ) (by : ClientNo) where
  pub later-view : (places : List Place) (i : ℕ) → i ≡ position_or_len (place_from t (record { 0 = 0 })) places
      → view_of t by (map (held_of slots) (take (length places - i) (drop i places))) ≡ view_of t by (map (held_of slots) places)
  later-view places i at =
      ap (λ (ps : List Place). view_of t by (map (held_of slots) ps)) (take_rest places i ∙ ap (λ (k : ℕ). drop k places) at)
      ∙ view_of-drop slots t by places

  pub view-step : (later : List Place) (i : ℕ) (d : Place) → i < length later
      → view_of t by (map (held_of slots) (drop i later)) ≡ shown_to t by (held_of slots (get_or later i d)) ++ view_of t by (map (held_of slots) (drop (i + 1) later))
  view-step later i d lt = ap (λ (ps : List Place). view_of t by (map (held_of slots) ps)) (split lt)
    where
      split : i < length later → drop i later ≡ get_or later i d ∷ drop (i + 1) later
      split within = rw (add-one, drop-cons later i d)

  pub shown : (q : Place) (n : RowNo) (cells : List Cell) → q.table ≡ t → n ≡ q.number → seen_by by (held_of slots q) ≡ Some cells → shown_to t by (held_of slots q) ≡ (n, cells) ∷ []
  shown q n cells is number seen =
      let here : (q.table == t) ≡ true = grind (arith, common_steps) in
      rw (here, seen, number) refl

  entry-row : (n : RowNo) (o : Option (List Cell)) (row : RowNo × List Cell) → Contains (entry n o) row → o ≡ Some row.1
  entry-row n None row h = absurd (nothing-in row h)
  entry-row n (Some cells) row h = go (first-or-later (n, cells) row [] h)
    where
      go : ((n, cells) ≡ row) ⊎ Contains [] row → Some cells ≡ Some row.1
      go (inl same) = ap (λ (r : RowNo × List Cell). Some r.1) same
      go (inr more) = absurd (nothing-in row more)

  in-shown : (q : Place) (row : RowNo × List Cell) → Contains (shown_to t by (held_of slots q)) row → seen_by by (held_of slots q) ≡ Some row.1
  in-shown q row h = go (q.table == t) h
    where
      go : (b : Bool) → Contains (cond b (entry q.number (seen_by by (held_of slots q))) []) row → seen_by by (held_of slots q) ≡ Some row.1
      go true c = entry-row q.number (seen_by by (held_of slots q)) row c
      go false c = absurd (nothing-in row c)

  -- a row behind a place that doesn't have the key
  pub row-behind : (later : List Place) (i : ℕ) (d : Place) (places : List ℕ) (cells : List Cell) (row : RowNo × List Cell) → i < length later
      → (HasKey places cells (seen_by by (held_of slots (get_or later i d))) → ⊥) → HasKey places cells (Some row.1)
      → Contains (view_of t by (map (held_of slots) (drop i later))) row → Contains (view_of t by (map (held_of slots) (drop (i + 1) later))) row
  row-behind later i d places cells row lt none has c =
      go (Contains-append_cases (shown_to t by (held_of slots (get_or later i d))) (view_of t by (map (held_of slots) (drop (i + 1) later))) row
      (subst (λ (rows : List (RowNo × List Cell)). Contains rows row) (view-step later i d lt) c))
    where
      go : Contains (shown_to t by (held_of slots (get_or later i d))) row ⊎ Contains (view_of t by (map (held_of slots) (drop (i + 1) later))) row → Contains (view_of t by (map (held_of slots) (drop (i + 1) later))) row
      go (inl here) = absurd (none (subst (λ (o : Option (List Cell)). HasKey places cells o) (sym (in-shown (get_or later i d) row here)) has))
      go (inr behind) = behind

  pub row-within : (later : List Place) (i : ℕ) (d : Place) (row : RowNo × List Cell) → i < length later
      → Contains (view_of t by (map (held_of slots) (drop (i + 1) later))) row → Contains (view_of t by (map (held_of slots) (drop i later))) row
  row-within later i d row lt c =
      subst (λ (rows : List (RowNo × List Cell)). Contains rows row) (sym (view-step later i d lt))
      (Contains-append_right (shown_to t by (held_of slots (get_or later i d))) (view_of t by (map (held_of slots) (drop (i + 1) later))) row c)

  pub row-here : (later : List Place) (i : ℕ) (d : Place) (n : RowNo) (cells : List Cell) → i < length later → (get_or later i d).table ≡ t → n ≡ (get_or later i d).number
      → seen_by by (held_of slots (get_or later i d)) ≡ Some cells
      → (row : RowNo × List Cell) → row ≡ (n, cells) → Contains (view_of t by (map (held_of slots) (drop i later))) row
  row-here later i d n cells lt is number seen row same =
      subst (λ (rows : List (RowNo × List Cell)). Contains rows row) (sym (view-step later i d lt))
      (Contains-append_left (shown_to t by (held_of slots (get_or later i d))) (view_of t by (map (held_of slots) (drop (i + 1) later))) row
      (subst (λ (rows : List (RowNo × List Cell)). Contains rows row) (sym (shown (get_or later i d) n cells is number seen)) (first same)))
    where
      first : row ≡ (n, cells) → Contains ((n, cells) ∷ []) row
      first e = (0, omega arith, sym e)

  seen-some : (o : Option Place) → ((p : Place) → o ≡ Some p → is_whole slots p ≡ true) → is_some (option_and_then (seen_by by) (option_map (held_of slots) o)) ≡ found_seen by o
  seen-some None w = refl
  seen-some (Some p) w = go (is_by by p.owner) refl (w p refl)
    where
      go : (b : Bool) → is_by by p.owner ≡ b → is_whole slots p ≡ true → is_some (seen_by by (held_of slots p)) ≡ place_seen by p
      go true e whole = let newest : is_kept slots p.table p.number.0 p.newest ≡ true = grind arith in rw e (kept-some slots p.table p.number.0 p.newest newest)
      go false e whole = let settled : is_kept slots p.table p.number.0 p.settled ≡ true = grind arith in rw e (kept-some slots p.table p.number.0 p.settled settled)

  pub seen-here : (n : RowNo) (places : List Place) → list_all (is_whole slots) places ≡ true → found_seen by (place_in t n places) ≡ is_some (seen_at t n by (map (held_of slots) places))
  seen-here n places whole =
      sym (ap (λ o. is_some (option_and_then (seen_by by) o)) (row_at-map slots t n places)
      ∙ seen-some (place_in t n places) (λ p e. found_passes (is_whole slots) (place_from t n) (place_at t n) places p whole e))

last-none : (t : ℕ) (n : RowNo) (changes : List Unsettled) → list_all (unsettled_elsewhere t) changes ≡ true → last_unsettled t n changes ≡ None
last-none t n [] h = refl
last-none t n (change ∷ changes) h =
    let first : unsettled_elsewhere t change ≡ true = grind arith in
    let rest : list_all (unsettled_elsewhere t) changes ≡ true = grind arith in
    let other : is_this t n change.table change.number ≡ false = apart first in
    rw (last-none t n changes rest, other) refl
  where
    apart : unsettled_elsewhere t change ≡ true → is_this t n change.table change.number ≡ false
    apart e = grind (arith, common_steps)

-- where no change is of the table, no client owns one of its rows
pub settled-owners : (slots : List (Option Version)) (places : List Place) (changes : List Unsettled) → Sound places slots changes → (t : ℕ) → list_all (unsettled_elsewhere t) changes ≡ true
    → (row : RowNo) → owner_of t row (map (held_of slots) places) ≡ None
settled-owners slots places changes sound t h row =
    owner_of-map slots t row places ∙ unowned (place_in t row places) (sound.agrees t row ∙ last-none t row changes h)
  where
    unowned : (o : Option Place) → option_and_then place_owned o ≡ None → option_and_then place_owner o ≡ None
    unowned None e = refl
    unowned (Some place) e = go place.owner refl
      where
        go : (w : Option ClientNo) → place.owner ≡ w → place.owner ≡ None
        go None q = q
        go (Some owner) q = let some = rw q at e in cc

pub changes-elsewhere : (slots : List (Option Version)) (t : ℕ) (changes : List Unsettled) → list_all (unsettled_elsewhere t) changes ≡ list_all (is_of_other t) (map (change_of slots) changes)
changes-elsewhere slots t [] = refl
changes-elsewhere slots t (change ∷ changes) = ap (λ (b : Bool). unsettled_elsewhere t change && b) (changes-elsewhere slots t changes)

-- no row is both in the view and under the key
pub uncurried : {X Y : Type 0} (A B : X → Type 0) (o : Option Y) → IfNone o ((x : X) → A x → B x → ⊥) → IfNone o ((x : X) → A x × B x → ⊥)
uncurried A B None h = λ x both. h x both.0 both.1
uncurried A B (Some y) h = h
