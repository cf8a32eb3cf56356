-- What a client's new content of a row, or its absence, leaves.
use Rattle.std.proofs.Common.{◌≡◌, ◌≢◌, ◌⊎◌, inl, inr, ◌||◌, ℕ, zero, suc, length, ◌+◌, ◌≤◌, ◌<◌, Bool, true, false, is_some, List, [], ◌∷◌, ◌++◌, get_or, refl, ap, ap₂, sym, ◌∙◌, arith, Option, Some, None, map}
use Rattle.std.specs.Prelude.{IsSome, IsNone, ◌==◌, nat_eq, nat_le}
use Rattle.std.specs.List.{list_all, list_any, count_by}
use Rattle.std.specs.Option.{option_map, option_and_then}
use Rattle.std.proofs.lemmas.Bool.Decides.{nat_tests}
use Rattle.std.proofs.lemmas.Grind.{common_steps}
use Rattle.std.proofs.lemmas.List.{map-append}
use Rattle.std.proofs.lemmas.List.Folds.{list_all-append, list_any-append}
use Rattle.std.proofs.lemmas.List.Sums.{passes_at_first}
use Rattle.au_base.specs.declared.cell.Cell.{Cell}
use Rattle.au_base.specs.declared.numbers.RowNo.{RowNo}
use Rattle.au_base.specs.declared.numbers.ClientNo.{ClientNo}
use Rattle.au_base.specs.declared.table.TableName.{TableName}
use Rattle.au_rows.specs.Edits.{edited, found}
use Rattle.au_rows.specs.declared.place.Place.{Place}
use Rattle.au_rows.specs.declared.table.Table.{Table}
use Rattle.au_rows.specs.declared.unsettled.Unsettled.{Unsettled}
use Rattle.au_rows.specs.declared.version.Version.{Version}
use Rattle.au_rows.specs.Held.{Change, Contents, Held, IsOpen, is_named, number_of, held_from, held_at, is_by, is_free_for, is_this, or_else, row_at, owner_of, seen_at, seen_by, settled_of, with_row}
use Rattle.au_rows.specs.Kept.{Sound, change_names, change_of, is_version, is_apart, content_at, held_of, is_kept, is_logged, is_owned, is_used, is_whole, last_unsettled, owned_place, owner_in, place_from, place_at, place_in, place_left, place_names, place_numbered, place_open, place_owned, place_owner, place_shown, settled_slot, with_place}
use Rattle.au_rows.specs.Spare.{spare_of}
use Rattle.au_rows.specs.Stored.{Puts}
use Rattle.au_rows.specs.Chains.{is_slot}
use Rattle.au_rows.proofs.AllLemmas.{same-row}
use Rattle.au_rows.proofs.ChainLemmas.{number-itself, other-number, same-number}
use Rattle.au_rows.proofs.UsedLemmas.{or-cases, or-left, or-right, owned-names}
use Rattle.au_rows.proofs.EditLemmas.{map-edited, all_edited}
use Rattle.au_rows.proofs.EndLemmas.{apart-none, found-table, found-number, found_passes}
use Rattle.au_rows.proofs.FoundLemmas.{count-edited, count-hidden, found-written, found-other-written}
use Rattle.au_rows.proofs.OrderLemmas.{with_place-order}

pub found-map : {X Y : Type 0} (f : X → Y) (from at : Y → Bool) (xs : List X)
    → found from at (map f xs) ≡ option_map f (found (λ x. from (f x)) (λ x. at (f x)) xs)
found-map f from at [] = refl
found-map f from at (x ∷ xs) = grind (arith, common_steps, found-map f from at xs)

not-none : (table number : ℕ) (o : Option Version) → is_version table number o ≡ true → o ≡ None → ⊥
not-none table number None h e = grind arith
not-none table number (Some version) h e = cc

module _ (old new : List (Option Version)) (key : ℕ) (version : Version) (fills : Puts old new key version) where
  other_slot : (table number slot : ℕ) → is_version table number (get_or old slot None) ≡ true → slot ≢ key
  other_slot table number slot h same = not-none table number (get_or old slot None) h (ap (λ s. get_or old s None) same ∙ fills.vacant)

  slot-same : (table number slot : ℕ) → is_version table number (get_or old slot None) ≡ true → get_or new slot None ≡ get_or old slot None
  slot-same table number slot h = fills.others slot (other_slot table number slot h)

  pub content-same : (table number : ℕ) (slot : Option ℕ) → is_kept old table number slot ≡ true → content_at new slot ≡ content_at old slot
  content-same table number None h = refl
  content-same table number (Some slot) h = ap (λ (o : Option Version). option_map (λ (v : Version). v.cells) o) (slot-same table number slot h)

  pub kept-same : (table number : ℕ) (slot : Option ℕ) → is_kept old table number slot ≡ true → is_kept new table number slot ≡ true
  kept-same table number None h = refl
  kept-same table number (Some slot) h = ap (is_version table number) (slot-same table number slot h) ∙ h

  pub apart-new : (table number : ℕ) (slot : Option ℕ) → is_kept old table number slot ≡ true → is_apart slot (Some key) ≡ true
  apart-new table number None h = refl
  apart-new table number (Some slot) h = let ne : slot ≢ key = other_slot table number slot h in grind (arith, common_steps)

  pub place-same : (place : Place) → is_whole old place ≡ true → held_of new place ≡ held_of old place
  place-same place h =
      let settled : is_kept old place.table place.number.0 place.settled ≡ true = grind arith in
      let newest : is_kept old place.table place.number.0 place.newest ≡ true = grind arith in
      ap₂ (λ (s n : Option (List Cell)). record { table = place.table; number = place.number; settled = s; owner = place.owner; newest = n })
      (content-same place.table place.number.0 place.settled settled) (content-same place.table place.number.0 place.newest newest)

  pub whole-same : (place : Place) → is_whole old place ≡ true → is_whole new place ≡ true
  whole-same place h =
      let settled : is_kept old place.table place.number.0 place.settled ≡ true = grind arith in
      let newest : is_kept old place.table place.number.0 place.newest ≡ true = grind arith in
      let apart : is_apart place.settled place.newest ≡ true = grind arith in
      rw (kept-same place.table place.number.0 place.settled settled, kept-same place.table place.number.0 place.newest newest) apart

  pub held-same : (places : List Place) → list_all (is_whole old) places ≡ true → map (held_of new) places ≡ map (held_of old) places
  held-same [] h = refl
  held-same (place ∷ places) h =
      let first : is_whole old place ≡ true = grind arith in
      let rest : list_all (is_whole old) places ≡ true = grind arith in
      ap₂ ◌∷◌ (place-same place first) (held-same places rest)

  pub all-same : (places : List Place) → list_all (is_whole old) places ≡ true → list_all (is_whole new) places ≡ true
  all-same [] h = refl
  all-same (place ∷ places) h =
      let first : is_whole old place ≡ true = grind arith in
      let rest : list_all (is_whole old) places ≡ true = grind arith in
      rw (whole-same place first, all-same places rest) refl

-- a row is there where its place is
pub row_at-map : (slots : List (Option Version)) (table : ℕ) (number : RowNo) (places : List Place)
    → row_at table number (map (held_of slots) places) ≡ option_map (held_of slots) (place_in table number places)
row_at-map slots table number places = found-map (held_of slots) (held_from table number) (held_at table number) places

pub owner_of-map : (slots : List (Option Version)) (table : ℕ) (number : RowNo) (places : List Place)
    → owner_of table number (map (held_of slots) places) ≡ option_and_then place_owner (place_in table number places)
owner_of-map slots table number [] = refl
owner_of-map slots table number (place ∷ places) = grind (arith, common_steps, owner_of-map slots table number places)

-- the row that was settled is found among the rows
pub settled-found : (slots : List (Option Version)) (table : ℕ) (number : RowNo) (places : List Place)
    → content_at slots (settled_slot table number places) ≡ settled_of table number (map (held_of slots) places)
settled-found slots table number [] = refl
settled-found slots table number (place ∷ places) = grind (arith, common_steps, settled-found slots table number places)

settled-kept : (slots : List (Option Version)) (table : ℕ) (number : RowNo) (places : List Place)
    → list_all (is_whole slots) places ≡ true → is_kept slots table number.0 (settled_slot table number places) ≡ true
settled-kept slots table number [] h = refl
settled-kept slots table number (place ∷ places) h = grind (arith, common_steps, settled-kept slots table number places)

module _ (old new : List (Option Version)) (key : ℕ) (cells : List Cell) (hash table : ℕ) (number : RowNo) (fills : Puts old new key (record { table = table; number = number; cells = cells; hash = hash })) (by : ClientNo) (places : List Place) (whole : list_all (is_whole old) places ≡ true) where
  abbrev version : Version
  version = record { table = table; number = number; cells = cells; hash = hash }

  -- the rows after a put
  pub held-put : map (held_of new) (with_place table number by (Some key) places) ≡ with_row table number by (Some cells) (map (held_of old) places)
  unfolding with_place with_row
  held-put =
      map-edited (held_of new) (held_from table number) (held_at table number) places
      (record { table = table; number = number; settled = settled_slot table number places; owner = Some by; newest = Some key } ∷ [])
      ∙ ap₂ (λ (held : List Held) (row : Held). edited (held_from table number) (held_at table number) held (row ∷ []))
      (held-same old new key version fills places whole)
      (ap₂ (λ (s n : Option (List Cell)). record { table = table; number = number; settled = s; owner = Some by; newest = n })
      (content-same old new key version fills table number.0 (settled_slot table number places) (settled-kept old table number places whole) ∙ settled-found old table number places)
      (ap (λ (o : Option Version). option_map (λ (v : Version). v.cells) o) fills.filled))

  pub whole-put : list_all (is_whole new) (with_place table number by (Some key) places) ≡ true
  unfolding with_place
  whole-put =
      all_edited (is_whole new) (place_from table number) (place_at table number) places
      (record { table = table; number = number; settled = settled_slot table number places; owner = Some by; newest = Some key } ∷ [])
      (all-same old new key version fills places whole)
      (let kept = settled-kept old table number places whole in
      rw (kept-same old new key version fills table number.0 (settled_slot table number places) kept, fills.filled, apart-new old new key version fills table number.0 (settled_slot table number places) kept) (grind (arith, common_steps)))

module _ (slots : List (Option Version)) (table : ℕ) (number : RowNo) (by : ClientNo) (places : List Place) where
  -- the rows after a row is marked
  pub held-mark : map (held_of slots) (with_place table number by None places) ≡ with_row table number by None (map (held_of slots) places)
  unfolding with_place with_row
  held-mark =
      map-edited (held_of slots) (held_from table number) (held_at table number) places
      (record { table = table; number = number; settled = settled_slot table number places; owner = Some by; newest = None } ∷ [])
      ∙ ap (λ (s : Option (List Cell)). edited (held_from table number) (held_at table number) (map (held_of slots) places) (record { table = table; number = number; settled = s; owner = Some by; newest = None } ∷ []))
      (settled-found slots table number places)

  pub whole-mark : list_all (is_whole slots) places ≡ true → list_all (is_whole slots) (with_place table number by None places) ≡ true
  unfolding with_place
  whole-mark whole =
      all_edited (is_whole slots) (place_from table number) (place_at table number) places
      (record { table = table; number = number; settled = settled_slot table number places; owner = Some by; newest = None } ∷ [])
      whole (rw (settled-kept slots table number places whole, apart-none (settled_slot table number places)) refl)

-- the last of the changes, with one more behind them
pub last-push : (t : ℕ) (n : RowNo) (changes : List Unsettled) (change : Unsettled)
    → last_unsettled t n (changes ++ change ∷ []) ≡ or_else (last_unsettled t n (change ∷ [])) (last_unsettled t n changes)
last-push t n [] change = or_else-none (last_unsettled t n (change ∷ []))
  where
    or_else-none : (o : Option (ClientNo × Option ℕ)) → o ≡ or_else o None
    or_else-none None = refl
    or_else-none (Some a) = refl
last-push t n (first ∷ changes) change =
    ap (λ (o : Option (ClientNo × Option ℕ)). or_else o (last_unsettled t n (first ∷ []))) (last-push t n changes change) ∙ or_else-assoc (last_unsettled t n (change ∷ [])) (last_unsettled t n changes) (last_unsettled t n (first ∷ []))
  where
    or_else-assoc : (a b c : Option (ClientNo × Option ℕ)) → or_else (or_else a b) c ≡ or_else a (or_else b c)
    or_else-assoc None b c = refl
    or_else-assoc (Some a) b c = refl

free-owned : (by c : ClientNo) (owner : Option ClientNo) → is_free_for by owner ≡ true → is_by c owner ≡ true → is_by c (Some by) ≡ true
free-owned by c None f o = let e : false ≡ true = o in cc
free-owned by c (Some owner) f o = grind (arith, common_steps)

-- a client owns a row, with a slot that has a version of it
module _ (old new : List (Option Version)) (table : ℕ) (number : RowNo) (by : ClientNo) (slot : Option ℕ) (places : List Place) (changes : List Unsettled)
    (sound : Sound places old changes)
    (stays : (t n : ℕ) (s : Option ℕ) → is_kept old t n s ≡ true → is_kept new t n s ≡ true)
    (kept : is_kept new table number.0 slot ≡ true)
    (whole : list_all (is_whole new) (with_place table number by slot places) ≡ true)
    (numbered : nat_le 1 number.0 ≡ true)
    (free : is_free_for by (owner_in table number places) ≡ true)
    (fills : (s : ℕ) → is_some (get_or new s None) ≡ true → (is_some (get_or old s None) ≡ true) ⊎ (is_slot s slot ≡ true)) where
  abbrev change : Unsettled
  change = record { by = by; table = table; number = number; slot = slot }

  abbrev written : Place
  written = owned_place table number by slot places

  here : place_in table number (with_place table number by slot places) ≡ Some written
  unfolding with_place
  here = found-written table number places written refl refl

  elsewhere : (t : ℕ) (n : RowNo) → is_this table number t n ≡ false → place_in t n (with_place table number by slot places) ≡ place_in t n places
  unfolding with_place
  elsewhere t n ne = found-other-written table number t n ne places written refl refl sound.order

  left : list_all place_left (with_place table number by slot places) ≡ true
  unfolding with_place
  left = all_edited place_left (place_from table number) (place_at table number) places (written ∷ []) sound.left (grind (arith, common_steps))

  numbers : list_all place_numbered (with_place table number by slot places) ≡ true
  unfolding with_place
  numbers = all_edited place_numbered (place_from table number) (place_at table number) places (written ∷ []) sound.numbered (rw numbered refl)

  logged_go : (cs : List Unsettled) → list_all (is_logged old) cs ≡ true → list_all (is_logged new) cs ≡ true
  logged_go [] h = refl
  logged_go (c ∷ cs) h =
      let first : is_logged old c ≡ true = grind arith in
      let rest : list_all (is_logged old) cs ≡ true = grind arith in
      rw (stays c.table c.number.0 c.slot first, logged_go cs rest) refl

  owned_by : (c : Unsettled) (b : Bool) → is_this table number c.table c.number ≡ b → is_owned places c ≡ true → is_owned (with_place table number by slot places) c ≡ true
  owned_by c true h o =
      let row = same-row (with_place table number by slot places) table number c.table c.number h in
      let was = same-row places table number c.table c.number h in
      ap (λ (p : Option Place). is_by c.by (option_and_then place_owner p)) (row ∙ here)
      ∙ free-owned by c.by (owner_in table number places) free (ap (λ (p : Option Place). is_by c.by (option_and_then place_owner p)) (sym was) ∙ o)
  owned_by c false h o = ap (λ (p : Option Place). is_by c.by (option_and_then place_owner p)) (elsewhere c.table c.number h) ∙ o

  owned_go : (cs : List Unsettled) → list_all (is_owned places) cs ≡ true → list_all (is_owned (with_place table number by slot places)) cs ≡ true
  owned_go [] h = refl
  owned_go (c ∷ cs) h =
      let first : is_owned places c ≡ true = grind arith in
      let rest : list_all (is_owned places) cs ≡ true = grind arith in
      rw (owned_by c (is_this table number c.table c.number) refl first, owned_go cs rest) refl

  agrees_by : (t : ℕ) (n : RowNo) (b : Bool) → is_this table number t n ≡ b
      → option_and_then place_owned (place_in t n (with_place table number by slot places)) ≡ or_else (last_unsettled t n (change ∷ [])) (last_unsettled t n changes)
  agrees_by t n true h =
      let this : is_this t n table number ≡ true = grind (arith, common_steps) in
      let row = same-row (with_place table number by slot places) table number t n h in
      rw (row, here, this) refl
  agrees_by t n false h =
      let other : is_this t n table number ≡ false = grind (arith, common_steps) in
      rw (elsewhere t n h, other) (sound.agrees t n)

  self : is_owned (with_place table number by slot places) change ≡ true
  self = rw here (grind (arith, common_steps))

  pub sound-own : Sound (with_place table number by slot places) new (changes ++ change ∷ [])
  sound-own = record {
    order = with_place-order table number by slot places sound.order;
    whole = whole;
    left = left;
    numbered = numbers;
    logged = list_all-append (is_logged new) changes (change ∷ []) ∙ rw (logged_go changes sound.logged, kept) refl;
    owned = list_all-append (is_owned (with_place table number by slot places)) changes (change ∷ []) ∙ rw (owned_go changes sound.owned, self) refl;
    agrees = λ t n. agrees_by t n (is_this table number t n) refl ∙ sym (last-push t n changes change);
    used = λ s some. used s (fills s some);
  }
    where
      used : (s : ℕ) → (is_some (get_or old s None) ≡ true) ⊎ (is_slot s slot ≡ true) → is_used (with_place table number by slot places) (changes ++ change ∷ []) s ≡ true
      used s (inr here) =
          or-right (list_any (place_names s) (with_place table number by slot places)) (list_any (change_names s) (changes ++ change ∷ []))
          (list_any-append (change_names s) changes (change ∷ []) ∙ or-right (list_any (change_names s) changes) (is_slot s slot || false) (or-left (is_slot s slot) false here))
      used s (inl some) = go (or-cases (list_any (place_names s) places) (list_any (change_names s) changes) (sound.used s some))
        where
          go : (list_any (place_names s) places ≡ true) ⊎ (list_any (change_names s) changes ≡ true) → is_used (with_place table number by slot places) (changes ++ change ∷ []) s ≡ true
          go (inl names) =
              or-left (list_any (place_names s) (with_place table number by slot places)) (list_any (change_names s) (changes ++ change ∷ [])) (owned-names table number by slot places s names)
          go (inr names) =
              or-right (list_any (place_names s) (with_place table number by slot places)) (list_any (change_names s) (changes ++ change ∷ []))
              (list_any-append (change_names s) changes (change ∷ []) ∙ or-left (list_any (change_names s) changes) (is_slot s slot || false) names)

-- the table of a row that is written is open
pub own-open : (tables : List (Option Table)) (table : ℕ) (number : RowNo) (by : ClientNo) (slot : Option ℕ) (places : List Place)
    → is_some (get_or tables table None) ≡ true → list_all (place_open tables) places ≡ true → list_all (place_open tables) (with_place table number by slot places) ≡ true
unfolding with_place
own-open tables table number by slot places is h =
    all_edited (place_open tables) (place_from table number) (place_at table number) places (owned_place table number by slot places ∷ []) h (rw is refl)

-- one more row is shown at most
pub own-shown : (table : ℕ) (number : RowNo) (by : ClientNo) (slot : Option ℕ) (places : List Place)
    → count_by place_shown (with_place table number by slot places) ≤ count_by place_shown places + 1
unfolding with_place
own-shown table number by slot places =
    let most = count-edited place_shown (place_from table number) (place_at table number) places (owned_place table number by slot places ∷ []) in
    let one : count_by place_shown (owned_place table number by slot places ∷ []) ≤ 1 = one_at_most slot in omega arith
  where
    one_at_most : (s : Option ℕ) → count_by place_shown (owned_place table number by s places ∷ []) ≤ 1
    one_at_most None = omega arith
    one_at_most (Some s) = omega arith

-- a row that is marked is shown no more
pub mark-shown : (table : ℕ) (number : RowNo) (by : ClientNo) (places : List Place) (p : Place)
    → place_in table number places ≡ Some p → place_shown p ≡ true
    → count_by place_shown (with_place table number by None places) + 1 ≡ count_by place_shown places
unfolding with_place
mark-shown table number by places p is shown = count-hidden place_shown (place_from table number) (place_at table number) places p (owned_place table number by None places) is shown refl

-- a row that a client sees, and that no other client owns, is shown
pub seen-shown : (slots : List (Option Version)) (by : ClientNo) (p : Place) → is_free_for by p.owner ≡ true → IsSome (seen_by by (held_of slots p)) → place_shown p ≡ true
seen-shown slots by p free seen = go p.owner refl
  where
    content : (s : Option ℕ) → IsSome (content_at slots s) → is_some s ≡ true
    content None h = grind arith
    content (Some s) h = refl

    go : (w : Option ClientNo) → p.owner ≡ w → place_shown p ≡ true
    go None e = let see : IsSome (content_at slots p.settled) = rw e at seen in rw e (content p.settled see)
    go (Some owner) e =
        let same : (owner.0 == by.0) ≡ true = rw e at free in
        let see : IsSome (content_at slots p.newest) = rw (e, same) at seen in
        rw e (content p.newest see)

-- the place of a row that is seen
pub seen-place : (slots : List (Option Version)) (table : ℕ) (number : RowNo) (by : ClientNo) (places : List Place)
    → IsSome (seen_at table number by (map (held_of slots) places)) → (p : Place) × ((place_in table number places ≡ Some p) × IsSome (seen_by by (held_of slots p)))
seen-place slots table number by places h = go (place_in table number places) refl (rw row_at-map at h)
  where
    go : (o : Option Place) → place_in table number places ≡ o → IsSome (option_and_then (seen_by by) (option_map (held_of slots) o)) → (p : Place) × ((place_in table number places ≡ Some p) × IsSome (seen_by by (held_of slots p)))
    go None e s = cc
    go (Some p) e s = (p, (e, s))

-- changes keep what they say where a new version fills a vacant slot
pub changes-same : (old new : List (Option Version)) (key : ℕ) (version : Version) → Puts old new key version → (changes : List Unsettled)
    → list_all (is_logged old) changes ≡ true → map (change_of new) changes ≡ map (change_of old) changes
changes-same old new key version puts [] h = refl
changes-same old new key version puts (c ∷ cs) h =
    let first : is_logged old c ≡ true = grind arith in
    let rest : list_all (is_logged old) cs ≡ true = grind arith in
    ap₂ (λ (content : Option (List Cell)) (tail : List Change). (record { by = c.by; table = c.table; number = c.number; content = content }) ∷ tail)
    (content-same old new key version puts c.table c.number.0 c.slot first) (changes-same old new key version puts cs rest)

-- the number of a table that is open has a table
pub open-there : (name : TableName) (tables : List (Option Table)) → IsOpen name tables → is_some (get_or tables (number_of name tables) None) ≡ true
open-there name tables h = named (get_or tables (number_of name tables) None) (passes_at_first (is_named name) tables None h)
  where
    named : (o : Option Table) → is_named name o ≡ true → is_some o ≡ true
    named None e = cc
    named (Some t) e = refl

-- how much spare a call takes
module _ (tables names places versions changes taken : ℕ) where
  pub spare-put : (tables' places' versions' changes' taken' : ℕ)
      → tables ≤ tables' → places ≤ places' + 1 → versions ≤ versions' + 1 → changes + taken' ≤ changes' + taken + 2
      → spare_of tables names places versions changes taken ≤ spare_of tables' names places' versions' changes' taken' + 1
  spare-put tables' places' versions' changes' taken' t a b c = omega arith

  pub spare-kept : (tables' names' places' versions' changes' taken' : ℕ)
      → tables ≤ tables' → names ≤ names' → places ≤ places' → versions ≤ versions' → changes + taken' ≤ changes' + taken
      → spare_of tables names places versions changes taken ≤ spare_of tables' names' places' versions' changes' taken'
  spare-kept tables' names' places' versions' changes' taken' t n a b c = omega arith

pub same-contents : (tables : List (Option Table)) (held held' : List Held) (changes changes' : List Change) (spare : ℕ)
    → held' ≡ held → changes' ≡ changes
    → (let left : Contents = record { tables = tables; held = held'; changes = changes'; spare = spare } in left) ≡ (let right : Contents = record { tables = tables; held = held; changes = changes; spare = spare } in right)
same-contents tables held held' changes changes' spare h c =
    ap₂ (λ (x : List Held) (y : List Change). let both : Contents = record { tables = tables; held = x; changes = y; spare = spare } in both) h c

-- a put
module _ (old new : List (Option Version)) (key : ℕ) (cells : List Cell) (hash table : ℕ) (number : RowNo) (puts : Puts old new key (record { table = table; number = number; cells = cells; hash = hash })) (by : ClientNo)
    (places : List Place) (changes : List Unsettled) (sound : Sound places old changes) where
  abbrev put_version : Version
  put_version = record { table = table; number = number; cells = cells; hash = hash }

  pub put-held : map (held_of new) (with_place table number by (Some key) places) ≡ with_row table number by (Some cells) (map (held_of old) places)
  put-held = held-put old new key cells hash table number puts by places sound.whole

  pub put-changes : map (change_of new) (changes ++ (record { by = by; table = table; number = number; slot = Some key }) ∷ [])
      ≡ map (change_of old) changes ++ (record { by = by; table = table; number = number; content = Some cells }) ∷ []
  put-changes =
      map-append (change_of new) changes ((record { by = by; table = table; number = number; slot = Some key }) ∷ [])
      ∙ ap₂ (λ (front : List Change) (content : Option (List Cell)). front ++ (record { by = by; table = table; number = number; content = content }) ∷ [])
      (changes-same old new key put_version puts changes sound.logged)
      (ap (λ (o : Option Version). option_map (λ (v : Version). v.cells) o) puts.filled)

  put_kept : is_kept new table number.0 (Some key) ≡ true
  put_kept = ap (is_version table number.0) puts.filled ∙ (grind (arith, common_steps))

  pub put-sound : 1 ≤ number.0 → is_free_for by (owner_of table number (map (held_of old) places)) ≡ true
      → Sound (with_place table number by (Some key) places) new (changes ++ (record { by = by; table = table; number = number; slot = Some key }) ∷ [])
  put-sound least free =
      sound-own old new table number by (Some key) places changes sound (kept-same old new key put_version puts) put_kept
      (whole-put old new key cells hash table number puts by places sound.whole) (grind (arith, common_steps)) (ap (is_free_for by) (sym (owner_of-map old table number places)) ∙ free)
      (λ s some. fills s some (nat_eq s key) refl)
    where
      fills : (s : ℕ) → is_some (get_or new s None) ≡ true → (b : Bool) → nat_eq s key ≡ b → (is_some (get_or old s None) ≡ true) ⊎ (is_slot s (Some key) ≡ true)
      fills s some true e = let at = same-number s key e in inr (ap (λ (x : ℕ). is_slot x (Some key)) at ∙ number-itself key)
      fills s some false e = inl (ap is_some (sym (puts.others s (other-number s key e))) ∙ some)

-- a mark
module _ (slots : List (Option Version)) (table : ℕ) (number : RowNo) (by : ClientNo)
    (places : List Place) (changes : List Unsettled) (sound : Sound places slots changes)
    (seen : IsSome (seen_at table number by (map (held_of slots) places))) (free : is_free_for by (owner_of table number (map (held_of slots) places)) ≡ true) where
  free_here : is_free_for by (owner_in table number places) ≡ true
  free_here = ap (is_free_for by) (sym (owner_of-map slots table number places)) ∙ free

  pub mark-place : IsSome (place_in table number places)
  mark-place = let found = seen-place slots table number by places seen in rw found.1.0 refl

  pub mark-room : IsNone (place_in table number places) → ⊥
  mark-room none = let found = seen-place slots table number by places seen in let e = rw found.1.0 at none in cc

  pub mark-taken : count_by place_shown (with_place table number by None places) + 1 ≡ count_by place_shown places
  mark-taken =
      let found = seen-place slots table number by places seen in
      let free_of : is_free_for by found.0.owner ≡ true = rw found.1.0 at free_here in
      mark-shown table number by places found.0 found.1.0 (seen-shown slots by found.0 free_of found.1.1)

  pub mark-open : (tables : List (Option Table)) → list_all (place_open tables) places ≡ true → is_some (get_or tables table None) ≡ true
  mark-open tables h =
      let found = seen-place slots table number by places seen in
      let is : place_open tables found.0 ≡ true = found_passes (place_open tables) (place_from table number) (place_at table number) places found.0 h found.1.0 in
      ap (λ (t : ℕ). is_some (get_or tables t None)) (sym (found-table table number places found.0 found.1.0)) ∙ is

  mark_numbered : nat_le 1 number.0 ≡ true
  mark_numbered =
      let found = seen-place slots table number by places seen in
      let is : place_numbered found.0 ≡ true = found_passes place_numbered (place_from table number) (place_at table number) places found.0 sound.numbered found.1.0 in
      ap (nat_le 1) (sym (found-number table number places found.0 found.1.0)) ∙ is

  pub mark-least : 1 ≤ number.0
  mark-least = let is = mark_numbered in grind (arith, nat_tests)

  pub mark-changes : map (change_of slots) (changes ++ (record { by = by; table = table; number = number; slot = None }) ∷ [])
      ≡ map (change_of slots) changes ++ (record { by = by; table = table; number = number; content = None }) ∷ []
  mark-changes = map-append (change_of slots) changes ((record { by = by; table = table; number = number; slot = None }) ∷ [])

  pub mark-sound : Sound (with_place table number by None places) slots (changes ++ (record { by = by; table = table; number = number; slot = None }) ∷ [])
  mark-sound = sound-own slots slots table number by None places changes sound (λ t n s k. k) refl (whole-mark slots table number by places sound.whole) mark_numbered free_here (λ s some. inl some)

-- a table that is there has its place among all
pub open-within : (tables : List (Option Table)) (t : ℕ) → is_some (get_or tables t None) ≡ true → t < length tables
open-within [] zero h = absurd (cc)
open-within [] (suc t) h = absurd (cc)
open-within (x ∷ xs) zero h = omega arith
open-within (x ∷ xs) (suc t) h = let rest = open-within xs t h in omega arith
