-- What the end of a client's changes of one row leaves.
use Rattle.std.proofs.Common.{◌≡◌, ◌≢◌, ◌⊎◌, inl, inr, ℕ, ◌≤◌, Bool, true, false, is_some, ◌&&◌, List, [], ◌∷◌, ◌++◌, filter, get_or, refl, ap, ap₂, sym, ◌∙◌, arith, Option, Some, None, map}
use Rattle.std.specs.Prelude.{◌==◌}
use Rattle.std.specs.List.{list_all, count_by}
use Rattle.std.specs.Option.{option_map}
use Rattle.std.proofs.lemmas.Grind.{common_steps}
use Rattle.std.proofs.lemmas.List.{map-append}
use Rattle.std.proofs.lemmas.List.Folds.{list_all-append}
use Rattle.std.proofs.lemmas.List.Elements.{filter-append}
use Rattle.au_base.specs.declared.cell.Cell.{Cell}
use Rattle.au_base.specs.declared.numbers.RowNo.{RowNo}
use Rattle.au_base.specs.declared.numbers.ClientNo.{ClientNo}
use Rattle.au_rows.specs.declared.ending.Ending.{Ending}
use Rattle.au_rows.specs.declared.ending.Ending.TheVariants.{Settle, Undo}
use Rattle.au_rows.specs.declared.place.Place.{Place}
use Rattle.au_rows.specs.declared.version.Version.{Version}
use Rattle.au_rows.specs.Edits.{edited, found}
use Rattle.au_rows.specs.Ends.{IsGone, RowEnded, SlotDropped, OnlyFrees, is_bare, is_clear, is_loose_version, is_loose_slot}
use Rattle.au_rows.specs.Held.{Held, row_ended, is_left, is_by, all_ended, is_this}
use Rattle.au_rows.specs.Kept.{is_version, is_apart, content_at, held_of, is_kept, is_whole, owner_in, place_at, place_ended, place_from, place_in, place_names, place_numbered, place_open, place_shown, slot_ended, SameElsewhere}
use Rattle.au_rows.specs.Order.{is_before, in_order}
use Rattle.au_rows.specs.Stored.{Frees}
use Rattle.au_rows.specs.Chains.{is_slot}
use Rattle.au_rows.proofs.ChainLemmas.{slot-named}
use Rattle.au_rows.proofs.UsedLemmas.{any-edited, not-vacant, or-left, some-before}
use Rattle.au_rows.proofs.EditLemmas.{all_edited}
use Rattle.au_rows.proofs.FoundLemmas.{count-edited, none-after, found-written, found-other-written}
use Rattle.au_rows.proofs.OrderLemmas.{written-order}

-- one version of a row goes
pub goes : (old new : List (Option Version)) (key table number : ℕ)
    → is_version table number (get_or old key None) ≡ true → ((other : ℕ) → other ≢ key → get_or new other None ≡ get_or old other None)
    → SameElsewhere old new table number
goes old new key table number had others t n slot ne is =
    others slot (λ same. let here : is_version t n (get_or old key None) ≡ true = ap (λ s. is_version t n (get_or old s None)) (sym same) ∙ is in two_rows (get_or old key None) here had)
  where
    two_rows : (o : Option Version) → is_version t n o ≡ true → is_version table number o ≡ true → ⊥
    two_rows None h k = grind arith
    two_rows (Some version) h k = grind arith

module _ (old new : List (Option Version)) (table number : ℕ) (same : SameElsewhere old new table number) where
  content-stays : (t n : ℕ) (slot : Option ℕ) → ((t == table) && (n == number)) ≡ false → is_kept old t n slot ≡ true → content_at new slot ≡ content_at old slot
  content-stays t n None ne h = refl
  content-stays t n (Some slot) ne h = ap (λ (o : Option Version). option_map (λ (v : Version). v.cells) o) (same t n slot ne h)

  kept-stays : (t n : ℕ) (slot : Option ℕ) → ((t == table) && (n == number)) ≡ false → is_kept old t n slot ≡ true → is_kept new t n slot ≡ true
  kept-stays t n None ne h = refl
  kept-stays t n (Some slot) ne h = ap (is_version t n) (same t n slot ne h) ∙ h

  place-stays : (place : Place) → ((place.table == table) && (place.number.0 == number)) ≡ false → is_whole old place ≡ true → held_of new place ≡ held_of old place
  place-stays place ne h =
      let settled : is_kept old place.table place.number.0 place.settled ≡ true = grind arith in
      let newest : is_kept old place.table place.number.0 place.newest ≡ true = grind arith in
      ap₂ (λ (s n : Option (List Cell)). record { table = place.table; number = place.number; settled = s; owner = place.owner; newest = n })
      (content-stays place.table place.number.0 place.settled ne settled) (content-stays place.table place.number.0 place.newest ne newest)

  whole-stays : (place : Place) → ((place.table == table) && (place.number.0 == number)) ≡ false → is_whole old place ≡ true → is_whole new place ≡ true
  whole-stays place ne h =
      let settled : is_kept old place.table place.number.0 place.settled ≡ true = grind arith in
      let newest : is_kept old place.table place.number.0 place.newest ≡ true = grind arith in
      let apart : is_apart place.settled place.newest ≡ true = grind arith in
      rw (kept-stays place.table place.number.0 place.settled ne settled, kept-stays place.table place.number.0 place.newest ne newest) apart

  other_after : (p q : Place) → p.table ≡ table → p.number.0 ≡ number → is_before p q ≡ true → ((q.table == table) && (q.number.0 == number)) ≡ false
  other_after p q t n b = grind (arith, common_steps)

  other_before : (p q : Place) → q.table ≡ table → q.number.0 ≡ number → is_before p q ≡ true → ((p.table == table) && (p.number.0 == number)) ≡ false
  other_before p q t n b = grind (arith, common_steps)

  rest-stays : (p : Place) (places : List Place) → p.table ≡ table → p.number.0 ≡ number → list_all (is_before p) places ≡ true → list_all (is_whole old) places ≡ true
      → map (held_of new) places ≡ map (held_of old) places
  rest-stays p [] t n b h = refl
  rest-stays p (q ∷ places) t n b h =
      let before : is_before p q ≡ true = grind arith in
      let later : list_all (is_before p) places ≡ true = grind arith in
      let first : is_whole old q ≡ true = grind arith in
      let rest : list_all (is_whole old) places ≡ true = grind arith in
      ap₂ ◌∷◌ (place-stays q (other_after p q t n before) first) (rest-stays p places t n later rest)

  rest-whole : (p : Place) (places : List Place) → p.table ≡ table → p.number.0 ≡ number → list_all (is_before p) places ≡ true → list_all (is_whole old) places ≡ true
      → list_all (is_whole new) places ≡ true
  rest-whole p [] t n b h = refl
  rest-whole p (q ∷ places) t n b h =
      let before : is_before p q ≡ true = grind arith in
      let later : list_all (is_before p) places ≡ true = grind arith in
      let first : is_whole old q ≡ true = grind arith in
      let rest : list_all (is_whole old) places ≡ true = grind arith in
      rw (whole-stays q (other_after p q t n before) first, rest-whole p places t n later rest) refl

  -- rows before the row in order
  not_from : (number' : RowNo) → number'.0 ≡ number → (q : Place) → place_from table number' q ≡ false → ((q.table == table) && (q.number.0 == number)) ≡ false
  not_from number' e q h = grind (arith, common_steps)

-- is_some of a kept slot's content
pub kept-some : (slots : List (Option Version)) (table number : ℕ) (slot : Option ℕ) → is_kept slots table number slot ≡ true → is_some (content_at slots slot) ≡ is_some slot
kept-some slots table number None h = refl
kept-some slots table number (Some slot) h = some (get_or slots slot None) h
  where
    some : (o : Option Version) → is_version table number o ≡ true → is_some (option_map (λ (v : Version). v.cells) o) ≡ true
    some None k = grind arith
    some (Some version) k = refl

apart-sym : (a b : Option ℕ) → is_apart a b ≡ true → is_apart b a ≡ true
apart-sym None None h = refl
apart-sym None (Some y) h = refl
apart-sym (Some x) None h = refl
apart-sym (Some x) (Some y) h = grind (arith, common_steps)

pub apart-none : (slot : Option ℕ) → is_apart slot None ≡ true
apart-none None = refl
apart-none (Some slot) = refl

-- a slot that isn't freed keeps its version
module _ (old new : List (Option Version)) (table number : ℕ) where
  unfreed : (kept freed : Option ℕ) → ((other : ℕ) → freed ≢ Some other → get_or new other None ≡ get_or old other None)
      → is_apart kept freed ≡ true → is_kept old table number kept ≡ true → (content_at new kept ≡ content_at old kept) × (is_kept new table number kept ≡ true)
  unfreed None freed others a h = (refl, refl)
  unfreed (Some slot) None others a h =
      let same : get_or new slot None ≡ get_or old slot None = others slot (λ e. cc) in
      (ap (λ (o : Option Version). option_map (λ (v : Version). v.cells) o) same, ap (is_version table number) same ∙ h)
  unfreed (Some slot) (Some key) others a h =
      let apart : key ≢ slot = grind arith in
      let same : get_or new slot None ≡ get_or old slot None = others slot (λ e. apart (cc)) in
      (ap (λ (o : Option Version). option_map (λ (v : Version). v.cells) o) same, ap (is_version table number) same ∙ h)

  pub loose-goes : (slot : Option ℕ) → ((other : ℕ) → slot ≢ Some other → get_or new other None ≡ get_or old other None)
      → ((here : ℕ) → slot ≡ Some here → get_or new here None ≡ None)
      → is_loose_slot old table number slot ≡ true → SameElsewhere old new table number
  loose-goes None others freed h t n slot ne is = others slot (λ e. cc)
  loose-goes (Some key) others freed h t n slot ne is = by_version (get_or old key None) refl h t n slot ne is
    where
      by_version : (o : Option Version) → get_or old key None ≡ o → is_loose_version table number o ≡ true → SameElsewhere old new table number
      by_version None e k t n slot ne is = same slot is
        where
          not-vacant : (s : ℕ) → is_version t n (get_or old s None) ≡ true → s ≡ key → ⊥
          not-vacant s v q = let vacant : get_or old s None ≡ None = ap (λ x. get_or old x None) q ∙ e in no_version (get_or old s None) vacant v
            where
              no_version : (o : Option Version) → o ≡ None → is_version t n o ≡ true → ⊥
              no_version None z w = grind arith
              no_version (Some version) z w = cc

          same : (s : ℕ) → is_version t n (get_or old s None) ≡ true → get_or new s None ≡ get_or old s None
          same s v = others s (λ q. not-vacant s v (cc))
      by_version (Some version) e k t n slot ne is =
          let had : is_version table number (get_or old key None) ≡ true = ap (is_version table number) e ∙ k in
          goes old new key table number had (λ other ne'. others other (λ q. ne' (cc))) t n slot ne is

  kept-loose : (slot : Option ℕ) → is_kept old table number slot ≡ true → is_loose_slot old table number slot ≡ true
  kept-loose None h = refl
  kept-loose (Some slot) h = by_version (get_or old slot None) h
    where
      by_version : (o : Option Version) → is_version table number o ≡ true → is_loose_version table number o ≡ true
      by_version None k = refl
      by_version (Some version) k = k

pub frees-only : (old new : List (Option Version)) (slot : Option ℕ) → Frees old new slot → OnlyFrees old new
frees-only old new None f other = inl (f.others other (λ e. cc))
frees-only old new (Some key) f other = by_test (key == other) refl
  where
    by_test : (b : Bool) → (key == other) ≡ b → (get_or new other None ≡ get_or old other None) ⊎ (get_or new other None ≡ None)
    by_test true e = inr (f.freed other (let same : key ≡ other = grind (arith, common_steps) in ap Some same))
    by_test false e = inl (f.others other (λ q. let same : key ≡ other = cc in let ne : key ≢ other = grind (arith, common_steps) in ne same))

-- what is found is of the row, and passes what all pass
pub found_passes : {X : Type 0} (p from at : X → Bool) (xs : List X) (x : X)
    → list_all p xs ≡ true → found from at xs ≡ Some x → p x ≡ true
found_passes p from at [] x h e = grind arith
found_passes p from at (y ∷ xs) x h e = grind (arith, common_steps, found_passes p from at xs x)

pub found-at : {X : Type 0} (from at : X → Bool) (xs : List X) (x : X) → found from at xs ≡ Some x → at x ≡ true
found-at from at [] x e = cc
found-at from at (y ∷ xs) x e = grind (arith, common_steps, found-at from at xs x)

pub found-table : (table : ℕ) (number : RowNo) (places : List Place) (p : Place) → place_in table number places ≡ Some p → p.table ≡ table
found-table table number places p e = let at = found-at (place_from table number) (place_at table number) places p e in grind (arith, common_steps)

pub found-number : (table : ℕ) (number : RowNo) (places : List Place) (p : Place) → place_in table number places ≡ Some p → p.number.0 ≡ number.0
found-number table number places p e = let at = found-at (place_from table number) (place_at table number) places p e in grind (arith, common_steps)

pub alone : {X : Type 0} (p : X → Bool) (x : X) → p x ≡ true → list_all p (x ∷ []) ≡ true
alone p x h = rw h refl

-- the changes of a place's owner end, and this slot becomes the committed one
module _ (old new : List (Option Version)) (places : List Place) (p : Place) (slot : Option ℕ) (e : Ending) (by : ClientNo)
    (order : in_order places ≡ true) (whole : list_all (is_whole old) places ≡ true) (there : place_in p.table p.number places ≡ Some p)
    (same : SameElsewhere old new p.table p.number.0) (frees : OnlyFrees old new)
    (content : content_at new slot ≡ content_at old slot) (kept : is_kept new p.table p.number.0 slot ≡ true)
    (goes : (s : ℕ) → is_some (get_or new s None) ≡ true → is_slot s p.settled ≡ true → is_slot s slot ≡ true)
    (row : row_ended e by (held_of old p) ≡ (record { table = p.table; number = p.number; settled = content_at old slot; owner = None; newest = None })) where
  abbrev place : Option ℕ → Place
  place s = record { table = p.table; number = p.number; settled = s; owner = None; newest = None }

  abbrev after : Option ℕ → List Place
  after s = edited (place_from p.table p.number) (place_at p.table p.number) places (place s ∷ [])

  abbrev held : List (Option Version) → Option ℕ → Held
  held slots s = record { table = p.table; number = p.number; settled = content_at slots s; owner = None; newest = None }

  abbrev ends : List (Option Version) → List Place → List Held
  ends slots ps = filter is_left (map (row_ended e by) (map (held_of slots) ps))

  ends-append : (slots : List (Option Version)) (ps qs : List Place) → ends slots (ps ++ qs) ≡ ends slots ps ++ ends slots qs
  ends-append slots ps qs = rw (map-append, map-append, filter-append) refl

  own : (s : Option ℕ) → content_at new s ≡ content_at old s → ends new (place s ∷ []) ≡ filter is_left (held old s ∷ [])
  own s c = ap (λ (o : Option (List Cell)). filter is_left ((record { table = p.table; number = p.number; settled = o; owner = None; newest = None }) ∷ [])) c

  in_front : ends old (p ∷ []) ≡ filter is_left (held old slot ∷ [])
  in_front = ap (λ (r : Held). filter is_left (r ∷ [])) row

  rows_by : (q : Place) (qs : List Place) (b a : Bool) → place_from p.table p.number q ≡ b → place_at p.table p.number q ≡ a
      → is_whole old q ≡ true → list_all (is_before q) qs ≡ true → list_all (is_whole old) qs ≡ true
      → (place_in p.table p.number qs ≡ Some p → ends new (edited (place_from p.table p.number) (place_at p.table p.number) qs (place slot ∷ [])) ≡ ends old qs)
      → place_in p.table p.number (q ∷ qs) ≡ Some p
      → ends new (edited (place_from p.table p.number) (place_at p.table p.number) (q ∷ qs) (place slot ∷ [])) ≡ ends old (q ∷ qs)
  rows_by q qs true true f a w later ws rest is =
      let found : Some q ≡ Some p = rw (f, a) at is in
      let q_is : q ≡ p = cc in
      let qt : q.table ≡ p.table = ap (λ (x : Place). x.table) q_is in
      let qn : q.number.0 ≡ p.number.0 = ap (λ (x : Place). x.number.0) q_is in
      rw (f, a) (
      ends-append new (place slot ∷ []) qs
      ∙ ap₂ (λ (xs ys : List Held). xs ++ ys) (own slot content ∙ sym in_front) (ap (λ (hs : List Held). filter is_left (map (row_ended e by) hs)) (rest-stays old new p.table p.number.0 same q qs qt qn later ws))
      ∙ sym (ends-append old (p ∷ []) qs)
      ∙ ap (λ (x : Place). ends old (x ∷ qs)) (sym q_is)
      )
  rows_by q qs true false f a w later ws rest is = let none = rw (f, a) at is in cc
  rows_by q qs false a f at w later ws rest is =
      let later_is : place_in p.table p.number qs ≡ Some p = rw f at is in
      let first = place-stays old new p.table p.number.0 same q (not_from old new p.table p.number.0 same p.number refl q f) w in
      rw f (
      ends-append new (q ∷ []) (edited (place_from p.table p.number) (place_at p.table p.number) qs (place slot ∷ []))
      ∙ ap₂ (λ (xs ys : List Held). xs ++ ys) (ap (λ (h : Held). filter is_left (row_ended e by h ∷ [])) first) (rest later_is)
      ∙ sym (ends-append old (q ∷ []) qs)
      )

  rows_go : (qs : List Place) → in_order qs ≡ true → list_all (is_whole old) qs ≡ true → place_in p.table p.number qs ≡ Some p
      → ends new (edited (place_from p.table p.number) (place_at p.table p.number) qs (place slot ∷ [])) ≡ ends old qs
  rows_go [] o ws is = cc
  rows_go (q ∷ qs) o ws is =
      let later : list_all (is_before q) qs ≡ true = grind arith in
      let rest : in_order qs ≡ true = grind arith in
      let first : is_whole old q ≡ true = grind arith in
      let others : list_all (is_whole old) qs ≡ true = grind arith in
      rows_by q qs (place_from p.table p.number q) (place_at p.table p.number q) refl refl first later others (rows_go qs rest others) is

  whole_by : (q : Place) (qs : List Place) (b a : Bool) → place_from p.table p.number q ≡ b → place_at p.table p.number q ≡ a
      → is_whole old q ≡ true → list_all (is_before q) qs ≡ true → list_all (is_whole old) qs ≡ true
      → (news : List Place) → list_all (is_whole new) news ≡ true
      → (place_in p.table p.number qs ≡ Some p → list_all (is_whole new) (edited (place_from p.table p.number) (place_at p.table p.number) qs news) ≡ true)
      → place_in p.table p.number (q ∷ qs) ≡ Some p
      → list_all (is_whole new) (edited (place_from p.table p.number) (place_at p.table p.number) (q ∷ qs) news) ≡ true
  whole_by q qs true true f a w later ws news n rest is =
      let found : Some q ≡ Some p = rw (f, a) at is in
      let q_is : q ≡ p = cc in
      let qt : q.table ≡ p.table = ap (λ (x : Place). x.table) q_is in
      let qn : q.number.0 ≡ p.number.0 = ap (λ (x : Place). x.number.0) q_is in
      let stay = rest-whole old new p.table p.number.0 same q qs qt qn later ws in
      rw (f, a) (list_all-append (is_whole new) news qs ∙ rw (n, stay) refl)
  whole_by q qs true false f a w later ws news n rest is = let none = rw (f, a) at is in cc
  whole_by q qs false a f at w later ws news n rest is =
      let later_is : place_in p.table p.number qs ≡ Some p = rw f at is in
      let first = whole-stays old new p.table p.number.0 same q (not_from old new p.table p.number.0 same p.number refl q f) w in
      let others = rest later_is in
      rw f (rw (first, others) refl)

  whole_go : (news : List Place) → list_all (is_whole new) news ≡ true → (qs : List Place) → in_order qs ≡ true → list_all (is_whole old) qs ≡ true → place_in p.table p.number qs ≡ Some p
      → list_all (is_whole new) (edited (place_from p.table p.number) (place_at p.table p.number) qs news) ≡ true
  whole_go news n [] o ws is = cc
  whole_go news n (q ∷ qs) o ws is =
      let later : list_all (is_before q) qs ≡ true = grind arith in
      let rest : in_order qs ≡ true = grind arith in
      let first : is_whole old q ≡ true = grind arith in
      let others : list_all (is_whole old) qs ≡ true = grind arith in
      whole_by q qs (place_from p.table p.number q) (place_at p.table p.number q) refl refl first later others news n (whole_go news n qs rest others) is

  new_whole : (s : Option ℕ) → is_kept new p.table p.number.0 s ≡ true → list_all (is_whole new) (place s ∷ []) ≡ true
  new_whole s k = rw (k, apart-none s) refl

  new_order : (s : Option ℕ) → in_order (after s) ≡ true
  new_order s = written-order p.table p.number (place s) refl refl places order

  new_others : (s : Option ℕ) (t : ℕ) (n : RowNo) → is_this p.table p.number t n ≡ false → place_in t n (after s) ≡ place_in t n places
  new_others s t n ne = found-other-written p.table p.number t n ne places (place s) refl refl order

  new_here : (s : Option ℕ) → is_bare (place_in p.table p.number (after s)) ≡ true
  new_here s = ap is_bare (found-written p.table p.number places (place s) refl refl)

  new_shown : (s : Option ℕ) → count_by place_shown (place s ∷ []) ≤ 1
  new_shown None = omega arith
  new_shown (Some slot) = omega arith

  pub ended-with : RowEnded e p.table p.number by places old (after slot) new
  ended-with = record {
    order = new_order slot;
    whole = whole_go (place slot ∷ []) (new_whole slot kept) places order whole there;
    open_tables = λ tables h. all_edited (place_open tables) (place_from p.table p.number) (place_at p.table p.number) places (place slot ∷ []) h
        (alone (place_open tables) (place slot) (found_passes (place_open tables) (place_from p.table p.number) (place_at p.table p.number) places p h there));
    numbered = λ h. all_edited place_numbered (place_from p.table p.number) (place_at p.table p.number) places (place slot ∷ []) h
        (alone place_numbered (place slot) (found_passes place_numbered (place_from p.table p.number) (place_at p.table p.number) places p h there));
    rows = rows_go places order whole there;
    elsewhere = same;
    frees = frees;
    others = new_others slot;
    here = inl (new_here slot);
    shown = let most = count-edited place_shown (place_from p.table p.number) (place_at p.table p.number) places (place slot ∷ []) in let one = new_shown slot in omega arith;
    keeps = λ s some names.
        any-edited (place_names s) (place_from p.table p.number) (place_at p.table p.number) places (place slot ∷ []) names
        (λ q is here.
        let both : Some p ≡ Some q = sym there ∙ is in
        let same : p ≡ q = cc in
        or-left (is_slot s slot) false (goes s some (ap (λ (x : Place). is_slot s x.settled) same ∙ here)));
  }

-- the changes of a place's owner end
pub ended-row : (old new : List (Option Version)) (places : List Place) (p : Place) (e : Ending) (by : ClientNo)
    → in_order places ≡ true → list_all (is_whole old) places ≡ true → place_in p.table p.number places ≡ Some p
    → is_by by p.owner ≡ true → Frees old new (slot_ended e p)
    → RowEnded e p.table p.number by places old (edited (place_from p.table p.number) (place_at p.table p.number) places (place_ended e p ∷ [])) new
ended-row old new places p Settle by order whole there isby f =
    let wp = found_passes (is_whole old) (place_from p.table p.number) (place_at p.table p.number) places p whole there in
    let settled : is_kept old p.table p.number.0 p.settled ≡ true = grind arith in
    let newest : is_kept old p.table p.number.0 p.newest ≡ true = grind arith in
    let apart : is_apart p.settled p.newest ≡ true = grind arith in
    let stays = unfreed old new p.table p.number.0 p.newest p.settled f.others (apart-sym p.settled p.newest apart) newest in
    ended-with old new places p p.newest Settle by order whole there
    (loose-goes old new p.table p.number.0 p.settled f.others f.freed (kept-loose old new p.table p.number.0 p.settled settled))
    (frees-only old new p.settled f) stays.0 stays.1
    (λ s some here. absurd (not-vacant new s some (f.freed s (slot-named s p.settled here)))) (rw isby refl)
ended-row old new places p Undo by order whole there isby f =
    let wp = found_passes (is_whole old) (place_from p.table p.number) (place_at p.table p.number) places p whole there in
    let settled : is_kept old p.table p.number.0 p.settled ≡ true = grind arith in
    let stays = unfreed old new p.table p.number.0 p.settled None f.others (apart-none p.settled) settled in
    ended-with old new places p p.settled Undo by order whole there
    (loose-goes old new p.table p.number.0 None f.others f.freed refl)
    (frees-only old new None f) stays.0 stays.1 (λ s some here. here) (rw isby refl)

-- a row that isn't the client's stays
pub kept-row : (slots : List (Option Version)) (places : List Place) (table : ℕ) (number : RowNo) (e : Ending) (by : ClientNo)
    → in_order places ≡ true → list_all (is_whole slots) places ≡ true → is_by by (owner_in table number places) ≡ false
    → RowEnded e table number by places slots places slots
kept-row slots places table number e by order whole other = record {
  order = order;
  whole = whole;
  open_tables = λ tables h. h;
  numbered = λ h. h;
  rows = refl;
  elsewhere = λ t n slot ne is. refl;
  frees = λ slot. inl refl;
  others = λ t n ne. refl;
  here = inr (other, refl);
  shown = omega arith;
  keeps = λ s some names. names;
}

-- a version that its place doesn't name goes
module _ (old new : List (Option Version)) (table : ℕ) (number : RowNo) (slot : Option ℕ) (f : Frees old new slot) (loose : is_loose_slot old table number.0 slot ≡ true) where
  drop_same : SameElsewhere old new table number.0
  drop_same = loose-goes old new table number.0 slot f.others f.freed loose

  own_stays : (q : Place) → is_whole old q ≡ true → is_clear slot (Some q) ≡ true → (held_of new q ≡ held_of old q) × (is_whole new q ≡ true)
  own_stays q w clear =
      let settled : is_kept old q.table q.number.0 q.settled ≡ true = grind arith in
      let newest : is_kept old q.table q.number.0 q.newest ≡ true = grind arith in
      let apart : is_apart q.settled q.newest ≡ true = grind arith in
      let first : is_apart q.settled slot ≡ true = grind arith in
      let second : is_apart q.newest slot ≡ true = grind arith in
      let s = unfreed old new q.table q.number.0 q.settled slot f.others first settled in
      let n = unfreed old new q.table q.number.0 q.newest slot f.others second newest in (
        ap₂ (λ (a b : Option (List Cell)). record { table = q.table; number = q.number; settled = a; owner = q.owner; newest = b }) s.0 n.0,
        rw (s.1, n.1) apart,
      )

  drop_by : (q : Place) (qs : List Place) (b a : Bool) → place_from table number q ≡ b → place_at table number q ≡ a
      → is_whole old q ≡ true → list_all (is_before q) qs ≡ true → is_clear slot (place_in table number (q ∷ qs)) ≡ true
      → (is_clear slot (place_in table number qs) ≡ true → (map (held_of new) qs ≡ map (held_of old) qs) × (list_all (is_whole new) qs ≡ true))
      → (map (held_of new) (q ∷ qs) ≡ map (held_of old) (q ∷ qs)) × (list_all (is_whole new) (q ∷ qs) ≡ true)
  drop_by q qs true true fr at w later clear rest =
      let here = own_stays q w (rw (fr, at) at clear) in
      let behind = rest (ap (is_clear slot) (none-after table number q qs fr later)) in
      (ap₂ ◌∷◌ here.0 behind.0, rw (here.1, behind.1) refl)
  drop_by q qs true false fr at w later clear rest =
      let behind = rest (ap (is_clear slot) (none-after table number q qs fr later)) in
      (ap₂ ◌∷◌ (place-stays old new table number.0 drop_same q at w) behind.0, rw (whole-stays old new table number.0 drop_same q at w, behind.1) refl)
  drop_by q qs false a fr at w later clear rest =
      let behind = rest (rw fr at clear) in
      let other = not_from old new table number.0 drop_same number refl q fr in
      (ap₂ ◌∷◌ (place-stays old new table number.0 drop_same q other w) behind.0, rw (whole-stays old new table number.0 drop_same q other w, behind.1) refl)

  drop_go : (qs : List Place) → in_order qs ≡ true → list_all (is_whole old) qs ≡ true → is_clear slot (place_in table number qs) ≡ true
      → (map (held_of new) qs ≡ map (held_of old) qs) × (list_all (is_whole new) qs ≡ true)
  drop_go [] o ws clear = (refl, refl)
  drop_go (q ∷ qs) o ws clear =
      let later : list_all (is_before q) qs ≡ true = grind arith in
      let rest : in_order qs ≡ true = grind arith in
      let first : is_whole old q ≡ true = grind arith in
      let others : list_all (is_whole old) qs ≡ true = grind arith in
      drop_by q qs (place_from table number q) (place_at table number q) refl refl first later clear (drop_go qs rest others)

  pub dropped : (places : List Place) → in_order places ≡ true → list_all (is_whole old) places ≡ true → is_clear slot (place_in table number places) ≡ true
      → SlotDropped table number places old new
  dropped places o ws clear = let both = drop_go places o ws clear in record {
    whole = both.1;
    held = both.0;
    elsewhere = drop_same;
    frees = frees-only old new slot f;
  }

pub dropped-gone : (old new : List (Option Version)) (slot : Option ℕ) (place : Option Place) → Frees old new slot → IsGone slot place new
dropped-gone old new None place f = tt
dropped-gone old new (Some slot) place f = inl (f.freed slot refl)

pub undropped-gone : (slots : List (Option Version)) (slot : Option ℕ) (place : Option Place) → is_clear slot place ≡ false → IsGone slot place slots
undropped-gone slots None place h = tt
undropped-gone slots (Some slot) place h = inr h

pub undropped : (slots : List (Option Version)) (table : ℕ) (number : RowNo) (places : List Place) → list_all (is_whole slots) places ≡ true → SlotDropped table number places slots slots
undropped slots table number places ws = record { whole = ws; held = refl; elsewhere = λ t n slot ne is. refl; frees = λ slot. inl refl }

pub frees-trans : (a b c : List (Option Version)) → OnlyFrees a b → OnlyFrees b c → OnlyFrees a c
frees-trans a b c f g slot = go (f slot) (g slot)
  where
    go : (get_or b slot None ≡ get_or a slot None) ⊎ (get_or b slot None ≡ None) → (get_or c slot None ≡ get_or b slot None) ⊎ (get_or c slot None ≡ None)
        → (get_or c slot None ≡ get_or a slot None) ⊎ (get_or c slot None ≡ None)
    go (inl p) (inl q) = inl (q ∙ p)
    go (inr p) (inl q) = inr (q ∙ p)
    go p (inr q) = inr q

elsewhere-trans : (a b c : List (Option Version)) (table number : ℕ) → SameElsewhere a b table number → SameElsewhere b c table number → SameElsewhere a c table number
elsewhere-trans a b c table number f g t n slot ne is =
    let first = f t n slot ne is in
    g t n slot ne (ap (is_version t n) first ∙ is) ∙ first

pub loose-frees : (old new : List (Option Version)) (table number : ℕ) (slot : Option ℕ) → OnlyFrees old new → is_loose_slot old table number slot ≡ true → is_loose_slot new table number slot ≡ true
loose-frees old new table number None f h = refl
loose-frees old new table number (Some slot) f h = go (f slot)
  where
    go : (get_or new slot None ≡ get_or old slot None) ⊎ (get_or new slot None ≡ None) → is_loose_version table number (get_or new slot None) ≡ true
    go (inl p) = ap (is_loose_version table number) p ∙ h
    go (inr p) = ap (is_loose_version table number) p

pub kept-is-loose : (slots : List (Option Version)) (table number : ℕ) (slot : Option ℕ) → is_kept slots table number slot ≡ true → is_loose_slot slots table number slot ≡ true
kept-is-loose slots table number slot h = kept-loose slots slots table number slot h

-- a row ends, and then a version goes
pub then-dropped : (e : Ending) (table : ℕ) (number : RowNo) (by : ClientNo) (old new : List Place) (before mid after : List (Option Version))
    → RowEnded e table number by old before new mid → SlotDropped table number new mid after → RowEnded e table number by old before new after
then-dropped e table number by old new before mid after r d = record {
  order = r.order;
  whole = d.whole;
  open_tables = r.open_tables;
  numbered = r.numbered;
  rows = ap (all_ended e by) d.held ∙ r.rows;
  elsewhere = elsewhere-trans before mid after table number.0 r.elsewhere d.elsewhere;
  frees = frees-trans before mid after r.frees d.frees;
  others = r.others;
  here = r.here;
  shown = r.shown;
  keeps = λ s some names. r.keeps s (some-before mid after d.frees s some) names;
}
