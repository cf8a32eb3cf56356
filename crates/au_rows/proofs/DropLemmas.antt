-- What is left after a table has gone.
use Rattle.std.proofs.Common.{◌≡◌, ◌≢◌, ◌⊎◌, inl, inr, ℕ, ◌≤◌, Bool, true, false, is_some, cond, ◌&&◌, List, [], ◌∷◌, filter, length, get_or, set, refl, ap, ap₂, sym, ◌∙◌, arith, Option, Some, None, map}
use Rattle.std.specs.Prelude.{◌==◌}
use Rattle.std.specs.List.{list_all, list_any, count_by}
use Rattle.std.specs.Option.{option_map, option_and_then}
use Rattle.std.proofs.lemmas.Grind.{common_steps}
use Rattle.std.proofs.lemmas.List.{get_or-set_other}
use Rattle.au_base.specs.declared.cell.Cell.{Cell}
use Rattle.au_base.specs.declared.numbers.RowNo.{RowNo}
use Rattle.au_rows.specs.declared.place.Place.{Place}
use Rattle.au_rows.specs.declared.table.Table.{Table}
use Rattle.au_rows.specs.declared.unsettled.Unsettled.{Unsettled}
use Rattle.au_rows.specs.declared.version.Version.{Version}
use Rattle.au_rows.specs.Ends.{IsFreed, OnlyFrees, is_loose_slot, names_of}
use Rattle.au_rows.specs.Held.{Change, Contents, Held, is_by, is_elsewhere, owner_of}
use Rattle.au_rows.specs.Kept.{SameInOthers, Sound, change_names, change_of, content_at, held_of, is_apart, is_kept, is_logged, is_owned, is_used, is_version, is_whole, last_unsettled, owner_in, place_at, place_elsewhere, place_from, place_in, place_left, place_names, place_numbered, place_open, place_owned, place_owner}
use Rattle.au_rows.specs.Order.{is_before, in_order}
use Rattle.au_rows.specs.Stored.{Frees}
use Rattle.au_rows.proofs.AllLemmas.{no-more}
use Rattle.au_rows.proofs.EndLemmas.{frees-only, kept-is-loose, loose-goes}
use Rattle.au_rows.proofs.FoundLemmas.{none-after}
use Rattle.au_rows.proofs.ChainLemmas.{slot-named}
use Rattle.au_rows.proofs.PutLemmas.{owner_of-map}
use Rattle.au_rows.proofs.UsedLemmas.{any-parts, not-vacant, or-cases, or-left, or-right, some-before}

pub freed-only : (old new : List (Option Version)) (slot : Option ℕ) → Frees old new slot → OnlyFrees old new
freed-only old new slot f = frees-only old new slot f

pub freed-others : (table : ℕ) (old new : List (Option Version)) (place : Place) → Frees old new place.settled
    → is_loose_slot old place.table place.number.0 place.settled ≡ true → place.table ≡ table → SameInOthers table old new
freed-others table old new place f loose same t n slot other is =
    loose-goes old new place.table place.number.0 place.settled f.others f.freed loose t n slot (apart (t == place.table) refl) is
  where
    apart : (b : Bool) → (t == place.table) ≡ b → ((t == place.table) && (n == place.number.0)) ≡ false
    apart false e = rw e refl
    apart true e = absurd (no-more (t == table) (ap (λ (x : ℕ). t == x) (sym same) ∙ e) other)

pub others-trans : (table : ℕ) (a b c : List (Option Version)) → SameInOthers table a b → SameInOthers table b c → SameInOthers table a c
others-trans table a b c f g t n slot other is =
    let first = f t n slot other is in
    g t n slot other (ap (is_version t n) first ∙ is) ∙ first

pub whole-loose : (slots : List (Option Version)) (place : Place) → is_whole slots place ≡ true → is_loose_slot slots place.table place.number.0 place.settled ≡ true
whole-loose slots place w =
    let settled : is_kept slots place.table place.number.0 place.settled ≡ true = grind arith in
    kept-is-loose slots place.table place.number.0 place.settled settled

pub all-filter : {X : Type 0} (p q : X → Bool) (xs : List X) → list_all p xs ≡ true → list_all p (filter q xs) ≡ true
all-filter p q [] h = refl
all-filter p q (x ∷ xs) h = grind (arith, common_steps, all-filter p q xs)

pub count-filter : {X : Type 0} (p q : X → Bool) (xs : List X) → count_by p (filter q xs) ≤ count_by p xs
count-filter p q [] = omega arith
count-filter p q (x ∷ xs) = let rest = count-filter p q xs in step (q x) rest
  where
    step : (b : Bool) → count_by p (filter q xs) ≤ count_by p xs → count_by p (cond b (x ∷ filter q xs) (filter q xs)) ≤ count_by p (x ∷ xs)
    step true rest = grind (arith, common_steps)
    step false rest = grind (arith, common_steps)

pub order-filter : (q : Place → Bool) (places : List Place) → in_order places ≡ true → in_order (filter q places) ≡ true
order-filter q [] h = refl
order-filter q (p ∷ places) h =
    let later : list_all (is_before p) places ≡ true = grind arith in
    let rest : in_order places ≡ true = grind arith in
    by_test (q p) (all-filter (is_before p) q places later) (order-filter q places rest)
  where
    by_test : (b : Bool) → list_all (is_before p) (filter q places) ≡ true → in_order (filter q places) ≡ true
        → in_order (cond b (p ∷ filter q places) (filter q places)) ≡ true
    by_test true l o = rw (l, o) refl
    by_test false l o = o

module _ (table : ℕ) (old new : List (Option Version)) (same : SameInOthers table old new) where
  other-kept : (t n : ℕ) (slot : Option ℕ) → (t == table) ≡ false → is_kept old t n slot ≡ true → (content_at new slot ≡ content_at old slot) × (is_kept new t n slot ≡ true)
  other-kept t n None other k = (refl, refl)
  other-kept t n (Some slot) other k =
      let stays = same t n slot other k in
      (ap (λ (v : Option Version). option_map (λ (x : Version). x.cells) v) stays, ap (is_version t n) stays ∙ k)

  other-place : (p : Place) → place_elsewhere table p ≡ true → is_whole old p ≡ true → (held_of new p ≡ held_of old p) × (is_whole new p ≡ true)
  other-place p e w =
      let other : (p.table == table) ≡ false = grind (arith, common_steps) in
      let settled : is_kept old p.table p.number.0 p.settled ≡ true = grind arith in
      let newest : is_kept old p.table p.number.0 p.newest ≡ true = grind arith in
      let apart : is_apart p.settled p.newest ≡ true = grind arith in
      let s = other-kept p.table p.number.0 p.settled other settled in
      let n = other-kept p.table p.number.0 p.newest other newest in
      (ap₂ (λ (a b : Option (List Cell)). record { table = p.table; number = p.number; settled = a; owner = p.owner; newest = b }) s.0 n.0, rw (s.1, n.1) apart)

  gone-by : (p : Place) (ps : List Place) (b : Bool) → place_elsewhere table p ≡ b → is_whole old p ≡ true
      → (map (held_of new) (filter (place_elsewhere table) ps) ≡ filter (is_elsewhere table) (map (held_of old) ps)) × (list_all (is_whole new) (filter (place_elsewhere table) ps) ≡ true)
      → (map (held_of new) (filter (place_elsewhere table) (p ∷ ps)) ≡ filter (is_elsewhere table) (map (held_of old) (p ∷ ps))) × (list_all (is_whole new) (filter (place_elsewhere table) (p ∷ ps)) ≡ true)
  gone-by p ps true e w rest = let here = other-place p e w in (rw e (ap₂ ◌∷◌ here.0 rest.0), rw e (rw (here.1, rest.1) refl))
  gone-by p ps false e w rest = (rw e rest.0, rw e rest.1)

  gone : (ps : List Place) → list_all (is_whole old) ps ≡ true
      → (map (held_of new) (filter (place_elsewhere table) ps) ≡ filter (is_elsewhere table) (map (held_of old) ps)) × (list_all (is_whole new) (filter (place_elsewhere table) ps) ≡ true)
  gone [] w = (refl, refl)
  gone (p ∷ ps) w =
      let first : is_whole old p ≡ true = grind arith in
      let rest : list_all (is_whole old) ps ≡ true = grind arith in
      gone-by p ps (place_elsewhere table p) refl first (gone ps rest)

  pub gone-held : (ps : List Place) → list_all (is_whole old) ps ≡ true → map (held_of new) (filter (place_elsewhere table) ps) ≡ filter (is_elsewhere table) (map (held_of old) ps)
  gone-held ps w = (gone ps w).0

-- a row of another table is found as before
found-elsewhere : (table t : ℕ) (n : RowNo) → (t == table) ≡ false → (ps : List Place) → in_order ps ≡ true → place_in t n (filter (place_elsewhere table) ps) ≡ place_in t n ps
found-elsewhere table t n other [] o = refl
found-elsewhere table t n other (p ∷ ps) o =
    let later : list_all (is_before p) ps ≡ true = grind arith in
    let rest : in_order ps ≡ true = grind arith in
    step (place_elsewhere table p) (place_from t n p) refl refl later (found-elsewhere table t n other ps rest)
  where
    not_at : place_elsewhere table p ≡ false → place_at t n p ≡ false
    not_at e = grind (arith, common_steps)

    step : (b f : Bool) → place_elsewhere table p ≡ b → place_from t n p ≡ f → list_all (is_before p) ps ≡ true
        → place_in t n (filter (place_elsewhere table) ps) ≡ place_in t n ps
        → place_in t n (filter (place_elsewhere table) (p ∷ ps)) ≡ place_in t n (p ∷ ps)
    step true f e g later rest = rw e (ap (λ (o : Option Place). cond (place_from t n p) (cond (place_at t n p) (Some p) None) o) rest)
    step false true e g later rest = rw (e, g, not_at e) (rest ∙ none-after t n p ps g later)
    step false false e g later rest = rw (e, g) rest

-- no row of the table is found
found-gone : (table : ℕ) (n : RowNo) (ps : List Place) → place_in table n (filter (place_elsewhere table) ps) ≡ None
found-gone table n [] = refl
found-gone table n (p ∷ ps) = step (place_elsewhere table p) (place_from table n p) refl refl (found-gone table n ps)
  where
    not_at : place_elsewhere table p ≡ true → place_at table n p ≡ false
    not_at e = grind (arith, common_steps)

    step : (b f : Bool) → place_elsewhere table p ≡ b → place_from table n p ≡ f → place_in table n (filter (place_elsewhere table) ps) ≡ None
        → place_in table n (filter (place_elsewhere table) (p ∷ ps)) ≡ None
    step true true e g rest = rw (e, g, not_at e) refl
    step true false e g rest = rw (e, g) rest
    step false f e g rest = rw e rest

module _ (table : ℕ) (old new : List (Option Version)) (same : SameInOthers table old new) (places : List Place) (changes : List Unsettled) (sound : Sound places old changes)
    (settled : (row : RowNo) → owner_of table row (map (held_of old) places) ≡ None) (frees : OnlyFrees old new) (freed : IsFreed table places new) where
  no_owner : (row : RowNo) → owner_in table row places ≡ None
  no_owner row = sym (owner_of-map old table row places) ∙ settled row

  change_elsewhere : (c : Unsettled) → is_owned places c ≡ true → (c.table == table) ≡ false
  change_elsewhere c owned = go (c.table == table) refl
    where
      go : (b : Bool) → (c.table == table) ≡ b → (c.table == table) ≡ false
      go false e = e
      go true e =
          let is : c.table ≡ table = grind (arith, common_steps) in
          let none : is_owned places c ≡ false = ap (λ (t : ℕ). is_by c.by (owner_in t c.number places)) is ∙ ap (is_by c.by) (no_owner c.number) in
          absurd (no-more (is_owned places c) owned none)

  logged_go : (cs : List Unsettled) → list_all (is_owned places) cs ≡ true → list_all (is_logged old) cs ≡ true
      → (list_all (is_logged new) cs ≡ true) × (map (change_of new) cs ≡ map (change_of old) cs) × (list_all (is_owned (filter (place_elsewhere table) places)) cs ≡ true)
  logged_go [] o l = (refl, refl, refl)
  logged_go (c ∷ cs) o l =
      let mine : is_owned places c ≡ true = grind arith in
      let owned : list_all (is_owned places) cs ≡ true = grind arith in
      let first : is_logged old c ≡ true = grind arith in
      let logged : list_all (is_logged old) cs ≡ true = grind arith in
      let other = change_elsewhere c mine in
      let kept = other-kept table old new same c.table c.number.0 c.slot other first in
      let here : is_owned (filter (place_elsewhere table) places) c ≡ true =
      ap (λ (p : Option Place). is_by c.by (option_and_then place_owner p)) (found-elsewhere table c.table c.number other places sound.order) ∙ mine in
      let rest = logged_go cs owned logged in (
        rw (kept.1, rest.0) refl,
        ap₂ (λ (content : Option (List Cell)) (tail : List Change). (record { by = c.by; table = c.table; number = c.number; content = content }) ∷ tail) kept.0 rest.1,
        rw (here, rest.2) refl,
      )

  agrees_by : (t : ℕ) (n : RowNo) (b : Bool) → (t == table) ≡ b
      → option_and_then place_owned (place_in t n (filter (place_elsewhere table) places)) ≡ last_unsettled t n changes
  agrees_by t n false e = ap (option_and_then place_owned) (found-elsewhere table t n e places sound.order) ∙ sound.agrees t n
  agrees_by t n true e =
      let is : t ≡ table = grind (arith, common_steps) in
      let gone_here : place_in t n (filter (place_elsewhere table) places) ≡ None = ap (λ (x : ℕ). place_in x n (filter (place_elsewhere table) places)) is ∙ found-gone table n places in
      let unowned : owner_in t n places ≡ None = ap (λ (x : ℕ). owner_in x n places) is ∙ no_owner n in
      ap (option_and_then place_owned) gone_here ∙ (sym (not_owned (place_in t n places) unowned) ∙ sound.agrees t n)
    where
      not_owned : (o : Option Place) → option_and_then place_owner o ≡ None → option_and_then place_owned o ≡ None
      not_owned None h = refl
      not_owned (Some place) h = rw h refl

  pub gone-sound : Sound (filter (place_elsewhere table) places) new changes
  gone-sound = let logged = logged_go changes sound.owned sound.logged in record {
    order = order-filter (place_elsewhere table) places sound.order;
    whole = (gone table old new same places sound.whole).1;
    left = all-filter place_left (place_elsewhere table) places sound.left;
    numbered = all-filter place_numbered (place_elsewhere table) places sound.numbered;
    logged = logged.0;
    owned = logged.2;
    agrees = λ t n. agrees_by t n (t == table) refl;
    used = λ slot some. used slot some (or-cases (list_any (place_names slot) places) (list_any (change_names slot) changes) (sound.used slot (some-before old new frees slot some)));
  }
    where
      of-table : (slot : ℕ) (place : Place) → place_names slot place ≡ true → place_elsewhere table place ≡ false → names_of table slot place ≡ true
      of-table slot place names here = grind (arith, common_steps)

      used : (slot : ℕ) → is_some (get_or new slot None) ≡ true → (list_any (place_names slot) places ≡ true) ⊎ (list_any (change_names slot) changes ≡ true) → is_used (filter (place_elsewhere table) places) changes slot ≡ true
      used slot some (inr names) = or-right (list_any (place_names slot) (filter (place_elsewhere table) places)) (list_any (change_names slot) changes) names
      used slot some (inl names) = go (any-parts (place_names slot) (place_elsewhere table) (names_of table slot) places (of-table slot) names)
        where
          go : (list_any (place_names slot) (filter (place_elsewhere table) places) ≡ true) ⊎ (list_any (names_of table slot) places ≡ true) → is_used (filter (place_elsewhere table) places) changes slot ≡ true
          go (inl kept) = or-left (list_any (place_names slot) (filter (place_elsewhere table) places)) (list_any (change_names slot) changes) kept
          go (inr gone_with) = absurd (not-vacant new slot some (freed slot gone_with))

  pub gone-changes : map (change_of new) changes ≡ map (change_of old) changes
  gone-changes = (logged_go changes sound.owned sound.logged).1

-- the version of a place of the table goes
pub freed-here : (old new : List (Option Version)) (table : ℕ) (place : Place) → Frees old new place.settled → (slot : ℕ) → names_of table slot place ≡ true → get_or new slot None ≡ None
freed-here old new table place f slot names =
    let here : place_names slot place ≡ true = grind (arith, common_steps) in
    f.freed slot (slot-named slot place.settled here)

-- the tables of the places that are left are open
pub gone-open : (table : ℕ) (tables : List (Option Table)) (places : List Place) → list_all (place_open tables) places ≡ true
    → list_all (place_open (set tables table None)) (filter (place_elsewhere table) places) ≡ true
gone-open table tables [] h = refl
gone-open table tables (p ∷ ps) h =
    let first : place_open tables p ≡ true = grind arith in
    let rest : list_all (place_open tables) ps ≡ true = grind arith in
    step (place_elsewhere table p) refl first (gone-open table tables ps rest)
  where
    step : (b : Bool) → place_elsewhere table p ≡ b → place_open tables p ≡ true → list_all (place_open (set tables table None)) (filter (place_elsewhere table) ps) ≡ true
        → list_all (place_open (set tables table None)) (filter (place_elsewhere table) (p ∷ ps)) ≡ true
    step true e first rest =
        let ne : p.table ≢ table = grind (arith, common_steps) in
        let same : get_or (set tables table None) p.table None ≡ get_or tables p.table None = get_or-set_other tables table p.table None None ne in
        rw e (rw (same, first, rest) refl)
    step false e first rest = rw e rest

pub shorter : {X : Type 0} (q : X → Bool) (xs : List X) → length (filter q xs) ≤ length xs
shorter q [] = omega arith
shorter q (x ∷ xs) = let rest = shorter q xs in step (q x) rest
  where
    step : (b : Bool) → length (filter q xs) ≤ length xs → length (cond b (x ∷ filter q xs) (filter q xs)) ≤ length (x ∷ xs)
    step true rest = omega arith
    step false rest = omega arith

pub all-same-contents : (tables tables' : List (Option Table)) (held held' : List Held) (changes changes' : List Change) (spare : ℕ)
    → tables' ≡ tables → held' ≡ held → changes' ≡ changes
    → (let left : Contents = record { tables = tables'; held = held'; changes = changes'; spare = spare } in left) ≡ (let right : Contents = record { tables = tables; held = held; changes = changes; spare = spare } in right)
all-same-contents tables tables' held held' changes changes' spare t h c =
    ap (λ (x : List (Option Table)). let both : Contents = record { tables = x; held = held'; changes = changes'; spare = spare } in both) t
    ∙ ap₂ (λ (x : List Held) (y : List Change). let both : Contents = record { tables = tables; held = x; changes = y; spare = spare } in both) h c
