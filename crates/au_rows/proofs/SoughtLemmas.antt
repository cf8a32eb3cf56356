-- What the index finds is what there is.
use Rattle.std.proofs.Common.{◌≡◌, ◌∙◌, ◌⊎◌, ◌↔◌, inl, inr, ℕ, suc, ◌<◌, Bool, true, false, cond, not, ◌&&◌, is_some, List, [], ◌∷◌, map, length, get_or, refl, ap, ap₂, sym, subst, arith, Option, Some, None}
use Rattle.std.specs.Prelude.{◌==◌, IfNone, IfSome, IsTrue, slice_get, slice_index}
use Rattle.std.specs.List.{Contains, list_all, list_any}
use Rattle.std.specs.Option.{option_and_then, option_map}
use Rattle.std.proofs.lemmas.Grind.{common_steps}
use Rattle.std.proofs.lemmas.List.Elements.{Contains-append_cases, Contains-append_left, Contains-append_right}
use Rattle.au_base.specs.declared.cell.Cell.{Cell}
use Rattle.au_base.specs.declared.numbers.RowNo.{RowNo}
use Rattle.au_base.specs.declared.numbers.ClientNo.{ClientNo}
use Rattle.au_rows.specs.declared.place.Place.{Place}
use Rattle.au_rows.specs.declared.sought.Sought.TheVariants.{Seen, Locked}
use Rattle.au_rows.specs.declared.unsettled.Unsettled.{Unsettled}
use Rattle.au_rows.specs.declared.version.Version.{Version}
use Rattle.au_rows.specs.Chains.{is_slot}
use Rattle.au_rows.specs.Hash.{cell_hash, hash_step, key_hash, place_hash, stored_hash, version_hash}
use Rattle.au_rows.specs.Held.{HasKey, SomeLocks, entry, is_by, is_this, or_else, seen_by, settled_of, shown_to, view_of}
use Rattle.au_rows.specs.Kept.{Sound, change_names, change_of, content_at, held_of, is_kept, is_logged, is_owned, is_version, is_whole, last_unsettled, place_at, place_from, place_in, place_names, place_owned, place_owner}
use Rattle.au_rows.specs.Order.{in_order, is_before}
use Rattle.au_rows.specs.Sought.{IsIndexedBy, IsMatch, is_sought, slot_seen}
use Rattle.au_rows.proofs.AllLemmas.{this-number, this-table}
use Rattle.au_rows.proofs.ChainLemmas.{number-itself, slot-named}
use Rattle.au_rows.proofs.EndLemmas.{found-number, found-table, found_passes}
use Rattle.au_rows.proofs.FoundLemmas.{none-after}
use Rattle.au_rows.proofs.IndexLemmas.{kept-version, owned-place, version-number, version-table}
use Rattle.au_rows.proofs.KeyLemmas.{never}
use Rattle.au_rows.proofs.PutLemmas.{settled-found}
use Rattle.au_rows.proofs.UnderLemmas.{first-or-later, shown}
use Rattle.au_rows.proofs.UsedLemmas.{or-cases}

-- what is stored under a key has the key's number
stored-key : (cells : List Cell) (hash : ℕ) (places : List ℕ) (key : List Cell) → length places ≡ length key
    → ((at : ℕ) → at < length places → slice_get cells (slice_index places at) ≡ slice_get key at) → stored_hash hash places cells ≡ key_hash hash key
stored-key cells hash [] [] len same = refl
stored-key cells hash [] (k ∷ key) len same = absurd (omega arith)
stored-key cells hash (p ∷ places) [] len same = absurd (omega arith)
stored-key cells hash (p ∷ places) (k ∷ key) len same =
    let first : slice_get cells p ≡ Some k = same 0 (omega arith) in
    let here : place_hash cells p ≡ cell_hash k = rw first refl in
    rw here (stored-key cells (hash_step hash (cell_hash k)) places key (omega arith) (λ at lt. same (suc at) (omega arith)))

pub hash-of-key : (table number : ℕ) (places : List ℕ) (key cells : List Cell) → (places ≡ [] → ⊥) → HasKey places key (Some cells) → version_hash table number places cells ≡ key_hash table key
hash-of-key table number [] key cells some has = absurd (some refl)
hash-of-key table number (p ∷ places) key cells some has = stored-key cells table (p ∷ places) key has.0 has.1

nothing-in : {X : Type 0} (x : X) → Contains [] x → ⊥
nothing-in x h = let lt = h.1 in omega arith

pub row-number : (a b : RowNo) → a.0 ≡ b.0 → a ≡ b
row-number a b e = ap (λ (x : ℕ). let n : RowNo = record { 0 = x } in n) e

-- the place of the version's row
version-place : (places : List Place) (t n : ℕ) (version : Version) → is_version t n (Some version) ≡ true → place_in version.table version.number places ≡ place_in t (record { 0 = n }) places
version-place places t n version h = ap₂ (λ (a b : ℕ). place_in a (record { 0 = b }) places) (version-table t n version h) (version-number t n version h)

-- what is in a slot
content-slot : (slots : List (Option Version)) (o : Option ℕ) (cells : List Cell) → content_at slots o ≡ Some cells
    → (slot : ℕ) × (version : Version) × (o ≡ Some slot) × (get_or slots slot None ≡ Some version) × (version.cells ≡ cells)
content-slot slots None cells h = absurd (cc)
content-slot slots (Some slot) cells h = go (get_or slots slot None) refl h
  where
    go : (v : Option Version) → get_or slots slot None ≡ v → option_map (λ (x : Version). x.cells) v ≡ Some cells
        → (s : ℕ) × (version : Version) × (Some slot ≡ Some s) × (get_or slots s None ≡ Some version) × (version.cells ≡ cells)
    go None e h = absurd (cc)
    go (Some version) e h = (slot, version, refl, e, cc)

in-slot : (slots : List (Option Version)) (o : Option ℕ) (slot : ℕ) (version : Version) → o ≡ Some slot → get_or slots slot None ≡ Some version → content_at slots o ≡ Some version.cells
in-slot slots o slot version e is = ap (content_at slots) e ∙ ap (option_map (λ (x : Version). x.cells)) is

module _ (slots : List (Option Version)) (by : ClientNo) where
  content-seen : (p : Place) → seen_by by (held_of slots p) ≡ content_at slots (slot_seen by p)
  content-seen p = go (is_by by p.owner) refl
    where
      go : (b : Bool) → is_by by p.owner ≡ b → seen_by by (held_of slots p) ≡ content_at slots (slot_seen by p)
      go true e = rw e refl
      go false e = rw e refl

  seen-kept : (p : Place) → is_whole slots p ≡ true → is_kept slots p.table p.number.0 (slot_seen by p) ≡ true
  seen-kept p whole = go (is_by by p.owner) refl
    where
      settled : is_kept slots p.table p.number.0 p.settled ≡ true
      settled = grind arith

      newest : is_kept slots p.table p.number.0 p.newest ≡ true
      newest = grind arith

      go : (b : Bool) → is_by by p.owner ≡ b → is_kept slots p.table p.number.0 (slot_seen by p) ≡ true
      go true e = rw e newest
      go false e = rw e settled

  module _ (t : ℕ) where
    -- a row of a place is in the view
    view-has : (places : List Place) (n : RowNo) (p : Place) (cells : List Cell) → place_in t n places ≡ Some p → seen_by by (held_of slots p) ≡ Some cells → Contains (view_of t by (map (held_of slots) places)) (n, cells)
    view-has [] n p cells is seen = absurd (cc)
    view-has (q ∷ qs) n p cells is seen = step (place_from t n q) (place_at t n q) refl refl is (λ later. view-has qs n p cells later seen)
      where
        step : (f a : Bool) → place_from t n q ≡ f → place_at t n q ≡ a → cond f (cond a (Some q) None) (place_in t n qs) ≡ Some p
            → (place_in t n qs ≡ Some p → Contains (view_of t by (map (held_of slots) qs)) (n, cells)) → Contains (view_of t by (map (held_of slots) (q ∷ qs))) (n, cells)
        step true true f a found rest =
            let q_is : q ≡ p = cc in
            let table : q.table ≡ t = grind (arith, common_steps) in
            let number : n.0 ≡ q.number.0 = grind (arith, common_steps) in
            let here = shown slots t by q n cells table (row-number n q.number number) (ap (λ (x : Place). seen_by by (held_of slots x)) q_is ∙ seen) in
            Contains-append_left (shown_to t by (held_of slots q)) (view_of t by (map (held_of slots) qs)) (n, cells)
            (subst (λ (rows : List (RowNo × List Cell)). Contains rows (n, cells)) (sym here) (0, omega arith, refl))
        step true false f a found rest = absurd (cc)
        step false a f at found rest = Contains-append_right (shown_to t by (held_of slots q)) (view_of t by (map (held_of slots) qs)) (n, cells) (rest found)

    shown-entry : (number : RowNo) (o : Option (List Cell)) (row : RowNo × List Cell) → Contains (entry number o) row → (row.0 ≡ number) × (o ≡ Some row.1)
    shown-entry number None row h = absurd (nothing-in row h)
    shown-entry number (Some cells) row h = go (first-or-later (number, cells) row [] h)
      where
        go : ((number, cells) ≡ row) ⊎ Contains [] row → (row.0 ≡ number) × (Some cells ≡ Some row.1)
        go (inl same) = (ap (λ (r : RowNo × List Cell). r.0) (sym same), ap (λ (r : RowNo × List Cell). Some r.1) same)
        go (inr more) = absurd (nothing-in row more)

    pub shown-is : (q : Place) (row : RowNo × List Cell) → Contains (shown_to t by (held_of slots q)) row → ((q.table == t) ≡ true) × (row.0 ≡ q.number) × (seen_by by (held_of slots q) ≡ Some row.1)
    shown-is q row h = go (q.table == t) refl h
      where
        go : (b : Bool) → (q.table == t) ≡ b → Contains (cond b (entry q.number (seen_by by (held_of slots q))) []) row → ((q.table == t) ≡ true) × (row.0 ≡ q.number) × (seen_by by (held_of slots q) ≡ Some row.1)
        go true e c = let both = shown-entry q.number (seen_by by (held_of slots q)) row c in (e, both.0, both.1)
        go false e c = absurd (nothing-in row c)

    -- a row of the view has a place
    view-from : (places : List Place) → in_order places ≡ true → (row : RowNo × List Cell) → Contains (view_of t by (map (held_of slots) places)) row
        → (p : Place) × (place_in t row.0 places ≡ Some p) × (seen_by by (held_of slots p) ≡ Some row.1)
    view-from [] order row h = absurd (nothing-in row h)
    view-from (q ∷ qs) order row h = step (Contains-append_cases (shown_to t by (held_of slots q)) (view_of t by (map (held_of slots) qs)) row h) (λ later. view-from qs rest row later)
      where
        later : list_all (is_before q) qs ≡ true
        later = grind arith

        rest : in_order qs ≡ true
        rest = grind arith

        behind : (p : Place) (f : Bool) → place_from t row.0 q ≡ f → place_in t row.0 qs ≡ Some p → place_in t row.0 (q ∷ qs) ≡ Some p
        behind p true f is = let none : None ≡ Some p = sym (none-after t row.0 q qs f later) ∙ is in absurd (cc)
        behind p false f is = rw f is

        step : Contains (shown_to t by (held_of slots q)) row ⊎ Contains (view_of t by (map (held_of slots) qs)) row
            → (Contains (view_of t by (map (held_of slots) qs)) row → (p : Place) × (place_in t row.0 qs ≡ Some p) × (seen_by by (held_of slots p) ≡ Some row.1))
            → (p : Place) × (place_in t row.0 (q ∷ qs) ≡ Some p) × (seen_by by (held_of slots p) ≡ Some row.1)
        step (inl here) more =
            let is = shown-is q row here in
            let table : (q.table == t) ≡ true = is.0 in
            let number : row.0.0 ≡ q.number.0 = ap (λ (n : RowNo). n.0) is.1 in
            let from : place_from t row.0 q ≡ true = grind (arith, common_steps) in
            let at : place_at t row.0 q ≡ true = grind (arith, common_steps) in
            (q, rw (from, at) refl, is.2)
        step (inr there) more = let found = more there in (found.0, behind found.0 (place_from t row.0 q) refl found.1, found.2)

    -- a version that is found is of a row in the view
    pub under-some : (places : List Place) (key_places : List ℕ) (key : List Cell) (slot : ℕ) (version : Version) → get_or slots slot None ≡ Some version → IsMatch Seen places t key_places key by slot version
        → Contains (view_of t by (map (held_of slots) places)) (version.number, version.cells)
    under-some places key_places key slot version is m = go (place_in version.table version.number places) refl m.2
      where
        go : (o : Option Place) → place_in version.table version.number places ≡ o → is_sought Seen by slot o ≡ true → Contains (view_of t by (map (held_of slots) places)) (version.number, version.cells)
        go None e h = absurd (cc)
        go (Some p) e h =
            view-has places version.number p version.cells (ap (λ (x : ℕ). place_in x version.number places) (sym m.0) ∙ e)
            (content-seen p ∙ in-slot slots (slot_seen by p) slot version (slot-named slot (slot_seen by p) h) is)

    -- a version that is found under the key, of this row
    pub record Matched (places : List Place) (key_places : List ℕ) (key : List Cell) (row : RowNo × List Cell) : Type 0 where
      pub slot : ℕ
      pub version : Version
      pub there : get_or slots slot None ≡ Some version
      pub hashed : version.hash ≡ key_hash t key
      pub matches : IsMatch Seen places t key_places key by slot version
      pub numbered : version.number.0 ≡ row.0.0

    -- a row of the view that has the key has such a version
    pub matched : (places : List Place) (key_places : List ℕ) (key : List Cell) → in_order places ≡ true → list_all (is_whole slots) places ≡ true → IsIndexedBy t key_places slots → (key_places ≡ [] → ⊥)
        → (row : RowNo × List Cell) → Contains (view_of t by (map (held_of slots) places)) row → HasKey key_places key (Some row.1) → Matched places key_places key row
    matched places key_places key order whole indexed keyed row h has =
        let place = view-from places order row h in
        let p = place.0 in
        let found = content-slot slots (slot_seen by p) row.1 (sym (content-seen p) ∙ place.2) in
        let version = found.1 in
        let w = found_passes (is_whole slots) (place_from t row.0) (place_at t row.0) places p whole place.1 in
        let of = kept-version slots p.table p.number.0 found.0 (slot_seen by p) version found.3 found.2 (seen-kept p w) in
        let table : version.table ≡ t = version-table p.table p.number.0 version of ∙ found-table t row.0 places p place.1 in
        let number : version.number.0 ≡ row.0.0 = version-number p.table p.number.0 version of ∙ found-number t row.0 places p place.1 in
        let there : place_in version.table version.number places ≡ Some p = ap₂ (λ (a b : ℕ). place_in a (record { 0 = b }) places) table number ∙ place.1 in
        let has_it = subst (λ (cells : List Cell). HasKey key_places key (Some cells)) (sym found.4) has in
        let seen : is_sought Seen by found.0 (place_in version.table version.number places) ≡ true = ap (is_sought Seen by found.0) there ∙ (ap (is_slot found.0) found.2 ∙ number-itself found.0) in
        record {
          slot = found.0;
          version = version;
          there = found.3;
          hashed = indexed found.0 version found.3 table ∙ (ap (λ (x : ℕ). version_hash x version.number.0 key_places version.cells) table ∙ hash-of-key t version.number.0 key_places key version.cells keyed has_it);
          matches = (table, has_it, seen);
          numbered = number;
        }

    -- where none is found, no row of the view has the key
    pub under-none : (places : List Place) (key_places : List ℕ) (key : List Cell) → in_order places ≡ true → list_all (is_whole slots) places ≡ true → IsIndexedBy t key_places slots → (key_places ≡ [] → ⊥)
        → ((slot : ℕ) (version : Version) → get_or slots slot None ≡ Some version → version.hash ≡ key_hash t key → IsMatch Seen places t key_places key by slot version → ⊥)
        → (row : RowNo × List Cell) → Contains (view_of t by (map (held_of slots) places)) row → HasKey key_places key (Some row.1) → ⊥
    under-none places key_places key order whole indexed keyed none row h has =
        let m = matched places key_places key order whole indexed keyed row h has in none m.slot m.version m.there m.hashed m.matches

-- the owner of another client's row
owner-others : (by c : ClientNo) (w : Option ClientNo) → is_by c w ≡ true → (is_some w && not (is_by by w)) ≡ true → not (c.0 == by.0) ≡ true
owner-others by c None h o = cc
owner-others by c (Some owner) h o = grind (arith, common_steps)

others-owner : (by c : ClientNo) (w : Option ClientNo) → is_by c w ≡ true → not (c.0 == by.0) ≡ true → (is_some w && not (is_by by w)) ≡ true
others-owner by c None h o = cc
others-owner by c (Some owner) h o = grind (arith, common_steps)

other-owner : (by owner : ClientNo) → (is_some (Some owner) && not (is_by by (Some owner))) ≡ true → not (owner.0 == by.0) ≡ true
other-owner by owner h = h

-- the place that names a slot is found
settled-named : (slot : ℕ) (places : List Place) → in_order places ≡ true → list_any (place_names slot) places ≡ true → (q : Place) × (place_in q.table q.number places ≡ Some q) × (is_slot slot q.settled ≡ true)
settled-named slot [] order h = absurd (cc)
settled-named slot (p ∷ ps) order h = step (or-cases (place_names slot p) (list_any (place_names slot) ps) h) (λ some. settled-named slot ps rest some)
  where
    later : list_all (is_before p) ps ≡ true
    later = grind arith

    rest : in_order ps ≡ true
    rest = grind arith

    behind : (q : Place) (f : Bool) → place_from q.table q.number p ≡ f → place_in q.table q.number ps ≡ Some q → place_in q.table q.number (p ∷ ps) ≡ Some q
    behind q true f is = let none : None ≡ Some q = sym (none-after q.table q.number p ps f later) ∙ is in absurd (cc)
    behind q false f is = rw f is

    step : (place_names slot p ≡ true) ⊎ (list_any (place_names slot) ps ≡ true)
        → (list_any (place_names slot) ps ≡ true → (q : Place) × (place_in q.table q.number ps ≡ Some q) × (is_slot slot q.settled ≡ true))
        → (q : Place) × (place_in q.table q.number (p ∷ ps) ≡ Some q) × (is_slot slot q.settled ≡ true)
    step (inl here) more =
        let from : place_from p.table p.number p ≡ true = grind (arith, common_steps) in
        let at : place_at p.table p.number p ≡ true = grind (arith, common_steps) in
        (p, rw (from, at) refl, here)
    step (inr some) more = let found = more some in (found.0, behind found.0 (place_from found.0.table found.0.number p) refl found.1, found.2)

module _ (slots : List (Option Version)) (by : ClientNo) (places : List Place) (changes : List Unsettled) (sound : Sound places slots changes) (t : ℕ) (key_places : List ℕ) (key : List Cell) where
  abbrev Locks : List Unsettled → Type 0
  Locks cs = SomeLocks key_places (map (held_of slots) places) t key by (map (change_of slots) cs)

  -- the last change of a row whose committed content has the key locks it
  locks-last : (cs : List Unsettled) (n : RowNo) (owner : ClientNo) (s : Option ℕ) → not (owner.0 == by.0) ≡ true → last_unsettled t n cs ≡ Some (owner, s)
      → HasKey key_places key (settled_of t n (map (held_of slots) places)) → Locks cs
  locks-last [] n owner s other is has = absurd (cc)
  locks-last (c ∷ cs) n owner s other is has = step (last_unsettled t n cs) (is_this t n c.table c.number) refl refl is (λ later. locks-last cs n owner s other later has)
    where
      step : (l : Option (ClientNo × Option ℕ)) (b : Bool) → last_unsettled t n cs ≡ l → is_this t n c.table c.number ≡ b → or_else l (cond b (Some (c.by, c.slot)) None) ≡ Some (owner, s)
          → (last_unsettled t n cs ≡ Some (owner, s) → Locks cs) → Locks (c ∷ cs)
      step (Some pair) b e h last rest = inr (rest (e ∙ last))
      step None false e h last rest = absurd (cc)
      step None true e h last rest =
          let pair : (c.by, c.slot) ≡ (owner, s) = cc in
          let mine : c.by.0 ≡ owner.0 = ap (λ (x : ClientNo × Option ℕ). x.0.0) pair in
          let others : not (c.by.0 == by.0) ≡ true = ap (λ (x : ℕ). not (x == by.0)) mine ∙ other in
          let table = this-table t n c.table c.number h in
          let number = this-number t n c.table c.number h in
          inl (
            others,
            table,
            inr (subst (λ (a : ℕ). HasKey key_places key (settled_of a c.number (map (held_of slots) places))) (sym table)
                (subst (λ (m : RowNo). HasKey key_places key (settled_of t m (map (held_of slots) places))) (row-number n c.number (sym number)) has)),
          )

  -- a change with a content that has the key locks it
  locks-named : (slot : ℕ) (version : Version) (p : Place) → get_or slots slot None ≡ Some version → version.table ≡ t → HasKey key_places key (Some version.cells)
      → place_in version.table version.number places ≡ Some p → (is_some p.owner && not (is_by by p.owner)) ≡ true
      → (cs : List Unsettled) → list_all (is_logged slots) cs ≡ true → list_all (is_owned places) cs ≡ true → list_any (change_names slot) cs ≡ true → Locks cs
  locks-named slot version p is table has there other [] logged owned names = absurd (cc)
  locks-named slot version p is table has there other (c ∷ cs) logged owned names =
      step (or-cases (change_names slot c) (list_any (change_names slot) cs) names) (λ later. locks-named slot version p is table has there other cs logs owns later)
    where
      log : is_logged slots c ≡ true
      log = grind arith

      logs : list_all (is_logged slots) cs ≡ true
      logs = grind arith

      own : is_owned places c ≡ true
      own = grind arith

      owns : list_all (is_owned places) cs ≡ true
      owns = grind arith

      step : (change_names slot c ≡ true) ⊎ (list_any (change_names slot) cs ≡ true) → (list_any (change_names slot) cs ≡ true → Locks cs) → Locks (c ∷ cs)
      step (inr later) rest = inr (rest later)
      step (inl here) rest =
          let named = slot-named slot c.slot here in
          let of = kept-version slots c.table c.number.0 slot c.slot version is named log in
          let place : place_in c.table c.number places ≡ Some p = sym (version-place places c.table c.number.0 version of) ∙ there in
          let owner : is_by c.by p.owner ≡ true = ap (λ (o : Option Place). is_by c.by (option_and_then place_owner o)) (sym place) ∙ own in
          inl (owner-others by c.by p.owner owner other, sym (version-table c.table c.number.0 version of) ∙ table, inl (subst (λ (o : Option (List Cell)). HasKey key_places key o) (sym (in-slot slots c.slot slot version named is)) has))

  -- a version of another client's row locks its key
  pub locked-some : (slot : ℕ) (version : Version) → get_or slots slot None ≡ Some version → IsMatch Locked places t key_places key by slot version → Locks changes
  locked-some slot version is m = go (place_in version.table version.number places) refl m.2
    where
      by-owner : (p : Place) → place_in version.table version.number places ≡ Some p → p.settled ≡ Some slot → (w : Option ClientNo) → p.owner ≡ w → (is_some w && not (is_by by w)) ≡ true → Locks changes
      by-owner p there settled None e h = absurd (cc)
      by-owner p there settled (Some owner) e h =
          let here : place_in t version.number places ≡ Some p = ap (λ (x : ℕ). place_in x version.number places) (sym m.0) ∙ there in
          let last : last_unsettled t version.number changes ≡ Some (owner, p.newest) =
          sym (sound.agrees t version.number) ∙ (ap (option_and_then place_owned) here ∙ ap (option_map (λ (c : ClientNo). (c, p.newest))) e) in
          let content : settled_of t version.number (map (held_of slots) places) ≡ Some version.cells =
          sym (settled-found slots t version.number places) ∙ (ap (λ (o : Option Place). content_at slots (option_and_then (λ (x : Place). x.settled) o)) here ∙ in-slot slots p.settled slot version settled is) in
          locks-last changes version.number owner p.newest h last (subst (λ (o : Option (List Cell)). HasKey key_places key o) (sym content) m.1)

      by-place : (p : Place) → place_in version.table version.number places ≡ Some p → (is_some p.owner && not (is_by by p.owner)) ≡ true → list_any (place_names slot) places ≡ true → Locks changes
      by-place p there other names =
          let named = settled-named slot places sound.order names in
          let q = named.0 in
          let w = found_passes (is_whole slots) (place_from q.table q.number) (place_at q.table q.number) places q sound.whole named.1 in
          let kept : is_kept slots q.table q.number.0 q.settled ≡ true = grind arith in
          let of = kept-version slots q.table q.number.0 slot q.settled version is (slot-named slot q.settled named.2) kept in
          let both : Some p ≡ Some q = sym there ∙ (version-place places q.table q.number.0 version of ∙ named.1) in
          let same : q ≡ p = cc in
          by-owner p there (ap (λ (x : Place). x.settled) (sym same) ∙ slot-named slot q.settled named.2) p.owner refl other

      go : (o : Option Place) → place_in version.table version.number places ≡ o → is_sought Locked by slot o ≡ true → Locks changes
      go None e h = absurd (cc)
      go (Some p) e h = step (or-cases (list_any (place_names slot) places) (list_any (change_names slot) changes) (sound.used slot (ap is_some is)))
        where
          step : (list_any (place_names slot) places ≡ true) ⊎ (list_any (change_names slot) changes ≡ true) → Locks changes
          step (inl names) = by-place p e h names
          step (inr names) = locks-named slot version p is m.0 m.1 e h changes sound.logged sound.owned names

  -- where no version of another client's row has the key, no change locks it
  pub locked-none : IsIndexedBy t key_places slots → (key_places ≡ [] → ⊥)
      → ((slot : ℕ) (version : Version) → get_or slots slot None ≡ Some version → version.hash ≡ key_hash t key → IsMatch Locked places t key_places key by slot version → ⊥)
      → (cs : List Unsettled) → list_all (is_logged slots) cs ≡ true → list_all (is_owned places) cs ≡ true → Locks cs → ⊥
  locked-none indexed keyed none [] logged owned locks = locks
  locked-none indexed keyed none (c ∷ cs) logged owned (inr later) =
      let logs : list_all (is_logged slots) cs ≡ true = grind arith in
      let owns : list_all (is_owned places) cs ≡ true = grind arith in
      locked-none indexed keyed none cs logs owns later
  locked-none indexed keyed none (c ∷ cs) logged owned (inl locking) = by-content locking.2
    where
      log : is_logged slots c ≡ true
      log = grind arith

      own : is_owned places c ≡ true
      own = grind arith

      place : (p : Place) × (place_in c.table c.number places ≡ Some p)
      place = owned-place c.by (place_in c.table c.number places) own

      found : (o : Option ℕ) → is_kept slots c.table c.number.0 o ≡ true → (cells : List Cell) → content_at slots o ≡ Some cells → HasKey key_places key (Some cells) → ⊥
      found o kept cells is has =
          let at = content-slot slots o cells is in
          let version = at.1 in
          let of = kept-version slots c.table c.number.0 at.0 o version at.3 at.2 kept in
          let table : version.table ≡ t = version-table c.table c.number.0 version of ∙ locking.1 in
          let has_it = subst (λ (x : List Cell). HasKey key_places key (Some x)) (sym at.4) has in
          let owner : is_by c.by place.0.owner ≡ true = ap (λ (x : Option Place). is_by c.by (option_and_then place_owner x)) (sym place.1) ∙ own in
          let there : place_in version.table version.number places ≡ Some place.0 = version-place places c.table c.number.0 version of ∙ place.1 in
          let sought : is_sought Locked by at.0 (place_in version.table version.number places) ≡ true = ap (is_sought Locked by at.0) there ∙ others-owner by c.by place.0.owner owner locking.0 in
          none at.0 version at.3 (indexed at.0 version at.3 table ∙ (ap (λ (x : ℕ). version_hash x version.number.0 key_places version.cells) table ∙ hash-of-key t version.number.0 key_places key version.cells keyed has_it)) (table, has_it, sought)

      by-slot : (o : Option ℕ) → is_kept slots c.table c.number.0 o ≡ true → (content : Option (List Cell)) → content_at slots o ≡ content → HasKey key_places key content → ⊥
      by-slot o kept None e has = has
      by-slot o kept (Some cells) e has = found o kept cells e has

      settled-kept : is_kept slots c.table c.number.0 place.0.settled ≡ true
      settled-kept =
          let w = found_passes (is_whole slots) (place_from c.table c.number) (place_at c.table c.number) places place.0 sound.whole place.1 in
          let kept : is_kept slots place.0.table place.0.number.0 place.0.settled ≡ true = grind arith in
          ap₂ (λ (a b : ℕ). is_kept slots a b place.0.settled) (sym (found-table c.table c.number places place.0 place.1)) (sym (found-number c.table c.number places place.0 place.1)) ∙ kept

      by-content : HasKey key_places key (content_at slots c.slot) ⊎ HasKey key_places key (settled_of c.table c.number (map (held_of slots) places)) → ⊥
      by-content (inl has) = by-slot c.slot log (content_at slots c.slot) refl has
      by-content (inr has) =
          let content : settled_of c.table c.number (map (held_of slots) places) ≡ content_at slots place.0.settled =
          sym (settled-found slots c.table c.number places) ∙ ap (λ (x : Option Place). content_at slots (option_and_then (λ (y : Place). y.settled) x)) place.1 in
          by-slot place.0.settled settled-kept (content_at slots place.0.settled) refl (subst (λ (x : Option (List Cell)). HasKey key_places key x) content has)

  -- a key is locked where a version of another client's row is found under it
  pub locked-found : IsIndexedBy t key_places slots → (key_places ≡ [] → ⊥) → (found : Option ℕ)
      → IfSome found (λ slot. (version : Version) × (get_or slots slot None ≡ Some version) × IsMatch Locked places t key_places key by slot version)
      → IfNone found ((slot : ℕ) (version : Version) → get_or slots slot None ≡ Some version → version.hash ≡ key_hash t key → IsMatch Locked places t key_places key by slot version → ⊥)
      → (IsTrue (is_some found) ↔ Locks changes)
  locked-found indexed keyed None some none = never (locked-none indexed keyed none changes sound.logged sound.owned)
  locked-found indexed keyed (Some slot) some none = (λ h. locked-some slot some.0 some.1 some.2, λ locks. refl)
