-- What is found under a key of rows other than one.
use Rattle.std.proofs.Common.{◌≡◌, ◌≢◌, ◌∙◌, ◌⊎◌, inl, inr, ℕ, ◌+◌, ◌<◌, Bool, true, false, not, List, [], map, length, get_or, drop, refl, ap, sym, subst, arith, Option, Some, None}
use Rattle.std.specs.Prelude.{◌==◌}
use Rattle.std.specs.List.{Contains, list_all}
use Rattle.std.proofs.lemmas.Grind.{common_steps}
use Rattle.std.proofs.lemmas.List.Elements.{Contains-append_cases}
use Rattle.au_base.specs.declared.cell.Cell.{Cell}
use Rattle.au_base.specs.declared.numbers.RowNo.{RowNo}
use Rattle.au_base.specs.declared.numbers.ClientNo.{ClientNo}
use Rattle.au_rows.specs.declared.place.Place.{Place}
use Rattle.au_rows.specs.declared.sought.Sought.TheVariants.{Seen, Other}
use Rattle.au_rows.specs.declared.version.Version.{Version}
use Rattle.au_rows.specs.Hash.{key_hash}
use Rattle.au_rows.specs.Held.{HasKey, IsOtherIn, seen_by, shown_to, view_of}
use Rattle.au_rows.specs.Kept.{held_of, is_whole, place_in}
use Rattle.au_rows.specs.Order.{in_order}
use Rattle.au_rows.specs.Sought.{IsIndexedBy, IsMatch, is_sought}
use Rattle.au_rows.proofs.EndLemmas.{found-number}
use Rattle.au_rows.proofs.SoughtLemmas.{matched, row-number, shown-is, under-some}
use Rattle.au_rows.proofs.UnderLemmas.{view-step}

module _ (by : ClientNo) (row : RowNo) (slot : ℕ) where
  -- another row's version is what the client sees of it
  other-seen : (o : Option Place) → is_sought (Other row) by slot o ≡ true → is_sought Seen by slot o ≡ true
  other-seen None h = cc
  other-seen (Some p) h = grind arith

  -- the row is another one
  other-apart : (t : ℕ) (n : RowNo) (places : List Place) (o : Option Place) → place_in t n places ≡ o → is_sought (Other row) by slot o ≡ true → n ≢ row
  other-apart t n places None e h = absurd (cc)
  other-apart t n places (Some p) e h = λ same.
      let number = found-number t n places p e in
      let other : not (p.number.0 == row.0) ≡ true = grind arith in
      let here : p.number.0 ≡ row.0 = number ∙ ap (λ (x : RowNo). x.0) same in
      let is : (p.number.0 == row.0) ≡ true = grind (arith, common_steps) in
      let none : not true ≡ true = sym (ap not is) ∙ other in
      cc

  -- what the client sees of another row is sought
  seen-other : (t : ℕ) (n : RowNo) (places : List Place) (o : Option Place) → place_in t n places ≡ o → n ≢ row → is_sought Seen by slot o ≡ true → is_sought (Other row) by slot o ≡ true
  seen-other t n places None e other h = absurd (cc)
  seen-other t n places (Some p) e other h = go (p.number.0 == row.0) refl
    where
      go : (b : Bool) → (p.number.0 == row.0) ≡ b → is_sought (Other row) by slot (Some p) ≡ true
      go true same =
          let number = found-number t n places p e in
          let here : p.number.0 ≡ row.0 = grind (arith, common_steps) in
          absurd (other (row-number n row (sym number ∙ here)))
      go false apart = rw (h, apart) refl

module _ (slots : List (Option Version)) (by : ClientNo) (t : ℕ) (row : RowNo) where
  -- a version of another row that is found is of a row in the view
  pub other-some : (places : List Place) (key_places : List ℕ) (key : List Cell) (slot : ℕ) (version : Version) → get_or slots slot None ≡ Some version → IsMatch (Other row) places t key_places key by slot version
      → IsOtherIn (view_of t by (map (held_of slots) places)) key_places key row version.number
  other-some places key_places key slot version is m =
      let place = place_in version.table version.number places in (
        other-apart by row slot version.table version.number places place refl m.2,
        version.cells,
        under-some slots by t places key_places key slot version is (m.0, m.1, other-seen by row slot place m.2),
        m.1,
      )

  -- where none is found, no other row of the view has the key
  pub other-none : (places : List Place) (key_places : List ℕ) (key : List Cell) → in_order places ≡ true → list_all (is_whole slots) places ≡ true → IsIndexedBy t key_places slots → (key_places ≡ [] → ⊥)
      → ((slot : ℕ) (version : Version) → get_or slots slot None ≡ Some version → version.hash ≡ key_hash t key → IsMatch (Other row) places t key_places key by slot version → ⊥)
      → (other : RowNo) → IsOtherIn (view_of t by (map (held_of slots) places)) key_places key row other → ⊥
  other-none places key_places key order whole indexed keyed none other h =
      let m = matched slots by t places key_places key order whole indexed keyed (other, h.1) h.2 h.3 in
      let place = place_in m.version.table m.version.number places in
      let apart : m.version.number ≢ row = λ same. h.0 (sym (row-number m.version.number other m.numbered) ∙ same) in
      none m.slot m.version m.there m.hashed (m.matches.0, m.matches.1, seen-other by row m.slot m.version.table m.version.number places place refl apart m.matches.2)

  -- a row behind a place that isn't another row with the key
  pub other-behind : (later : List Place) (i : ℕ) (d : Place) (places : List ℕ) (key : List Cell) (other : RowNo × List Cell) → i < length later
      → ((get_or later i d).number ≢ row → HasKey places key (seen_by by (held_of slots (get_or later i d))) → ⊥) → other.0 ≢ row → HasKey places key (Some other.1)
      → Contains (view_of t by (map (held_of slots) (drop i later))) other → Contains (view_of t by (map (held_of slots) (drop (i + 1) later))) other
  other-behind later i d places key other lt none apart has c =
      go (Contains-append_cases (shown_to t by (held_of slots (get_or later i d))) (view_of t by (map (held_of slots) (drop (i + 1) later))) other
      (subst (λ (rows : List (RowNo × List Cell)). Contains rows other) (view-step slots t by later i d lt) c))
    where
      go : Contains (shown_to t by (held_of slots (get_or later i d))) other ⊎ Contains (view_of t by (map (held_of slots) (drop (i + 1) later))) other → Contains (view_of t by (map (held_of slots) (drop (i + 1) later))) other
      go (inl here) =
          let is = shown-is slots by t (get_or later i d) other here in
          absurd (none (λ same. apart (is.1 ∙ same)) (subst (λ (o : Option (List Cell)). HasKey places key o) (sym is.2) has))
      go (inr behind) = behind
