-- What keeps changes linked, and what their links give.
use Rattle.std.proofs.Common.{◌≡◌, ◌≢◌, ◌∙◌, ℕ, zero, suc, ◌+◌, ◌<◌, ◌≤◌, Bool, true, false, cond, is_some, ◌&&◌, List, [], ◌∷◌, ◌++◌, filter, get_or, length, set, refl, ap, sym, subst, arith, Option, Some, None}
use Rattle.std.specs.Prelude.{nat_eq, ◌%◌}
use Rattle.std.specs.List.{list_all, list_any}
use Rattle.std.proofs.lemmas.List.{get_or_append_left}
use Rattle.au_base.specs.declared.numbers.ClientNo.{ClientNo}
use Rattle.au_rows.specs.declared.entry.Entry.{Entry}
use Rattle.au_rows.specs.declared.unsettled.Unsettled.{Unsettled}
use Rattle.au_rows.specs.Ends.{is_own}
use Rattle.au_rows.specs.Kept.{unsettled_elsewhere}
use Rattle.au_rows.specs.Links.{Linked, Taken, entry_elsewhere, lane_in, lane_of, live}
use Rattle.au_rows.proofs.ChainLemmas.{number-itself, other-number, same-number}

pub there-within : (entries : List (Option Entry)) (at : ℕ) (entry : Entry) → get_or entries at None ≡ Some entry → at < length entries
there-within [] at entry h = absurd (cc)
there-within (first ∷ entries) zero entry h = omega arith
there-within (first ∷ entries) (suc at) entry h = let within = there-within entries at entry h in omega arith

pub same-entry : (o : Option Entry) (a b : Entry) → o ≡ Some a → o ≡ Some b → a ≡ b
same-entry o a b p q = let both : Some a ≡ Some b = sym p ∙ q in cc

-- the next entry is linked
module _ (old new : List (Option Entry)) (tops after : ℕ → Option ℕ) (at : ℕ) (change : Unsettled)
    (here : get_or new at None ≡ Some (record { change = change; below = tops (lane_in change.by) }))
    (others : (other : ℕ) → other ≢ at → get_or new other None ≡ get_or old other None)
    (moved : (client : ℕ) → after client ≡ cond (nat_eq (lane_in change.by) client) (Some at) (tops client))
    (l : Linked old tops at) where
  abbrev new_entry : Entry
  new_entry = record { change = change; below = tops (lane_in change.by) }

  below-at : (i : ℕ) → i < at + 1 → nat_eq i at ≡ false → i < at
  below-at i within e = let ne = other-number i at e in omega (arith, ne)

  was : (i : ℕ) (f : Entry) → i < at → get_or new i None ≡ Some f → get_or old i None ≡ Some f
  was i f under is = sym (others i (λ same. let s : i ≡ at = same in absurd (omega arith))) ∙ is

  stays : (i : ℕ) (f : Entry) → i < at → get_or old i None ≡ Some f → get_or new i None ≡ Some f
  stays i f under is = others i (λ same. let s : i ≡ at = same in absurd (omega arith)) ∙ is

  is_new : (i : ℕ) (f : Entry) → nat_eq i at ≡ true → get_or new i None ≡ Some f → new_entry ≡ f
  is_new i f e is = same-entry (get_or new at None) new_entry f here (ap (λ (x : ℕ). get_or new x None) (sym (same-number i at e)) ∙ is)

  named : (client top : ℕ) (b : Bool) → nat_eq (lane_in change.by) client ≡ b → tops client ≡ Some top → top < at
      → (i : ℕ) → i ≤ top → (t : ℕ) × (after client ≡ Some t) × (i ≤ t)
  named client top true e is under i low = (at, moved client ∙ ap (λ (x : Bool). cond x (Some at) (tops client)) e, omega arith)
  named client top false e is under i low = (top, moved client ∙ (ap (λ (x : Bool). cond x (Some at) (tops client)) e ∙ is), low)

  topped : (i : ℕ) (f : Entry) → i < at + 1 → get_or new i None ≡ Some f → (b : Bool) → nat_eq i at ≡ b → (top : ℕ) × (after (lane_of f) ≡ Some top) × (i ≤ top)
  topped i f within is true e =
      let f_is = is_new i f e is in
      let client : (lane_in change.by) ≡ lane_of f = ap lane_of f_is in
      let number = same-number i at e in
      (at, moved (lane_of f) ∙ ap (λ (x : Bool). cond x (Some at) (tops (lane_of f))) (ap (nat_eq (lane_in change.by)) (sym client) ∙ number-itself (lane_in change.by)), omega arith)
  topped i f within is false e =
      let under = below-at i within e in
      let t = l.topped i f under (was i f under is) in
      let there = l.tops_there (lane_of f) t.0 t.1 in
      named (lane_of f) t.0 (nat_eq (lane_in change.by) (lane_of f)) refl t.1 there.0 i t.2

  linked : (i under : ℕ) (f g : Entry) → i < at + 1 → under < i → get_or new i None ≡ Some f → get_or new under None ≡ Some g → lane_of g ≡ lane_of f
      → (b : Bool) → nat_eq i at ≡ b → (below : ℕ) × (f.below ≡ Some below) × (under ≤ below)
  linked i under f g within lower is gis same true e =
      let f_is = is_new i f e is in
      let number = same-number i at e in
      let low : under < at = omega arith in
      let t = l.topped under g low (was under g low gis) in
      (t.0, ap (λ (x : Entry). x.below) (sym f_is) ∙ (ap tops (ap lane_of f_is ∙ sym same) ∙ t.1), t.2)
  linked i under f g within lower is gis same false e =
      let low = below-at i within e in
      let lower_still : under < at = omega arith in
      l.linked i under f g low lower (was i f low is) (was under g lower_still gis) same

  tops_there : (client top : ℕ) → after client ≡ Some top → (b : Bool) → nat_eq (lane_in change.by) client ≡ b
      → (top < at + 1) × (entry : Entry) × (get_or new top None ≡ Some entry) × (lane_of entry ≡ client)
  tops_there client top is true e =
      let both : Some at ≡ Some top = sym (moved client ∙ ap (λ (x : Bool). cond x (Some at) (tops client)) e) ∙ is in
      let top_is : at ≡ top = cc in
      (omega arith, new_entry, ap (λ (x : ℕ). get_or new x None) (sym top_is) ∙ here, same-number (lane_in change.by) client e)
  tops_there client top is false e =
      let t = l.tops_there client top (sym (moved client ∙ ap (λ (x : Bool). cond x (Some at) (tops client)) e) ∙ is) in
      let low = t.0 in
      (omega arith, t.1, stays top t.1 t.0 t.2, t.3)

  belows_there : (i below : ℕ) (f : Entry) → i < at + 1 → get_or new i None ≡ Some f → f.below ≡ Some below → (b : Bool) → nat_eq i at ≡ b
      → (below < i) × (other : Entry) × (get_or new below None ≡ Some other) × (lane_of other ≡ lane_of f)
  belows_there i below f within is names true e =
      let f_is = is_new i f e is in
      let number = same-number i at e in
      let t = l.tops_there (lane_in change.by) below (ap (λ (x : Entry). x.below) f_is ∙ names) in
      let low = t.0 in
      (omega arith, t.1, stays below t.1 t.0 t.2, t.3 ∙ ap lane_of f_is)
  belows_there i below f within is names false e =
      let low = below-at i within e in
      let t = l.belows_there i below f low (was i f low is) names in
      let under = t.0 in
      let lower : below < at = omega arith in
      (t.0, t.1, stays below t.1 lower t.2, t.3)

  pub linked-more : Linked new after (at + 1)
  linked-more = record {
    topped = λ i f within is. topped i f within is (nat_eq i at) refl;
    linked = λ i under f g within lower is gis same. linked i under f g within lower is gis same (nat_eq i at) refl;
    tops_there = λ client top is. tops_there client top is (nat_eq (lane_in change.by) client) refl;
    belows_there = λ i below f within is names. belows_there i below f within is names (nat_eq i at) refl;
  }

-- a vacant place is no entry to link
module _ (entries : List (Option Entry)) (tops : ℕ → Option ℕ) (at : ℕ) (vacant : get_or entries at None ≡ None) (l : Linked entries tops at) where
  under-at : (i : ℕ) (f : Entry) → i < at + 1 → get_or entries i None ≡ Some f → i < at
  under-at i f within is = go (nat_eq i at) refl
    where
      go : (b : Bool) → nat_eq i at ≡ b → i < at
      go true e = let both : None ≡ Some f = sym vacant ∙ (ap (λ (x : ℕ). get_or entries x None) (sym (same-number i at e)) ∙ is) in absurd (cc)
      go false e = let ne = other-number i at e in omega (arith, ne)

  pub linked-past : Linked entries tops (at + 1)
  linked-past = record {
    topped = λ i f within is. l.topped i f (under-at i f within is) is;
    linked = λ i under f g within lower is gis same. l.linked i under f g (under-at i f within is) lower is gis same;
    tops_there = λ client top is. let t = l.tops_there client top is in let low = t.0 in (omega arith, t.1, t.2, t.3);
    belows_there = λ i below f within is names. l.belows_there i below f (under-at i f within is) is names;
  }

-- where no client has an entry named, none is linked
pub linked-none : (entries : List (Option Entry)) (tops : ℕ → Option ℕ) → ((client : ℕ) → tops client ≡ None) → Linked entries tops 0
linked-none entries tops none = record {
  topped = λ i f within is. absurd (omega arith);
  linked = λ i under f g within lower is gis same. absurd (omega arith);
  tops_there = λ client top is. let both : None ≡ Some top = sym (none client) ∙ is in absurd (cc);
  belows_there = λ i below f within is names. absurd (omega arith);
}

-- a client's newest entry goes
module _ (old new : List (Option Entry)) (tops after : ℕ → Option ℕ) (count at client : ℕ) (entry : Entry)
    (is : get_or old at None ≡ Some entry) (top : tops client ≡ Some at)
    (vacant : get_or new at None ≡ None)
    (others : (other : ℕ) → other ≢ at → get_or new other None ≡ get_or old other None)
    (moved : (other : ℕ) → after other ≡ cond (nat_eq client other) entry.below (tops other))
    (l : Linked old tops count) where
  within-count : at < count
  within-count = let t = l.tops_there client at top in t.0

  clients : lane_of entry ≡ client
  clients = let t = l.tops_there client at top in ap lane_of (same-entry (get_or old at None) entry t.1 is t.2) ∙ t.3

  apart : (i : ℕ) (f : Entry) → get_or new i None ≡ Some f → i ≢ at
  apart i f fis same = let both : None ≡ Some f = sym vacant ∙ (ap (λ (x : ℕ). get_or new x None) (sym same) ∙ fis) in absurd (cc)

  was-there : (i : ℕ) (f : Entry) → get_or new i None ≡ Some f → get_or old i None ≡ Some f
  was-there i f fis = sym (others i (apart i f fis)) ∙ fis

  under-top : (i : ℕ) (f : Entry) → i < count → get_or old i None ≡ Some f → lane_of f ≡ client → i ≤ at
  under-top i f within fis same =
      let t = l.topped i f within fis in
      let both : Some t.0 ≡ Some at = sym t.1 ∙ (ap tops same ∙ top) in
      let t_is : t.0 ≡ at = cc in
      let low = t.2 in
      omega arith

  topped-by : (i : ℕ) (f : Entry) → i < count → get_or new i None ≡ Some f → (b : Bool) → nat_eq client (lane_of f) ≡ b → (t : ℕ) × (after (lane_of f) ≡ Some t) × (i ≤ t)
  topped-by i f within fis true e =
      let same = same-number client (lane_of f) e in
      let ne = apart i f fis in
      let most = under-top i f within (was-there i f fis) (sym same) in
      let lower : i < at = omega (arith, ne) in
      let b = l.linked at i entry f within-count lower is (was-there i f fis) (sym same ∙ sym clients) in
      (b.0, moved (lane_of f) ∙ (ap (λ (x : Bool). cond x entry.below (tops (lane_of f))) e ∙ b.1), b.2)
  topped-by i f within fis false e =
      let t = l.topped i f within (was-there i f fis) in
      (t.0, moved (lane_of f) ∙ (ap (λ (x : Bool). cond x entry.below (tops (lane_of f))) e ∙ t.1), t.2)

  tops-by : (other t : ℕ) → after other ≡ Some t → (b : Bool) → nat_eq client other ≡ b
      → (t < count) × (f : Entry) × (get_or new t None ≡ Some f) × (lane_of f ≡ other)
  tops-by other t ais true e =
      let names : entry.below ≡ Some t = sym (moved other ∙ ap (λ (x : Bool). cond x entry.below (tops other)) e) ∙ ais in
      let b = l.belows_there at t entry within-count is names in
      let low = b.0 in
      let within = within-count in
      (omega arith, b.1, others t (λ same. let s : t ≡ at = same in absurd (omega arith)) ∙ b.2, b.3 ∙ (clients ∙ same-number client other e))
  tops-by other t ais false e =
      let b = l.tops_there other t (sym (moved other ∙ ap (λ (x : Bool). cond x entry.below (tops other)) e) ∙ ais) in
      let ne : t ≢ at = λ same.
      let f_is = same-entry (get_or old at None) b.1 entry (ap (λ (x : ℕ). get_or old x None) (sym same) ∙ b.2) is in
      other-number client other e (sym clients ∙ (ap lane_of (sym f_is) ∙ b.3)) in
      (b.0, b.1, others t ne ∙ b.2, b.3)

  belows-by : (i below : ℕ) (f : Entry) → i < count → get_or new i None ≡ Some f → f.below ≡ Some below
      → (below < i) × (other : Entry) × (get_or new below None ≡ Some other) × (lane_of other ≡ lane_of f)
  belows-by i below f within fis names =
      let b = l.belows_there i below f within (was-there i f fis) names in
      let ne : below ≢ at = λ same.
      let f_is = same-entry (get_or old at None) b.1 entry (ap (λ (x : ℕ). get_or old x None) (sym same) ∙ b.2) is in
      let most = under-top i f within (was-there i f fis) (sym b.3 ∙ (ap lane_of f_is ∙ clients)) in
      let low = b.0 in
      let s : below ≡ at = same in
      absurd (omega arith) in
      (b.0, b.1, others below ne ∙ b.2, b.3)

  pub linked-less : Linked new after count
  linked-less = record {
    topped = λ i f within fis. topped-by i f within fis (nat_eq client (lane_of f)) refl;
    linked = λ i under f g within lower fis gis same. l.linked i under f g within lower (was-there i f fis) (was-there under g gis) same;
    tops_there = λ other t ais. tops-by other t ais (nat_eq client other) refl;
    belows_there = λ i below f within fis names. belows-by i below f within fis names;
  }

pub none-of : (by : ClientNo) (entries : List (Option Entry)) → ((at : ℕ) (entry : Entry) → get_or entries at None ≡ Some entry → is_own by entry.change ≡ false)
    → list_any (is_own by) (live entries) ≡ false
none-of by [] none = refl
none-of by (None ∷ entries) none = none-of by entries (λ at entry is. none (suc at) entry is)
none-of by (Some entry ∷ entries) none = let first = none 0 entry refl in let rest = none-of by entries (λ at entry is. none (suc at) entry is) in rw (first, rest) refl

pub own-lane : (by : ClientNo) (entry : Entry) → is_own by entry.change ≡ true → lane_of entry ≡ lane_in by
own-lane by entry own = ap (λ (x : ℕ). x % 4096) (same-number entry.change.by.0 by.0 own)

-- a client in whose lane no entry is named has none
pub none-own : (by : ClientNo) (entries : List (Option Entry)) (tops : ℕ → Option ℕ) (count : ℕ) → count ≡ length entries → Linked entries tops count → tops (lane_in by) ≡ None
    → list_any (is_own by) (live entries) ≡ false
none-own by entries tops count all l none = none-of by entries (λ at entry is. go at entry is (is_own by entry.change) refl)
  where
    go : (at : ℕ) (entry : Entry) → get_or entries at None ≡ Some entry → (b : Bool) → is_own by entry.change ≡ b → is_own by entry.change ≡ false
    go at entry is false e = e
    go at entry is true e =
        let within = there-within entries at entry is in
        let t = l.topped at entry (omega arith) is in
        let both : Some t.0 ≡ None = sym t.1 ∙ (ap tops (own-lane by entry e) ∙ none) in absurd (cc)

-- an entry that is written again has the same change
pub live-again : (entries : List (Option Entry)) (at : ℕ) (entry : Entry) (below : Option ℕ) → get_or entries at None ≡ Some entry
    → live (set entries at (Some (record { change = entry.change; below = below }))) ≡ live entries
live-again [] at entry below is = absurd (cc)
live-again (None ∷ entries) zero entry below is = absurd (cc)
live-again (Some first ∷ entries) zero entry below is = let first_is : first ≡ entry = cc in ap (λ (x : Entry). x.change ∷ live entries) (sym first_is)
live-again (None ∷ entries) (suc at) entry below is = live-again entries at entry below is
live-again (Some first ∷ entries) (suc at) entry below is = ap (λ (xs : List Unsettled). first.change ∷ xs) (live-again entries at entry below is)

pub live-more : (entries : List (Option Entry)) (entry : Entry) → live (entries ++ Some entry ∷ []) ≡ live entries ++ entry.change ∷ []
live-more [] entry = refl
live-more (None ∷ entries) entry = live-more entries entry
live-more (Some first ∷ entries) entry = ap (λ (xs : List Unsettled). first.change ∷ xs) (live-more entries entry)

pub live-kept : (entries : List (Option Entry)) → live (filter is_some entries) ≡ live entries
live-kept [] = refl
live-kept (None ∷ entries) = live-kept entries
live-kept (Some first ∷ entries) = ap (λ (xs : List Unsettled). first.change ∷ xs) (live-kept entries)

pub kept-length : (entries : List (Option Entry)) → length (filter is_some entries) ≡ length (live entries)
kept-length [] = refl
kept-length (None ∷ entries) = kept-length entries
kept-length (Some first ∷ entries) = ap suc (kept-length entries)

pub live-length : (entries : List (Option Entry)) → length (live entries) ≤ length entries
live-length [] = omega arith
live-length (None ∷ entries) = let rest = live-length entries in omega arith
live-length (Some first ∷ entries) = let rest = live-length entries in omega arith

-- the change of an entry that goes is taken out of the list
pub live-taken : (by : ClientNo) (entries : List (Option Entry)) (at : ℕ) (entry : Entry) → is_own by entry.change ≡ true → get_or entries at None ≡ Some entry
    → Taken by entry.change (live entries) (live (set entries at None))
live-taken by [] at entry own is = absurd (cc)
live-taken by (None ∷ entries) zero entry own is = absurd (cc)
live-taken by (Some first ∷ entries) zero entry own is =
    let first_is : first ≡ entry = cc in
    record { own = own; front = []; back = live entries; before = ap (λ (x : Entry). x.change ∷ live entries) first_is; after = refl }
live-taken by (None ∷ entries) (suc at) entry own is = live-taken by entries at entry own is
live-taken by (Some first ∷ entries) (suc at) entry own is =
    let t = live-taken by entries at entry own is in
    record {
      own = own;
      front = first.change ∷ t.front;
      back = t.back;
      before = ap (λ (xs : List Unsettled). first.change ∷ xs) t.before;
      after = ap (λ (xs : List Unsettled). first.change ∷ xs) t.after;
    }

pub set-here : {X : Type 0} (entries : List (Option X)) (at : ℕ) (entry : Option X) → at < length entries → get_or (set entries at entry) at None ≡ entry
set-here [] at entry within = absurd (omega arith)
set-here (first ∷ entries) zero entry within = refl
set-here (first ∷ entries) (suc at) entry within = let rest : at < length entries = omega arith in set-here entries at entry rest

pub set-other : {X : Type 0} (entries : List (Option X)) (at : ℕ) (entry : Option X) (other : ℕ) → other ≢ at → get_or (set entries at entry) other None ≡ get_or entries other None
set-other [] at entry other ne = refl
set-other (first ∷ entries) zero entry zero ne = absurd (ne refl)
set-other (first ∷ entries) zero entry (suc other) ne = refl
set-other (first ∷ entries) (suc at) entry zero ne = refl
set-other (first ∷ entries) (suc at) entry (suc other) ne = set-other entries at entry other (λ same. ne (ap suc same))

-- an entry that joins behind all others is none of the linked ones
pub linked-before : (entries : List (Option Entry)) (tops : ℕ → Option ℕ) (entry : Option Entry) (count : ℕ) → count ≡ length entries → Linked entries tops count
    → Linked (entries ++ entry ∷ []) tops count
linked-before entries tops entry count all l = record {
  topped = λ i f within is. l.topped i f within (was i f within is);
  linked = λ i under f g within lower is gis same. let low : under < count = omega arith in l.linked i under f g within lower (was i f within is) (was under g low gis) same;
  tops_there = λ client top is. let t = l.tops_there client top is in (t.0, t.1, same top t.0 ∙ t.2, t.3);
  belows_there = λ i below f within is names.
      let t = l.belows_there i below f within (was i f within is) names in
      let under = t.0 in
      let low : below < count = omega arith in
      (t.0, t.1, same below low ∙ t.2, t.3);
}
  where
    same : (i : ℕ) → i < count → get_or (entries ++ entry ∷ []) i None ≡ get_or entries i None
    same i within = let low : i < length entries = omega arith in get_or_append_left entries (entry ∷ []) None i low

    was : (i : ℕ) (f : Entry) → i < count → get_or (entries ++ entry ∷ []) i None ≡ Some f → get_or entries i None ≡ Some f
    was i f within is = sym (same i within) ∙ is

-- what a lane names after one of them names another change
pub top-set : (tops : List (Option ℕ)) (lane : ℕ) (top : Option ℕ) (other : ℕ) → lane < length tops → get_or (set tops lane top) other None ≡ cond (nat_eq lane other) top (get_or tops other None)
top-set tops lane top other within = go (nat_eq lane other) refl
  where
    go : (b : Bool) → nat_eq lane other ≡ b → get_or (set tops lane top) other None ≡ cond b top (get_or tops other None)
    go true e = ap (λ (x : ℕ). get_or (set tops lane top) x None) (sym (same-number lane other e)) ∙ set-here tops lane top within
    go false e = set-other tops lane top other (λ same. other-number lane other e (sym same))

-- entries stay linked where nothing that is named changes
pub linked-same : (old new : List (Option Entry)) (tops after : ℕ → Option ℕ) (count number : ℕ) → new ≡ old → ((client : ℕ) → after client ≡ tops client) → number ≡ count
    → Linked old tops count → Linked new after number
linked-same old new tops after count number entries named counts l =
    subst (λ (es : List (Option Entry)). Linked es after number) (sym entries) (subst (Linked old after) (sym counts) (record {
      topped = λ i f within is. let t = l.topped i f within is in (t.0, named (lane_of f) ∙ t.1, t.2);
      linked = l.linked;
      tops_there = λ client top is. l.tops_there client top (sym (named client) ∙ is);
      belows_there = l.belows_there;
    }))

-- all changes are of rows of other tables where all that are kept are
pub live-elsewhere : (table : ℕ) (entries : List (Option Entry)) → list_all (entry_elsewhere table) entries ≡ list_all (unsettled_elsewhere table) (live entries)
live-elsewhere table [] = refl
live-elsewhere table (None ∷ entries) = live-elsewhere table entries
live-elsewhere table (Some entry ∷ entries) = ap (λ (b : Bool). unsettled_elsewhere table entry.change && b) (live-elsewhere table entries)
