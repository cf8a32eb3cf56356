-- What is taken out of a lane whose newest entry is another client's.
use Rattle.std.proofs.Common.{◌≡◌, ◌≢◌, ◌∙◌, ℕ, zero, suc, [], ◌∷◌, ◌++◌, ◌+◌, ◌<◌, ◌≤◌, Bool, true, false, List, get_or, length, set, refl, ap, sym, subst, arith, Option, Some, None}
use Rattle.std.specs.Prelude.{nat_eq, nat_lt}
use Rattle.std.specs.List.{list_any}
use Rattle.std.proofs.lemmas.Grind.{common_steps}
use Rattle.std.proofs.lemmas.List.{get_or_append_left}
use Rattle.au_base.specs.declared.numbers.ClientNo.{ClientNo}
use Rattle.au_rows.specs.declared.entry.Entry.{Entry}
use Rattle.au_rows.specs.declared.unsettled.Unsettled.{Unsettled}
use Rattle.au_rows.specs.Ends.{is_own}
use Rattle.au_rows.specs.Links.{Linked, Taken, below_in, is_own_entry, lane_in, lane_of, live}
use Rattle.au_rows.proofs.ChainLemmas.{other-number, same-number}
use Rattle.au_rows.proofs.LinkLemmas.{live-again, live-taken, own-lane, same-entry, set-here, set-other, there-within, none-of}

-- an entry goes that another one of its lane names
module _ (old new : List (Option Entry)) (tops : ℕ → Option ℕ) (count above here : ℕ) (upper lower : Entry)
    (l : Linked old tops count) (within : above < count)
    (is_upper : get_or old above None ≡ Some upper) (names : upper.below ≡ Some here) (is_lower : get_or old here None ≡ Some lower)
    (moved : get_or new above None ≡ Some (record { change = upper.change; below = lower.below }))
    (vacant : get_or new here None ≡ None)
    (others : (other : ℕ) → other ≢ above → other ≢ here → get_or new other None ≡ get_or old other None) where
  abbrev moved_entry : Entry
  moved_entry = record { change = upper.change; below = lower.below }

  under : here < above
  under = let t = l.belows_there above here upper within is_upper names in t.0

  one-lane : lane_of lower ≡ lane_of upper
  one-lane = let t = l.belows_there above here upper within is_upper names in ap lane_of (same-entry (get_or old here None) lower t.1 is_lower t.2) ∙ t.3

  record Was (i : ℕ) (f : Entry) : Type 0 where
    entry : Entry
    there : get_or old i None ≡ Some entry
    lane : lane_of entry ≡ lane_of f
    apart : i ≢ here

  was-at : (i : ℕ) (f : Entry) → get_or new i None ≡ Some f → Was i f
  was-at i f is = go (nat_eq i above) (nat_eq i here) refl refl
    where
      go : (a h : Bool) → nat_eq i above ≡ a → nat_eq i here ≡ h → Was i f
      go true h ea eh =
          let at = same-number i above ea in
          let f_is : moved_entry ≡ f = same-entry (get_or new above None) moved_entry f moved (ap (λ (x : ℕ). get_or new x None) (sym at) ∙ is) in
          let low = under in
          record { entry = upper; there = ap (λ (x : ℕ). get_or old x None) at ∙ is_upper; lane = ap lane_of f_is; apart = λ same. let s : i ≡ here = same in absurd (omega arith) }
      go false true ea eh =
          let at = same-number i here eh in
          let both : None ≡ Some f = sym vacant ∙ (ap (λ (x : ℕ). get_or new x None) (sym at) ∙ is) in absurd (cc)
      go false false ea eh = record {
        entry = f;
        there = sym (others i (other-number i above ea) (other-number i here eh)) ∙ is;
        lane = refl;
        apart = other-number i here eh;
      }

  -- what is there stays, but for the one that goes
  record Is (i : ℕ) (f : Entry) : Type 0 where
    entry : Entry
    there : get_or new i None ≡ Some entry
    lane : lane_of entry ≡ lane_of f

  is-still : (i : ℕ) (f : Entry) → get_or old i None ≡ Some f → i ≢ here → Is i f
  is-still i f is ne = go (nat_eq i above) refl
    where
      go : (a : Bool) → nat_eq i above ≡ a → Is i f
      go true ea =
          let at = same-number i above ea in
          let f_is : upper ≡ f = same-entry (get_or old above None) upper f is_upper (ap (λ (x : ℕ). get_or old x None) (sym at) ∙ is) in
          record { entry = moved_entry; there = ap (λ (x : ℕ). get_or new x None) at ∙ moved; lane = ap lane_of f_is }
      go false ea = record { entry = f; there = others i (other-number i above ea) ne ∙ is; lane = refl }

  topped-still : (i : ℕ) (f : Entry) → i < count → get_or new i None ≡ Some f → (top : ℕ) × (tops (lane_of f) ≡ Some top) × (i ≤ top)
  topped-still i f low is =
      let w = was-at i f is in
      let t = l.topped i w.entry low w.there in
      (t.0, ap tops (sym w.lane) ∙ t.1, t.2)

  linked-by : (i u : ℕ) (f g : Entry) → i < count → u < i → get_or new i None ≡ Some f → get_or new u None ≡ Some g → lane_of g ≡ lane_of f
      → (a : Bool) → nat_eq i above ≡ a → (below : ℕ) × (f.below ≡ Some below) × (u ≤ below)
  linked-by i u f g low less is gis same true ea =
      let at = same-number i above ea in
      let f_is : moved_entry ≡ f = same-entry (get_or new above None) moved_entry f moved (ap (λ (x : ℕ). get_or new x None) (sym at) ∙ is) in
      let w = was-at u g gis in
      let lane : lane_of w.entry ≡ lane_of upper = w.lane ∙ (same ∙ ap lane_of (sym f_is)) in
      let lower_still : u < above = omega arith in
      let t = l.linked above u upper w.entry within lower_still is_upper w.there lane in
      let both : Some t.0 ≡ Some here = sym t.1 ∙ names in
      let t_is : t.0 ≡ here = cc in
      let most = t.2 in
      let ne = w.apart in
      let under_here : u < here = omega (arith, ne) in
      let down = under in
      let here_within : here < count = omega arith in
      let s = l.linked here u lower w.entry here_within under_here is_lower w.there (lane ∙ sym one-lane) in
      (s.0, ap (λ (x : Entry). x.below) (sym f_is) ∙ s.1, s.2)
  linked-by i u f g low less is gis same false ea =
      let wf = was-at i f is in
      let wg = was-at u g gis in
      let f_is : get_or old i None ≡ Some f = sym (others i (other-number i above ea) wf.apart) ∙ is in
      l.linked i u f wg.entry low less f_is wg.there (wg.lane ∙ same)

  tops-there : (lane top : ℕ) → tops lane ≡ Some top → (top < count) × (f : Entry) × (get_or new top None ≡ Some f) × (lane_of f ≡ lane)
  tops-there lane top is =
      let t = l.tops_there lane top is in
      let ne : top ≢ here = λ same.
      let lower_is = same-entry (get_or old here None) t.1 lower (ap (λ (x : ℕ). get_or old x None) (sym same) ∙ t.2) is_lower in
      let lane_is : lane_of upper ≡ lane = sym one-lane ∙ (ap lane_of (sym lower_is) ∙ t.3) in
      let up = l.topped above upper within is_upper in
      let both : Some up.0 ≡ Some top = sym up.1 ∙ (ap tops lane_is ∙ is) in
      let top_is : up.0 ≡ top = cc in
      let most = up.2 in
      let down = under in
      let s : top ≡ here = same in
      absurd (omega arith) in
      let still = is-still top t.1 t.2 ne in
      (t.0, still.entry, still.there, still.lane ∙ t.3)

  belows-by : (i below : ℕ) (f : Entry) → i < count → get_or new i None ≡ Some f → f.below ≡ Some below → (a : Bool) → nat_eq i above ≡ a
      → (below < i) × (other : Entry) × (get_or new below None ≡ Some other) × (lane_of other ≡ lane_of f)
  belows-by i below f low is f_names true ea =
      let at = same-number i above ea in
      let f_is : moved_entry ≡ f = same-entry (get_or new above None) moved_entry f moved (ap (λ (x : ℕ). get_or new x None) (sym at) ∙ is) in
      let down = under in
      let here_within : here < count = omega arith in
      let t = l.belows_there here below lower here_within is_lower (ap (λ (x : Entry). x.below) f_is ∙ f_names) in
      let lower_still = t.0 in
      let still = is-still below t.1 t.2 (λ same. let s : below ≡ here = same in absurd (omega arith)) in
      (omega arith, still.entry, still.there, still.lane ∙ (t.3 ∙ (one-lane ∙ ap lane_of f_is)))
  belows-by i below f low is f_names false ea =
      let w = was-at i f is in
      let f_is : get_or old i None ≡ Some f = sym (others i (other-number i above ea) w.apart) ∙ is in
      let t = l.belows_there i below f low f_is f_names in
      let ne : below ≢ here = λ same.
      let lower_is = same-entry (get_or old here None) t.1 lower (ap (λ (x : ℕ). get_or old x None) (sym same) ∙ t.2) is_lower in
      let lane_is : lane_of f ≡ lane_of upper = sym t.3 ∙ (ap lane_of lower_is ∙ one-lane) in
      let s : below ≡ here = same in
      let down = t.0 in
      let other = other-number i above ea in
      let deep = under in
      apart-rows f_is lane_is s (nat_lt i above) refl in
      let still = is-still below t.1 t.2 ne in
      (t.0, still.entry, still.there, still.lane ∙ t.3)
    where
      apart-rows : get_or old i None ≡ Some f → lane_of f ≡ lane_of upper → below ≡ here → (b : Bool) → nat_lt i above ≡ b → ⊥
      apart-rows f_is lane_is s true lt =
          let lower_i : i < above = grind (arith, common_steps) in
          let t = l.linked above i upper f within lower_i is_upper f_is lane_is in
          let both : Some t.0 ≡ Some here = sym t.1 ∙ names in
          let t_is : t.0 ≡ here = cc in
          let most = t.2 in
          let b = l.belows_there i below f low f_is f_names in
          let down = b.0 in
          absurd (omega arith)
      apart-rows f_is lane_is s false ge =
          let ne = other-number i above ea in
          let higher : above < i = not-under ge ne in
          let t = l.linked i above f upper low higher f_is is_upper (sym lane_is) in
          let both : Some t.0 ≡ Some below = sym t.1 ∙ f_names in
          let t_is : t.0 ≡ below = cc in
          let most = t.2 in
          let down = under in
          absurd (omega arith)
        where
          not-under : nat_lt i above ≡ false → i ≢ above → above < i
          not-under g n = grind (arith, common_steps)

  pub linked-around : Linked new tops count
  linked-around = record {
    topped = topped-still;
    linked = λ i u f g low lower is gis same. linked-by i u f g low lower is gis same (nat_eq i above) refl;
    tops_there = tops-there;
    belows_there = λ i below f low is f_names. belows-by i below f low is f_names (nat_eq i above) refl;
  }

past-set : {X : Type 0} (xs : List (Option X)) (n : ℕ) → length xs ≤ n → get_or (set xs n None) n None ≡ None
past-set [] n past = refl
past-set (x ∷ xs) zero past = absurd (omega arith)
past-set (x ∷ xs) (suc n) past = let rest : length xs ≤ n = omega arith in past-set xs n rest

-- an entry that another one names goes
module _ (by : ClientNo) (old : List (Option Entry)) (tops : ℕ → Option ℕ) (count above here : ℕ) (upper lower : Entry)
    (all : count ≡ length old) (l : Linked old tops count)
    (is_upper : get_or old above None ≡ Some upper) (names : upper.below ≡ Some here) (is_lower : get_or old here None ≡ Some lower) where
  abbrev moved : Option Entry
  moved = Some (record { change = upper.change; below = lower.below })

  above-within : above < count
  above-within = let w = there-within old above upper is_upper in omega arith

  here-under : here < above
  here-under = let t = l.belows_there above here upper above-within is_upper names in t.0

  here-apart : here ≢ above
  here-apart same = let s : here ≡ above = same in let low = here-under in absurd (omega arith)

  pub passed-linked : Linked (set (set old above moved) here None) tops count
  passed-linked =
      let w = there-within old above upper is_upper in
      let low = here-under in
      linked-around old (set (set old above moved) here None) tops count above here upper lower l above-within is_upper names is_lower
      (set-other (set old above moved) here None above (λ same. here-apart (sym same)) ∙ set-here old above moved w)
      (vacated (set old above moved) here)
      (λ other a h. set-other (set old above moved) here None other h ∙ set-other old above moved other a)
    where
      vacated : {X : Type 0} (xs : List (Option X)) (n : ℕ) → get_or (set xs n None) n None ≡ None
      vacated xs n = go (nat_lt n (length xs)) refl
        where
          go : (b : Bool) → nat_lt n (length xs) ≡ b → get_or (set xs n None) n None ≡ None
          go true e = let within : n < length xs = grind (arith, common_steps) in set-here xs n None within
          go false e = let past : length xs ≤ n = grind (arith, common_steps) in past-set xs n past

  pub passed-taken : is_own by lower.change ≡ true → Taken by lower.change (live old) (live (set (set old above moved) here None))
  passed-taken own =
      subst (λ (xs : List Unsettled). Taken by lower.change xs (live (set (set old above moved) here None))) (live-again old above upper lower.below is_upper)
      (live-taken by (set old above moved) here lower own (set-other old above moved here here-apart ∙ is_lower))

-- where a client's entries are below one of its lane
module _ (by : ClientNo) (entries : List (Option Entry)) (tops : ℕ → Option ℕ) (l : Linked entries tops (length entries)) where
  not-here : (at : ℕ) → is_own_entry by (get_or entries at None) ≡ false → (i : ℕ) (entry : Entry) → get_or entries i None ≡ Some entry → is_own by entry.change ≡ true → i ≢ at
  not-here at none i entry is own same =
      let here : is_own_entry by (get_or entries i None) ≡ true = ap (is_own_entry by) is ∙ own in
      let gone : is_own_entry by (get_or entries i None) ≡ false = ap (λ (x : ℕ). is_own_entry by (get_or entries x None)) same ∙ none in
      let both : true ≡ false = sym here ∙ gone in cc

  pub under-top : (top : ℕ) → tops (lane_in by) ≡ Some top → is_own_entry by (get_or entries top None) ≡ false
      → (i : ℕ) (entry : Entry) → get_or entries i None ≡ Some entry → is_own by entry.change ≡ true → i < top
  under-top top names other i entry is own =
      let t = l.topped i entry (there-within entries i entry is) is in
      let both : Some t.0 ≡ Some top = sym t.1 ∙ (ap tops (own-lane by entry own) ∙ names) in
      let t_is : t.0 ≡ top = cc in
      let most = t.2 in
      let ne = not-here top other i entry is own in
      omega (arith, ne)

  named-below : (above : ℕ) (upper : Entry) → get_or entries above None ≡ Some upper → lane_of upper ≡ lane_in by
      → (i : ℕ) (entry : Entry) → get_or entries i None ≡ Some entry → is_own by entry.change ≡ true → i < above → (below : ℕ) × (upper.below ≡ Some below) × (i ≤ below)
  named-below above upper there lane i entry is own low =
      l.linked above i upper entry (there-within entries above upper there) low there is (own-lane by entry own ∙ sym lane)

  pub under-next : (above here : ℕ) (upper : Entry) → get_or entries above None ≡ Some upper → lane_of upper ≡ lane_in by → upper.below ≡ Some here
      → is_own_entry by (get_or entries here None) ≡ false
      → ((i : ℕ) (entry : Entry) → get_or entries i None ≡ Some entry → is_own by entry.change ≡ true → i < above)
      → (i : ℕ) (entry : Entry) → get_or entries i None ≡ Some entry → is_own by entry.change ≡ true → i < here
  under-next above here upper there lane names other under i entry is own =
      let t = named-below above upper there lane i entry is own (under i entry is own) in
      let both : Some t.0 ≡ Some here = sym t.1 ∙ names in
      let t_is : t.0 ≡ here = cc in
      let most = t.2 in
      let ne = not-here here other i entry is own in
      omega (arith, ne)

  pub none-below : (above : ℕ) (upper : Entry) → get_or entries above None ≡ Some upper → lane_of upper ≡ lane_in by → upper.below ≡ None
      → ((i : ℕ) (entry : Entry) → get_or entries i None ≡ Some entry → is_own by entry.change ≡ true → i < above)
      → (i : ℕ) (entry : Entry) → get_or entries i None ≡ Some entry → is_own by entry.change ≡ false
  none-below above upper there lane names under i entry is = go (is_own by entry.change) refl
    where
      go : (b : Bool) → is_own by entry.change ≡ b → is_own by entry.change ≡ false
      go false e = e
      go true e =
          let t = named-below above upper there lane i entry is e (under i entry is e) in
          let both : Some t.0 ≡ None = sym t.1 ∙ names in absurd (cc)

-- what an entry that is there names
pub below-there : (entries : List (Option Entry)) (at : ℕ) (entry : Entry) (o : Option ℕ) → get_or entries at None ≡ Some entry → o ≡ below_in (get_or entries at None) → o ≡ entry.below
below-there entries at entry o is named = named ∙ ap below_in is

pub own-there : (by : ClientNo) (entries : List (Option Entry)) (at : ℕ) → is_own_entry by (get_or entries at None) ≡ true
    → (entry : Entry) × (get_or entries at None ≡ Some entry) × (is_own by entry.change ≡ true)
own-there by entries at own = go (get_or entries at None) refl own
  where
    go : (o : Option Entry) → get_or entries at None ≡ o → is_own_entry by o ≡ true → (entry : Entry) × (get_or entries at None ≡ Some entry) × (is_own by entry.change ≡ true)
    go None e h = absurd (cc)
    go (Some entry) e h = (entry, e, h)

-- a client of whom no entry is there has no change
pub none-listed : (by : ClientNo) (entries : List (Option Entry)) → ((at : ℕ) (entry : Entry) → get_or entries at None ≡ Some entry → is_own by entry.change ≡ false) → list_any (is_own by) (live entries) ≡ false
none-listed by entries none = none-of by entries none

-- a vacant place behind all entries goes
last-vacant : (xs : List (Option Entry)) (i : ℕ) (f : Entry) → get_or (xs ++ None ∷ []) i None ≡ Some f → (i < length xs) × (get_or xs i None ≡ Some f)
last-vacant [] zero f is = absurd (cc)
last-vacant [] (suc i) f is = absurd (cc)
last-vacant (x ∷ xs) zero f is = (omega arith, is)
last-vacant (x ∷ xs) (suc i) f is = let rest = last-vacant xs i f is in let within = rest.0 in (omega arith, rest.1)

pub live-trimmed : (old xs : List (Option Entry)) → old ≡ xs ++ None ∷ [] → live xs ≡ live old
live-trimmed old xs is = sym (ap live is ∙ go xs)
  where
    go : (ys : List (Option Entry)) → live (ys ++ None ∷ []) ≡ live ys
    go [] = refl
    go (None ∷ ys) = go ys
    go (Some entry ∷ ys) = ap (λ (cs : List Unsettled). entry.change ∷ cs) (go ys)

pub linked-trimmed : (old xs : List (Option Entry)) (tops : ℕ → Option ℕ) (count number : ℕ) → old ≡ xs ++ None ∷ [] → count ≡ length old → number ≡ length xs → Linked old tops count → Linked xs tops number
linked-trimmed old xs tops count number is all left l = record {
  topped = λ i f within there. l.topped i f (wider i within) (was i f within there);
  linked = λ i u f g within less fis gis same. let low : u < number = omega arith in l.linked i u f g (wider i within) less (was i f within fis) (was u g low gis) same;
  tops_there = λ lane top names. let t = l.tops_there lane top names in let now = still top t.1 t.2 in let within = now.0 in (omega arith, t.1, now.1, t.3);
  belows_there = λ i below f within there names.
      let t = l.belows_there i below f (wider i within) (was i f within there) names in
      let now = still below t.1 t.2 in (t.0, t.1, now.1, t.3);
}
  where
    longer : length old ≡ length xs + 1
    longer = ap length is ∙ more xs
      where
        more : (ys : List (Option Entry)) → length (ys ++ None ∷ []) ≡ length ys + 1
        more [] = refl
        more (y ∷ ys) = let rest = more ys in omega arith

    wider : (i : ℕ) → i < number → i < count
    wider i within = let one = longer in omega arith

    was : (i : ℕ) (f : Entry) → i < number → get_or xs i None ≡ Some f → get_or old i None ≡ Some f
    was i f within there = let low : i < length xs = omega arith in ap (λ (es : List (Option Entry)). get_or es i None) is ∙ (get_or_append_left xs (None ∷ []) None i low ∙ there)

    still : (i : ℕ) (f : Entry) → get_or old i None ≡ Some f → (i < length xs) × (get_or xs i None ≡ Some f)
    still i f there = last-vacant xs i f (ap (λ (es : List (Option Entry)). get_or es i None) (sym is) ∙ there)
