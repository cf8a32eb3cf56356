-- What is left after all changes of a client have ended.
use Rattle.std.proofs.Common.{◌≡◌, ◌⊎◌, inl, inr, ℕ, ◌+◌, ◌≤◌, Bool, true, false, not, cond, is_some, ◌||◌, List, [], ◌∷◌, filter, get_or, length, refl, ap, ap₂, sym, ◌∙◌, arith, Option, Some, None, map}
use Rattle.std.specs.Prelude.{◌==◌}
use Rattle.std.specs.List.{list_all, list_any, count_by}
use Rattle.std.specs.Option.{option_map, option_and_then}
use Rattle.std.proofs.lemmas.Grind.{common_steps}
use Rattle.au_base.specs.declared.cell.Cell.{Cell}
use Rattle.au_base.specs.declared.numbers.RowNo.{RowNo}
use Rattle.au_base.specs.declared.numbers.ClientNo.{ClientNo}
use Rattle.au_rows.specs.declared.ending.Ending.{Ending}
use Rattle.au_rows.specs.declared.place.Place.{Place}
use Rattle.au_rows.specs.declared.table.Table.{Table}
use Rattle.au_rows.specs.declared.unsettled.Unsettled.{Unsettled}
use Rattle.au_rows.specs.declared.version.Version.{Version}
use Rattle.au_rows.specs.Ends.{EndedBefore, IsCovered, KeptOrEnded, is_own, is_own_of, is_used_still}
use Rattle.au_rows.specs.Held.{Change, all_ended, changes_of_others, is_by, is_left, is_this, or_else}
use Rattle.au_rows.specs.Kept.{IsIndexed, Sound, change_names, change_of, content_at, held_of, is_kept, is_logged, is_owned, is_used, is_version, is_whole, last_unsettled, owner_in, place_at, place_from, place_in, place_left, place_names, place_owned, place_owner, place_shown, unsettled_others}
use Rattle.au_rows.specs.Order.{is_before, in_order}
use Rattle.au_rows.proofs.AllLemmas.{no-more, same-row}
use Rattle.au_rows.proofs.EndLemmas.{kept-some}
use Rattle.au_rows.proofs.FoundLemmas.{none-after}
use Rattle.au_rows.proofs.UsedLemmas.{bare-unowned}

or_else-none : {A : Type 0} (o : Option A) → or_else o None ≡ o
or_else-none None = refl
or_else-none (Some a) = refl

-- the client of another client's change isn't this one
others-owner : (by c : ClientNo) (owner : Option ClientNo) → not (c.0 == by.0) ≡ true → is_by c owner ≡ true → is_by by owner ≡ false
others-owner by c None o h = refl
others-owner by c (Some owner) o h = grind (arith, common_steps)

own-owner : (by c : ClientNo) (owner : Option ClientNo) → not (c.0 == by.0) ≡ false → is_by c owner ≡ true → is_by by owner ≡ true
own-owner by c None o h = h
own-owner by c (Some owner) o h = grind (arith, common_steps)

no-owner : (o : Option Place) → option_and_then place_owner o ≡ None → option_and_then place_owned o ≡ None
no-owner None h = refl
no-owner (Some place) h = rw h refl

module _ (by : ClientNo) (places : List Place) (t : ℕ) (n : RowNo) where
  owner-here : (change : Unsettled) → is_this t n change.table change.number ≡ true → owner_in change.table change.number places ≡ owner_in t n places
  owner-here change h = ap (λ (o : Option Place). option_and_then place_owner o) (same-row places t n change.table change.number h)

  last-by : (change : Unsettled) (changes : List Unsettled) (b o h : Bool) → is_by by (owner_in t n places) ≡ b
      → unsettled_others by change ≡ o → is_this t n change.table change.number ≡ h
      → is_owned places change ≡ true
      → last_unsettled t n (filter (unsettled_others by) changes) ≡ cond b None (last_unsettled t n changes)
      → last_unsettled t n (filter (unsettled_others by) (change ∷ changes)) ≡ cond b None (last_unsettled t n (change ∷ changes))
  last-by change changes true true true b o h owned rest =
      absurd (no-more (is_by by (owner_in t n places)) b
      (others-owner by change.by (owner_in t n places) o (ap (is_by change.by) (sym (owner-here change h)) ∙ owned)))
  last-by change changes false true true b o h owned rest = rw (o, h, rest) refl
  last-by change changes true true false b o h owned rest = rw (o, h, rest) refl
  last-by change changes false true false b o h owned rest = rw (o, h, rest) refl
  last-by change changes true false h b o is owned rest = rw o rest
  last-by change changes false false true b o h owned rest =
      absurd (no-more (is_by by (owner_in t n places))
      (own-owner by change.by (owner_in t n places) o (ap (is_by change.by) (sym (owner-here change h)) ∙ owned)) b)
  last-by change changes false false false b o h owned rest = rw (o, h, or_else-none (last_unsettled t n changes)) rest

  -- the last change of a row that is another's
  pub last-others : (b : Bool) → is_by by (owner_in t n places) ≡ b → (changes : List Unsettled) → list_all (is_owned places) changes ≡ true
      → last_unsettled t n (filter (unsettled_others by) changes) ≡ cond b None (last_unsettled t n changes)
  last-others true b [] owned = refl
  last-others false b [] owned = refl
  last-others v b (change ∷ changes) owned =
      let first : is_owned places change ≡ true = grind arith in
      let later : list_all (is_owned places) changes ≡ true = grind arith in
      last-by change changes v (unsettled_others by change) (is_this t n change.table change.number) b refl refl first (last-others v b changes later)

count-parts : (by : ClientNo) (changes : List Unsettled) → length (filter (unsettled_others by) changes) + count_by (is_own by) changes ≡ length changes
count-parts by [] = omega arith
count-parts by (change ∷ changes) = let rest = count-parts by changes in step (is_own by change) refl rest
  where
    step : (b : Bool) → is_own by change ≡ b → length (filter (unsettled_others by) changes) + count_by (is_own by) changes ≡ length changes
        → length (filter (unsettled_others by) (change ∷ changes)) + count_by (is_own by) (change ∷ changes) ≡ length (change ∷ changes)
    step true b rest = grind (arith, common_steps)
    step false b rest = grind (arith, common_steps)

module _ (e : Ending) (by : ClientNo) (slots : List (Option Version)) where
  -- where nothing is the client's, nothing ends
  pub none-ended : (places : List Place) → in_order places ≡ true → list_all place_left places ≡ true → list_all (is_whole slots) places ≡ true
      → ((t : ℕ) (n : RowNo) → is_by by (owner_in t n places) ≡ true → ⊥)
      → all_ended e by (map (held_of slots) places) ≡ map (held_of slots) places
  none-ended [] o l w others = refl
  none-ended (p ∷ ps) o l w others =
      let later : list_all (is_before p) ps ≡ true = grind arith in
      let rest : in_order ps ≡ true = grind arith in
      let whole : is_whole slots p ≡ true = grind arith in
      let settled : is_kept slots p.table p.number.0 p.settled ≡ true = grind arith in
      let wholes : list_all (is_whole slots) ps ≡ true = grind arith in
      let left : place_left p ≡ true = grind arith in
      let lefts : list_all place_left ps ≡ true = grind arith in
      let tail = none-ended ps rest lefts wholes (λ t n is. behind t n later (place_from t n p) refl is) in
      let kept : is_left (held_of slots p) ≡ true = ap (λ (b : Bool). b || is_some p.owner) (kept-some slots p.table p.number.0 p.settled settled) ∙ left in
      rw (not-own (is_by by p.owner) refl, kept, tail) refl
    where
      here : is_by by p.owner ≡ true → is_by by (owner_in p.table p.number (p ∷ ps)) ≡ true
      here h =
          let from : place_from p.table p.number p ≡ true = grind (arith, common_steps) in
          let at : place_at p.table p.number p ≡ true = grind (arith, common_steps) in
          rw (from, at) h

      not-own : (b : Bool) → is_by by p.owner ≡ b → is_by by p.owner ≡ false
      not-own false h = h
      not-own true h = absurd (others p.table p.number (here h))

      behind : (t : ℕ) (n : RowNo) → list_all (is_before p) ps ≡ true → (b : Bool) → place_from t n p ≡ b → is_by by (owner_in t n ps) ≡ true → ⊥
      behind t n later false f is = others t n (rw f is)
      behind t n later true f is =
          no-more (is_by by (owner_in t n ps)) is (ap (λ (o : Option Place). is_by by (option_and_then place_owner o)) (none-after t n p ps f later))

module _ (e : Ending) (by : ClientNo) (changes : List Unsettled) (old new : List Place) (before after : List (Option Version))
    (sound : Sound old before changes) (done : EndedBefore e by [] changes old before new after) (left : list_all place_left new ≡ true) where
  nobodys : (t : ℕ) (n : RowNo) → is_by by (owner_in t n new) ≡ true → ⊥
  nobodys t n is = let no : false ≡ true = done.ahead t n is in cc

  -- another's change keeps its version
  other-slot : (change : Unsettled) → unsettled_others by change ≡ true → is_owned old change ≡ true → (slot : Option ℕ) → is_kept before change.table change.number.0 slot ≡ true
      → (content_at after slot ≡ content_at before slot) × (is_kept after change.table change.number.0 slot ≡ true)
  other-slot change o owned None k = (refl, refl)
  other-slot change o owned (Some slot) k =
      let stays = done.elsewhere change.table change.number.0 slot (others-owner by change.by (owner_in change.table change.number old) o owned) k in
      (ap (λ (v : Option Version). option_map (λ (x : Version). x.cells) v) stays, ap (is_version change.table change.number.0) stays ∙ k)

  other-owned : (change : Unsettled) → unsettled_others by change ≡ true → is_owned old change ≡ true → is_owned new change ≡ true
  other-owned change o owned =
      go (is_by by (owner_in change.table change.number old)) (others-owner by change.by (owner_in change.table change.number old) o owned) (done.others change.table change.number)
    where
      go : (b : Bool) → b ≡ false → KeptOrEnded b (place_in change.table change.number old) (place_in change.table change.number new) → is_owned new change ≡ true
      go false b same = ap (λ (p : Option Place). is_by change.by (option_and_then place_owner p)) same ∙ owned
      go true b same = absurd (no-more true refl b)

  record Kept (cs : List Unsettled) : Type 0 where
    logged : list_all (is_logged after) (filter (unsettled_others by) cs) ≡ true
    owned : list_all (is_owned new) (filter (unsettled_others by) cs) ≡ true
    shown : map (change_of after) (filter (unsettled_others by) cs) ≡ changes_of_others by (map (change_of before) cs)

  kept_by : (change : Unsettled) (cs : List Unsettled) (b : Bool) → unsettled_others by change ≡ b → is_logged before change ≡ true → is_owned old change ≡ true → Kept cs → Kept (change ∷ cs)
  kept_by change cs true o logged owned rest =
      let slot = other-slot change o owned change.slot logged in
      record {
        logged = rw o (rw (slot.1, rest.logged) refl);
        owned = rw o (rw (other-owned change o owned, rest.owned) refl);
        shown = rw o (ap₂ (λ (content : Option (List Cell)) (tail : List Change). (record { by = change.by; table = change.table; number = change.number; content = content }) ∷ tail) slot.0 rest.shown);
      }
  kept_by change cs false o logged owned rest = record {
    logged = rw o rest.logged;
    owned = rw o rest.owned;
    shown = rw o rest.shown;
  }

  kept_go : (cs : List Unsettled) → list_all (is_logged before) cs ≡ true → list_all (is_owned old) cs ≡ true → Kept cs
  kept_go [] l o = record { logged = refl; owned = refl; shown = refl }
  kept_go (change ∷ cs) l o =
      let first : is_logged before change ≡ true = grind arith in
      let others : list_all (is_logged before) cs ≡ true = grind arith in
      let mine : is_owned old change ≡ true = grind arith in
      let owned : list_all (is_owned old) cs ≡ true = grind arith in
      kept_by change cs (unsettled_others by change) refl first mine (kept_go cs others owned)

  agrees-by : (t : ℕ) (n : RowNo) (b : Bool) → is_by by (owner_in t n old) ≡ b → KeptOrEnded b (place_in t n old) (place_in t n new)
      → option_and_then place_owned (place_in t n new) ≡ cond b None (last_unsettled t n changes)
  agrees-by t n true b (inl same) = absurd (nobodys t n (ap (λ (p : Option Place). is_by by (option_and_then place_owner p)) same ∙ b))
  agrees-by t n true b (inr none) = no-owner (place_in t n new) (bare-unowned (place_in t n new) none)
  agrees-by t n false b same = ap (λ (p : Option Place). option_and_then place_owned p) same ∙ sound.agrees t n

  pub closed : Sound new after (filter (unsettled_others by) changes)
  closed = let kept = kept_go changes sound.logged sound.owned in record {
    order = done.order;
    whole = done.whole;
    left = left;
    numbered = done.numbered sound.numbered;
    logged = kept.logged;
    owned = kept.owned;
    agrees = λ t n. agrees-by t n (is_by by (owner_in t n old)) refl (done.others t n) ∙ sym (last-others by old t n (is_by by (owner_in t n old)) refl changes sound.owned);
    used = λ slot some. used slot (done.used sound.used slot some);
  }
    where
      used : (slot : ℕ) → is_used_still by [] changes new slot ≡ true → is_used new (filter (unsettled_others by) changes) slot ≡ true
      used slot h = go (list_any (place_names slot) new) h
        where
          go : (b : Bool) → ((b || false) || list_any (change_names slot) (filter (unsettled_others by) changes)) ≡ true → (b || list_any (change_names slot) (filter (unsettled_others by) changes)) ≡ true
          go true u = refl
          go false u = u

  pub closed-indexed : (tables : List (Option Table)) → IsIndexed tables before → IsIndexed tables after
  closed-indexed tables indexed slot version is = indexed slot version (was (done.frees slot))
    where
      was : (get_or after slot None ≡ get_or before slot None) ⊎ (get_or after slot None ≡ None) → get_or before slot None ≡ Some version
      was (inl same) = sym same ∙ is
      was (inr none) = let both : None ≡ Some version = sym none ∙ is in absurd (cc)

  pub closed-held : map (held_of after) new ≡ all_ended e by (map (held_of before) old)
  closed-held = sym (none-ended e by after new done.order left done.whole nobodys) ∙ done.rows

  pub closed-changes : map (change_of after) (filter (unsettled_others by) changes) ≡ changes_of_others by (map (change_of before) changes)
  closed-changes = (kept_go changes sound.logged sound.owned).shown

  pub closed-taken : length (filter (unsettled_others by) changes) + count_by place_shown new ≤ length changes + count_by place_shown old
  closed-taken = let parts = count-parts by changes in let shown = done.shown in omega arith

module _ (by : ClientNo) (t : ℕ) (n : RowNo) where
  abbrev client : ClientNo → Option (ClientNo × Option ℕ) → ClientNo
  client other None = other
  client other (Some pair) = pair.0

  abbrev this_change : Bool → Unsettled → Option (ClientNo × Option ℕ)
  this_change true change = Some (change.by, change.slot)
  this_change false change = None

  by_this : (change : Unsettled) (c : ClientNo) (slot : Option ℕ) → c.0 ≡ by.0 → (b : Bool) → is_this t n change.table change.number ≡ b
      → this_change b change ≡ Some (c, slot) → is_own_of t n by change ≡ true
  by_this change c slot same true h e =
      let mine : change.by ≡ c = ap (client change.by) e in
      let number : change.by.0 ≡ by.0 = ap (λ (x : ClientNo). x.0) mine ∙ same in
      let own : is_own by change ≡ true = grind (arith, common_steps) in
      rw (h, own) refl
  by_this change c slot same false h e = cc

  by_last : (change : Unsettled) (cs : List Unsettled) (c : ClientNo) (slot : Option ℕ) → c.0 ≡ by.0 → (o : Option (ClientNo × Option ℕ)) → last_unsettled t n cs ≡ o
      → (last_unsettled t n cs ≡ Some (c, slot) → list_any (is_own_of t n by) cs ≡ true)
      → or_else o (this_change (is_this t n change.table change.number) change) ≡ Some (c, slot)
      → list_any (is_own_of t n by) (change ∷ cs) ≡ true
  by_last change cs c slot same (Some pair) e rest s = let later = rest (e ∙ s) in grind (arith, common_steps)
  by_last change cs c slot same None e rest s = let here = by_this change c slot same (is_this t n change.table change.number) refl s in rw here refl

  in_list : (cs : List Unsettled) (c : ClientNo) (slot : Option ℕ) → c.0 ≡ by.0 → last_unsettled t n cs ≡ Some (c, slot) → list_any (is_own_of t n by) cs ≡ true
  in_list [] c slot same is = cc
  in_list (change ∷ cs) c slot same is =
      by_last change cs c slot same (last_unsettled t n cs) refl (λ later. in_list cs c slot same later)
      (ap (or_else (last_unsettled t n cs)) (named (is_this t n change.table change.number)) ∙ is)
    where
      named : (b : Bool) → this_change b change ≡ cond b (this_change true change) None
      named true = refl
      named false = refl

  by_owner : (place : Place) (changes : List Unsettled) (w : Option ClientNo) → place.owner ≡ w → is_by by place.owner ≡ true → place_owned place ≡ last_unsettled t n changes
      → list_any (is_own_of t n by) changes ≡ true
  by_owner place changes None q h e = let none : is_by by place.owner ≡ false = ap (is_by by) q in absurd (no-more (is_by by place.owner) h none)
  by_owner place changes (Some owner) q h e =
      let same : is_by by (Some owner) ≡ true = ap (is_by by) (sym q) ∙ h in
      let number : owner.0 ≡ by.0 = grind (arith, common_steps) in
      in_list changes owner place.newest number (sym e ∙ ap (λ (w : Option ClientNo). option_map (λ (c : ClientNo). (c, place.newest)) w) q)

  by_place : (changes : List Unsettled) (o : Option Place) → option_and_then place_owned o ≡ last_unsettled t n changes → is_by by (option_and_then place_owner o) ≡ true
      → list_any (is_own_of t n by) changes ≡ true
  by_place changes None e h = cc
  by_place changes (Some place) e h = by_owner place changes place.owner refl h e

-- each row that the client owns has a change
pub covered : (by : ClientNo) (places : List Place) (slots : List (Option Version)) (changes : List Unsettled) → Sound places slots changes → IsCovered by places changes
covered by places slots changes sound t n own = by_place by t n changes (place_in t n places) (sound.agrees t n) own
