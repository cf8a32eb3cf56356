-- What the end of a client's changes leaves, row by row.
use Rattle.std.proofs.Common.{◌≡◌, ◌⊎◌, inl, inr, ℕ, zero, suc, ◌+◌, ◌≤◌, Bool, true, false, is_some, ◌||◌, List, [], ◌∷◌, filter, get_or, length, drop, refl, ap, ap₂, sym, subst, ◌∙◌, arith, Option, Some, None}
use Rattle.std.specs.Prelude.{◌==◌}
use Rattle.std.specs.List.{list_all, list_any, count_by}
use Rattle.std.specs.Option.{option_and_then}
use Rattle.std.proofs.lemmas.Grind.{common_steps}
use Rattle.au_base.specs.declared.numbers.RowNo.{RowNo}
use Rattle.au_base.specs.declared.numbers.ClientNo.{ClientNo}
use Rattle.au_rows.specs.declared.ending.Ending.{Ending}
use Rattle.au_rows.specs.declared.place.Place.{Place}
use Rattle.au_rows.specs.declared.unsettled.Unsettled.{Unsettled}
use Rattle.au_rows.specs.declared.version.Version.{Version}
use Rattle.au_rows.specs.Ends.{EndedBefore, IsCovered, IsGone, KeptOrEnded, RowEnded, is_bare, is_clear, is_own, is_own_of, is_used_still}
use Rattle.au_rows.specs.Held.{is_by, is_this}
use Rattle.au_rows.specs.Kept.{change_names, is_owned, is_used, is_version, is_whole, owner_in, place_in, place_names, place_owner, place_shown, unsettled_others}
use Rattle.au_rows.specs.Order.{in_order}
use Rattle.au_rows.proofs.ChainLemmas.{slot-named}
use Rattle.au_rows.proofs.EndLemmas.{frees-trans}
use Rattle.au_rows.proofs.UsedLemmas.{bare-names, bare-unowned, not-vacant, or-left, some-before}

abbrev owner_at : Option Place → Option ClientNo
owner_at place = option_and_then place_owner place

pub this-table : (table : ℕ) (number : RowNo) (t : ℕ) (n : RowNo) → is_this table number t n ≡ true → t ≡ table
this-table table number t n h = grind (arith, common_steps)

pub this-number : (table : ℕ) (number : RowNo) (t : ℕ) (n : RowNo) → is_this table number t n ≡ true → n.0 ≡ number.0
this-number table number t n h = grind (arith, common_steps)

pub same-row : (places : List Place) (table : ℕ) (number : RowNo) (t : ℕ) (n : RowNo) → is_this table number t n ≡ true → place_in t n places ≡ place_in table number places
same-row places table number t n h =
    ap₂ (λ (a b : ℕ). place_in a (record { 0 = b }) places) (this-table table number t n h) (this-number table number t n h)

by-own : (by c : ClientNo) (owner : Option ClientNo) → (c.0 == by.0) ≡ true → is_by c owner ≡ is_by by owner
by-own by c None h = refl
by-own by c (Some owner) h = let same : c.0 ≡ by.0 = grind (arith, common_steps) in ap (λ (x : ℕ). owner.0 == x) same

pub no-more : (b : Bool) → b ≡ true → b ≡ false → ⊥
no-more b t f = let e : true ≡ false = sym t ∙ f in cc

pub count-first : {X : Type 0} (f : X → Bool) (x : X) (xs : List X) → f x ≡ true → count_by f (x ∷ xs) ≡ 1 + count_by f xs
count-first f x xs h = grind (arith, common_steps)

pub count-none : {X : Type 0} (f : X → Bool) (x : X) (xs : List X) → f x ≡ false → count_by f (x ∷ xs) ≡ count_by f xs
count-none f x xs h = grind (arith, common_steps)

-- nothing has ended before any change has ended
pub ended-none : (e : Ending) (by : ClientNo) (changes : List Unsettled) (places : List Place) (slots : List (Option Version))
    → in_order places ≡ true → list_all (is_whole slots) places ≡ true → IsCovered by places changes
    → EndedBefore e by changes changes places slots places slots
ended-none e by changes places slots order whole covered = record {
  order = order;
  whole = whole;
  open_tables = λ tables h. h;
  numbered = λ h. h;
  rows = refl;
  elsewhere = λ t n slot other is. refl;
  frees = λ slot. inl refl;
  others = λ t n. same (is_by by (owner_in t n places)) (place_in t n places);
  ahead = covered;
  shown = omega arith;
  within = λ slot h. h;
  used = λ all slot some. or-left (is_used places changes slot) (list_any (change_names slot) (filter (unsettled_others by) changes)) (all slot some);
}
  where
    same : (b : Bool) (o : Option Place) → KeptOrEnded b o o
    same true o = inl refl
    same false o = refl

module _ (e : Ending) (by : ClientNo) (change : Unsettled) (rest changes : List Unsettled) (old mid new : List Place) (before during after : List (Option Version))
    (so_far : EndedBefore e by (change ∷ rest) changes old before mid during)
    (owned : is_owned old change ≡ true)
    (own : is_own by change ≡ true)
    (gone : IsGone change.slot (place_in change.table change.number new) after) where
  pub ended-step : RowEnded e change.table change.number by mid during new after → EndedBefore e by rest changes old before new after
  ended-step row = record {
    order = row.order;
    whole = row.whole;
    open_tables = λ tables h. row.open_tables tables (so_far.open_tables tables h);
    numbered = λ h. row.numbered (so_far.numbered h);
    rows = row.rows ∙ so_far.rows;
    elsewhere = λ t n slot non is.
        let first = so_far.elsewhere t n slot non is in
        row.elsewhere t n slot (apart t (record { 0 = n }) non) (ap (is_version t n) first ∙ is) ∙ first;
    frees = frees-trans before during after so_far.frees row.frees;
    others = λ t n. others t n (is_this change.table change.number t n) refl;
    ahead = λ t n is. ahead t n is (is_this change.table change.number t n) refl;
    shown = shown;
    within = λ slot h. so_far.within slot (rw others_skip h);
    used = λ all slot some. used slot some (so_far.used all slot (some-before during after row.frees slot some));
  }
    where
      mine : is_by by (owner_in change.table change.number old) ≡ true
      mine = sym (by-own by change.by (owner_in change.table change.number old) own) ∙ owned

      others_skip : filter (unsettled_others by) (change ∷ rest) ≡ filter (unsettled_others by) rest
      others_skip = let mine_too : unsettled_others by change ≡ false = grind (arith, common_steps) in rw mine_too refl

      bare : is_bare (place_in change.table change.number new) ≡ true
      bare = go row.here
        where
          still : (b : Bool) → is_by by (owner_in change.table change.number old) ≡ b → KeptOrEnded b (place_in change.table change.number old) (place_in change.table change.number mid)
              → is_by by (owner_in change.table change.number mid) ≡ false → is_bare (place_in change.table change.number mid) ≡ true
          still true e (inl same) other = absurd (no-more (is_by by (owner_in change.table change.number mid)) (ap (λ (o : Option Place). is_by by (owner_at o)) same ∙ e) other)
          still true e (inr b) other = b
          still false e same other = absurd (no-more (is_by by (owner_in change.table change.number old)) mine e)

          go : (is_bare (place_in change.table change.number new) ≡ true) ⊎ ((is_by by (owner_in change.table change.number mid) ≡ false) × (place_in change.table change.number new ≡ place_in change.table change.number mid))
              → is_bare (place_in change.table change.number new) ≡ true
          go (inl b) = b
          go (inr same) = ap is_bare same.1 ∙ still (is_by by (owner_in change.table change.number old)) refl (so_far.others change.table change.number) same.0

      named : (slot : ℕ) → is_some (get_or after slot None) ≡ true → change_names slot change ≡ true → list_any (place_names slot) new ≡ true
      named slot some names = go (subst (λ (o : Option ℕ). IsGone o (place_in change.table change.number new) after) (slot-named slot change.slot names) gone)
        where
          go : (get_or after slot None ≡ None) ⊎ (is_clear (Some slot) (place_in change.table change.number new) ≡ false) → list_any (place_names slot) new ≡ true
          go (inl none) = absurd (not-vacant after slot some none)
          go (inr clear) = bare-names new change.table change.number slot bare clear

      used : (slot : ℕ) → is_some (get_or after slot None) ≡ true → is_used_still by (change ∷ rest) changes mid slot ≡ true → is_used_still by rest changes new slot ≡ true
      used slot some h = go (list_any (place_names slot) mid) (change_names slot change) refl refl h
        where
          go : (m c : Bool) → list_any (place_names slot) mid ≡ m → change_names slot change ≡ c
              → ((m || (c || list_any (change_names slot) rest)) || list_any (change_names slot) (filter (unsettled_others by) changes)) ≡ true → is_used_still by rest changes new slot ≡ true
          go true c e f u = let here = row.keeps slot some e in rw here refl
          go false true e f u = let here = named slot some f in rw here refl
          go false false e f u = keep (list_any (place_names slot) new) u
            where
              keep : (b : Bool) → (list_any (change_names slot) rest || list_any (change_names slot) (filter (unsettled_others by) changes)) ≡ true
                  → ((b || list_any (change_names slot) rest) || list_any (change_names slot) (filter (unsettled_others by) changes)) ≡ true
              keep true w = refl
              keep false w = w

      apart : (t : ℕ) (n : RowNo) → is_by by (owner_in t n old) ≡ false → is_this change.table change.number t n ≡ false
      apart t n non = go (is_this change.table change.number t n) refl
        where
          go : (b : Bool) → is_this change.table change.number t n ≡ b → is_this change.table change.number t n ≡ false
          go false h = h
          go true h = absurd (no-more (is_by by (owner_in t n old)) (ap (λ (o : Option Place). is_by by (owner_at o)) (same-row old change.table change.number t n h) ∙ mine) non)

      shown : count_by place_shown new + count_by (is_own by) rest ≤ count_by place_shown old + count_by (is_own by) changes
      shown =
          let one = count-first (is_own by) change rest own in
          let a = so_far.shown in let b = row.shown in omega arith

      others : (t : ℕ) (n : RowNo) (b : Bool) → is_this change.table change.number t n ≡ b → KeptOrEnded (is_by by (owner_in t n old)) (place_in t n old) (place_in t n new)
      others t n false h = subst (λ (o : Option Place). KeptOrEnded (is_by by (owner_in t n old)) (place_in t n old) o) (sym (row.others t n h)) (so_far.others t n)
      others t n true h = here row.here
        where
          at_new : place_in t n new ≡ place_in change.table change.number new
          at_new = same-row new change.table change.number t n h

          at_mid : place_in t n mid ≡ place_in change.table change.number mid
          at_mid = same-row mid change.table change.number t n h

          is_mine : is_by by (owner_in t n old) ≡ true
          is_mine = ap (λ (o : Option Place). is_by by (owner_at o)) (same-row old change.table change.number t n h) ∙ mine

          here : (is_bare (place_in change.table change.number new) ≡ true) ⊎ ((is_by by (owner_in change.table change.number mid) ≡ false) × (place_in change.table change.number new ≡ place_in change.table change.number mid))
              → KeptOrEnded (is_by by (owner_in t n old)) (place_in t n old) (place_in t n new)
          here (inl none) = rw is_mine (inr (ap is_bare at_new ∙ none))
          here (inr same) = subst (λ (o : Option Place). KeptOrEnded (is_by by (owner_in t n old)) (place_in t n old) o) (at_mid ∙ (sym same.1 ∙ sym at_new)) (so_far.others t n)

      ahead : (t : ℕ) (n : RowNo) → is_by by (owner_in t n new) ≡ true → (b : Bool) → is_this change.table change.number t n ≡ b → list_any (is_own_of t n by) rest ≡ true
      ahead t n is false h =
          let was : is_by by (owner_in t n mid) ≡ true = ap (λ (o : Option Place). is_by by (owner_at o)) (sym (row.others t n h)) ∙ is in
          let some : list_any (is_own_of t n by) (change ∷ rest) ≡ true = so_far.ahead t n was in
          let different : is_own_of t n by change ≡ false = other in
          let or : (is_own_of t n by change || list_any (is_own_of t n by) rest) ≡ true = some in
          rw different at or
        where
          other : is_own_of t n by change ≡ false
          other = grind (arith, common_steps)
      ahead t n is true h = absurd (here row.here)
        where
          at_new : place_in t n new ≡ place_in change.table change.number new
          at_new = same-row new change.table change.number t n h

          here : (is_bare (place_in change.table change.number new) ≡ true) ⊎ ((is_by by (owner_in change.table change.number mid) ≡ false) × (place_in change.table change.number new ≡ place_in change.table change.number mid)) → ⊥
          here (inl none) = no-more (is_by by (owner_in t n new)) is (ap (λ (o : Option Place). is_by by (owner_at o)) at_new ∙ ap (is_by by) (bare-unowned (place_in change.table change.number new) none))
          here (inr same) = no-more (is_by by (owner_in t n new)) is (ap (λ (o : Option Place). is_by by (owner_at o)) (at_new ∙ same.1) ∙ same.0)

pub drop-past : {X : Type 0} (xs : List X) (i : ℕ) → length xs ≤ i → drop i xs ≡ []
drop-past [] i h = grind (arith, common_steps)
drop-past (x ∷ xs) zero h = absurd (omega arith)
drop-past (x ∷ xs) (suc i) h = let rest : length xs ≤ i = omega arith in drop-past xs i rest
