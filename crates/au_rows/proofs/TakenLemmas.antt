-- What is left of a list of changes when one is taken out, and what has ended by then.
use Rattle.std.proofs.Common.{◌≡◌, ◌⊎◌, inl, inr, ℕ, ◌+◌, Bool, true, false, not, ◌||◌, List, [], ◌∷◌, ◌++◌, filter, length, refl, ap, sym, ◌∙◌, arith, Option}
use Rattle.std.specs.List.{list_all, list_any, count_by}
use Rattle.std.proofs.lemmas.Grind.{common_steps}
use Rattle.std.proofs.lemmas.List.Elements.{filter-append}
use Rattle.au_base.specs.declared.numbers.RowNo.{RowNo}
use Rattle.au_base.specs.declared.numbers.ClientNo.{ClientNo}
use Rattle.au_rows.specs.declared.ending.Ending.{Ending}
use Rattle.au_rows.specs.declared.place.Place.{Place}
use Rattle.au_rows.specs.declared.unsettled.Unsettled.{Unsettled}
use Rattle.au_rows.specs.declared.version.Version.{Version}
use Rattle.au_rows.specs.Ends.{EndedBefore, is_own, is_own_of, is_used_still}
use Rattle.au_rows.specs.Kept.{change_names, is_used, place_names, unsettled_others}
use Rattle.au_rows.specs.Links.{Taken}
use Rattle.au_rows.proofs.AllLemmas.{no-more}
use Rattle.au_rows.proofs.UsedLemmas.{or-cases, or-right}

any-moved : {X : Type 0} (f : X → Bool) (front : List X) (x : X) (back : List X) → list_any f (front ++ x ∷ back) ≡ list_any f (x ∷ (front ++ back))
any-moved f [] x back = refl
any-moved f (first ∷ front) x back = grind (arith, common_steps, any-moved f front x back)

all-moved : {X : Type 0} (f : X → Bool) (front : List X) (x : X) (back : List X) → list_all f (front ++ x ∷ back) ≡ list_all f (x ∷ (front ++ back))
all-moved f [] x back = refl
all-moved f (first ∷ front) x back = grind (arith, common_steps, all-moved f front x back)

count-moved : {X : Type 0} (f : X → Bool) (front : List X) (x : X) (back : List X) → count_by f (front ++ x ∷ back) ≡ count_by f (x ∷ (front ++ back))
count-moved f [] x back = refl
count-moved f (first ∷ front) x back = grind (arith, common_steps, count-moved f front x back)

length-moved : {X : Type 0} (front : List X) (x : X) (back : List X) → length (front ++ x ∷ back) ≡ length (front ++ back) + 1
length-moved [] x back = omega arith
length-moved (first ∷ front) x back = let rest = length-moved front x back in omega arith

filter-moved : {X : Type 0} (f : X → Bool) (front : List X) (x : X) (back : List X) → f x ≡ false → filter f (front ++ x ∷ back) ≡ filter f (front ++ back)
filter-moved f front x back none = filter-append f front (x ∷ back) ∙ (ap (λ (xs : List _). filter f front ++ xs) (skip none) ∙ sym (filter-append f front back))
  where
    skip : f x ≡ false → filter f (x ∷ back) ≡ filter f back
    skip h = rw h refl

module _ (by : ClientNo) (change : Unsettled) (old new : List Unsettled) (t : Taken by change old new) where
  pub taken-any : (f : Unsettled → Bool) → list_any f old ≡ list_any f (change ∷ new)
  taken-any f = ap (list_any f) t.before ∙ (any-moved f t.front change t.back ∙ ap (λ (xs : List Unsettled). list_any f (change ∷ xs)) (sym t.after))

  pub taken-all : (f : Unsettled → Bool) → list_all f old ≡ list_all f (change ∷ new)
  taken-all f = ap (list_all f) t.before ∙ (all-moved f t.front change t.back ∙ ap (λ (xs : List Unsettled). list_all f (change ∷ xs)) (sym t.after))

  pub taken-count : (f : Unsettled → Bool) → count_by f old ≡ count_by f (change ∷ new)
  taken-count f = ap (count_by f) t.before ∙ (count-moved f t.front change t.back ∙ ap (λ (xs : List Unsettled). count_by f (change ∷ xs)) (sym t.after))

  pub taken-length : length old ≡ length new + 1
  taken-length = ap length t.before ∙ (length-moved t.front change t.back ∙ ap (λ (xs : List Unsettled). length xs + 1) (sym t.after))

  none-others : unsettled_others by change ≡ false
  none-others = ap not t.own

  pub taken-others : filter (unsettled_others by) new ≡ filter (unsettled_others by) old
  taken-others = ap (filter (unsettled_others by)) t.after ∙ (sym (filter-moved (unsettled_others by) t.front change t.back none-others) ∙ ap (filter (unsettled_others by)) (sym t.before))

  first-others : filter (unsettled_others by) (change ∷ new) ≡ filter (unsettled_others by) old
  first-others = skip (unsettled_others by change) refl ∙ taken-others
    where
      skip : (b : Bool) → unsettled_others by change ≡ b → filter (unsettled_others by) (change ∷ new) ≡ filter (unsettled_others by) new
      skip false h = rw h refl
      skip true h = absurd (no-more (unsettled_others by change) h none-others)

  -- the order of what is left doesn't matter
  pub taken-first : (e : Ending) (changes : List Unsettled) (places places' : List Place) (before after : List (Option Version))
      → EndedBefore e by old changes places before places' after → EndedBefore e by (change ∷ new) changes places before places' after
  taken-first e changes places places' before after d = record {
    order = d.order;
    whole = d.whole;
    open_tables = d.open_tables;
    numbered = d.numbered;
    rows = d.rows;
    elsewhere = d.elsewhere;
    frees = d.frees;
    others = d.others;
    ahead = λ t n is. sym (taken-any (is_own_of t n by)) ∙ d.ahead t n is;
    shown = let counted = taken-count (is_own by) in let shown = d.shown in omega arith;
    within = λ slot h. d.within slot (ap (list_any (change_names slot)) (sym first-others) ∙ h);
    used = λ all slot some.
        ap (λ (b : Bool). (list_any (place_names slot) places' || b) || list_any (change_names slot) (filter (unsettled_others by) changes)) (sym (taken-any (change_names slot))) ∙ d.used all slot some;
  }

own-of-own : (t : ℕ) (n : RowNo) (by : ClientNo) (changes : List Unsettled) → list_any (is_own_of t n by) changes ≡ true → list_any (is_own by) changes ≡ true
own-of-own t n by [] h = h
own-of-own t n by (change ∷ changes) h = grind (arith, common_steps, own-of-own t n by changes)

none-count : {X : Type 0} (f : X → Bool) (xs : List X) → list_any f xs ≡ false → count_by f xs ≡ 0
none-count f [] h = refl
none-count f (x ∷ xs) h = grind (arith, common_steps, none-count f xs)

-- where no change is the client's, all are others'
pub all-others : (by : ClientNo) (changes : List Unsettled) → list_any (is_own by) changes ≡ false → filter (unsettled_others by) changes ≡ changes
all-others by [] h = refl
all-others by (change ∷ changes) h = step (is_own by change) refl (all-others by changes)
  where
    step : (b : Bool) → is_own by change ≡ b → (list_any (is_own by) changes ≡ false → filter (unsettled_others by) changes ≡ changes) → filter (unsettled_others by) (change ∷ changes) ≡ change ∷ changes
    step true e rest = let no : list_any (is_own by) (change ∷ changes) ≡ true = rw e refl in absurd (no-more (list_any (is_own by) (change ∷ changes)) no h)
    step false e rest =
        let none : list_any (is_own by) changes ≡ false = grind (arith, common_steps) in
        let keep : unsettled_others by change ≡ true = ap not e in
        rw keep (ap (λ (xs : List Unsettled). change ∷ xs) (rest none))

-- all of the client's changes have ended where none is left
pub ended-all : (e : Ending) (by : ClientNo) (rest changes : List Unsettled) (places places' : List Place) (before after : List (Option Version))
    → list_any (is_own by) rest ≡ false → EndedBefore e by rest changes places before places' after → EndedBefore e by [] changes places before places' after
ended-all e by rest changes places places' before after none d = record {
  order = d.order;
  whole = d.whole;
  open_tables = d.open_tables;
  numbered = d.numbered;
  rows = d.rows;
  elsewhere = d.elsewhere;
  frees = d.frees;
  others = d.others;
  ahead = λ t n is. absurd (no-more (list_any (is_own by) rest) (own-of-own t n by rest (d.ahead t n is)) none);
  shown = let counted = none-count (is_own by) rest none in let shown = d.shown in omega arith;
  within = λ slot h. absurd (cc);
  used = λ all slot some. used slot (or-cases (is_used places' rest slot) (list_any (change_names slot) (filter (unsettled_others by) changes)) (d.used all slot some));
}
  where
    used : (slot : ℕ) → (is_used places' rest slot ≡ true) ⊎ (list_any (change_names slot) (filter (unsettled_others by) changes) ≡ true) → is_used_still by [] changes places' slot ≡ true
    used slot (inr h) = or-right (is_used places' [] slot) (list_any (change_names slot) (filter (unsettled_others by) changes)) h
    used slot (inl h) = go (or-cases (list_any (place_names slot) places') (list_any (change_names slot) rest) h)
      where
        go : (list_any (place_names slot) places' ≡ true) ⊎ (list_any (change_names slot) rest ≡ true) → is_used_still by [] changes places' slot ≡ true
        go (inl names) = rw names refl
        go (inr names) =
            or-right (is_used places' [] slot) (list_any (change_names slot) (filter (unsettled_others by) changes))
            (d.within slot (ap (list_any (change_names slot)) (all-others by rest none) ∙ names))
