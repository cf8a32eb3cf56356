-- What holds of blocks and counts after a place is put in, written over or taken away.
use Rattle.std.proofs.Common.{◌≡◌, ◌≢◌, ◌∙◌, ℕ, zero, suc, ◌+◌, ◌-◌, ◌*◌, ◌<◌, ◌≤◌, Bool, true, false, cond, List, [], ◌∷◌, ◌++◌, filter, length, get_or, set, refl, sym, ap, subst, arith, eqb, Option, Some, None, get_or-set_other, length-set}
use Rattle.std.specs.Prelude.{◌==◌, ◌^◌, IsNone, IsSome, nat_le, nat_lt}
use Rattle.std.specs.List.{list_all, count_by}
use Rattle.std.proofs.lemmas.Bool.Decides.{nat_tests}
use Rattle.std.proofs.lemmas.Grind.{common_steps}
use Rattle.std.proofs.lemmas.List.{get_or-set_same, get_or_past}
use Rattle.std.proofs.lemmas.List.Sums.{count_by-le-length, sum_by-cons}
use Rattle.au_rows.specs.declared.place.Place.{Place}
use Rattle.au_rows.specs.Blocks.{Housed, IsCount, all_excess, has_none, is_filled, joined}
use Rattle.au_rows.specs.Edits.{edited, found}
use Rattle.au_rows.specs.Kept.{place_at, place_elsewhere, place_from, place_in, place_numbered, place_of, settled_slot, with_place}
use Rattle.au_rows.specs.Order.{in_order}
use Rattle.au_base.specs.declared.numbers.RowNo.{RowNo}
use Rattle.au_base.specs.declared.numbers.ClientNo.{ClientNo}
use Rattle.au_rows.proofs.AllLemmas.{count-first, count-none}
use Rattle.au_rows.proofs.DropLemmas.{all-filter, order-filter}
use Rattle.au_rows.proofs.EditLemmas.{all_edited}
use Rattle.au_rows.proofs.EndLemmas.{found_passes, found-number, found-table}
use Rattle.au_rows.proofs.OrderLemmas.{gone-order, written-order}

pub count-cons : {X : Type 0} (f : X → Bool) (x : X) (xs : List X) → count_by f (x ∷ xs) ≡ cond (f x) 1 0 + count_by f xs
count-cons f x xs = sum_by-cons (λ y. cond (f y) 1 0) x xs

module _ {X : Type 0} (f from at : X → Bool) where
  pub count-new : (xs : List X) (y : X) → found from at xs ≡ None → count_by f (edited from at xs (y ∷ [])) ≡ count_by f xs + count_by f (y ∷ [])
  count-new [] y e = omega arith
  count-new (x ∷ xs) y e = go (from x) (at x) (count-new xs y) e
    where
      go : (b a : Bool) → (found from at xs ≡ None → count_by f (edited from at xs (y ∷ [])) ≡ count_by f xs + count_by f (y ∷ []))
          → cond b (cond a (Some x) None) (found from at xs) ≡ None
          → count_by f (cond b ((y ∷ []) ++ cond a xs (x ∷ xs)) (x ∷ edited from at xs (y ∷ []))) ≡ count_by f (x ∷ xs) + count_by f (y ∷ [])
      go true true rest e = absurd (cc)
      go true false rest e = let p = count-cons f y (x ∷ xs) in let q = count-cons f y [] in omega arith
      go false a rest e =
          let r = rest e in
          let p = count-cons f x (edited from at xs (y ∷ [])) in
          let q = count-cons f x xs in omega arith

  pub count-over : (xs : List X) (x y : X) → found from at xs ≡ Some x → f x ≡ f y → count_by f (edited from at xs (y ∷ [])) ≡ count_by f xs
  count-over [] x y e same = absurd (cc)
  count-over (z ∷ zs) x y e same = go (from z) (at z) (λ later. count-over zs x y later same) e
    where
      go : (b a : Bool) → (found from at zs ≡ Some x → count_by f (edited from at zs (y ∷ [])) ≡ count_by f zs)
          → cond b (cond a (Some z) None) (found from at zs) ≡ Some x
          → count_by f (cond b ((y ∷ []) ++ cond a zs (z ∷ zs)) (z ∷ edited from at zs (y ∷ []))) ≡ count_by f (z ∷ zs)
      go true true rest e =
          let is : z ≡ x = cc in
          count-cons f y zs ∙ (ap (λ (b : Bool). cond b 1 0 + count_by f zs) (sym (ap f is ∙ same)) ∙ sym (count-cons f z zs))
      go true false rest e = absurd (cc)
      go false a rest e = count-cons f z (edited from at zs (y ∷ [])) ∙ (ap (λ (k : ℕ). cond (f z) 1 0 + k) (rest e) ∙ sym (count-cons f z zs))

  pub count-out : (xs : List X) (x : X) → found from at xs ≡ Some x → count_by f (edited from at xs []) + count_by f (x ∷ []) ≡ count_by f xs
  count-out [] x e = absurd (cc)
  count-out (z ∷ zs) x e = go (from z) (at z) (count-out zs x) e
    where
      go : (b a : Bool) → (found from at zs ≡ Some x → count_by f (edited from at zs []) + count_by f (x ∷ []) ≡ count_by f zs)
          → cond b (cond a (Some z) None) (found from at zs) ≡ Some x
          → count_by f (cond b ([] ++ cond a zs (z ∷ zs)) (z ∷ edited from at zs [])) + count_by f (x ∷ []) ≡ count_by f (z ∷ zs)
      go true true rest e =
          let is : z ≡ x = cc in
          let p = count-cons f z zs in
          let q = count-cons f z [] in
          let r : count_by f (z ∷ []) ≡ count_by f (x ∷ []) = ap (λ (y : X). count_by f (y ∷ [])) is in
          let all : count_by f zs + count_by f (x ∷ []) ≡ count_by f (z ∷ zs) = omega arith in all
      go true false rest e = absurd (cc)
      go false a rest e =
          let r = rest e in
          let p = count-cons f z (edited from at zs []) in
          let q = count-cons f z zs in omega arith

pub count-all : {X : Type 0} (xs : List X) → count_by (λ (x : X). true) xs ≡ length xs
count-all [] = refl
count-all (x ∷ xs) = let p = count-cons (λ y. true) x xs in let rest = count-all xs in omega arith

count-itself : (t : ℕ) (place : Place) → place.table ≡ t → count_by (place_of t) (place ∷ []) ≡ 1
count-itself t place e =
    let is : place_of t place ≡ true = grind (arith, common_steps) in
    let p = count-first (place_of t) place [] is in omega arith

count-elsewhere : (t : ℕ) (place : Place) → place.table ≢ t → count_by (place_of t) (place ∷ []) ≡ 0
count-elsewhere t place ne =
    let is : place_of t place ≡ false = grind (arith, common_steps) in
    let p = count-none (place_of t) place [] is in omega arith

-- the counts after one of them changes
pub counted-set : (counts counts' : List ℕ) (t v : ℕ) (places places' : List Place) → IsCount counts places → counts' ≡ set counts t v
    → (t < length counts → v ≡ count_by (place_of t) places') → (length counts ≤ t → count_by (place_of t) places' ≡ 0)
    → ((u : ℕ) → u ≢ t → count_by (place_of u) places' ≡ count_by (place_of u) places) → IsCount counts' places'
counted-set counts counts' t v places places' counted is here past others u = ap (λ (cs : List ℕ). get_or cs u 0) is ∙ go (eqb u t) refl
  where
    at : (b : Bool) → nat_lt t (length counts) ≡ b → get_or (set counts t v) t 0 ≡ count_by (place_of t) places'
    at true e = let within : t < length counts = grind (arith, nat_tests) in get_or-set_same counts t v 0 within ∙ here within
    at false e =
        let over : length counts ≤ t = grind (arith, nat_tests) in
        let len : length (set counts t v) ≤ t = omega (arith, length-set counts t v, over) in
        get_or_past (set counts t v) t 0 len ∙ sym (past over)

    go : (b : Bool) → eqb u t ≡ b → get_or (set counts t v) u 0 ≡ count_by (place_of u) places'
    go true e =
        let same : u ≡ t = grind (arith, nat_tests) in
        subst (λ (x : ℕ). get_or (set counts t v) x 0 ≡ count_by (place_of x) places') (sym same) (at (nat_lt t (length counts)) refl)
    go false e = let other : u ≢ t = grind (arith, nat_tests) in get_or-set_other counts t u v 0 other ∙ (counted u ∙ sym (others u other))

module _ (blocks fresh : List (List Place)) (len room : ℕ) (counts : List ℕ) (housed : Housed blocks fresh len room counts) where
  -- no more are counted than there are
  pub count-most : (t : ℕ) → get_or counts t 0 ≤ len
  count-most t =
      let counted = housed.counted t in
      let most = count_by-le-length (place_of t) (joined blocks) in
      let is = housed.len_is in omega arith

  pub housed-over : (blocks' : List (List Place)) (place : Place) → IsSome (place_in place.table place.number (joined blocks))
      → joined blocks' ≡ edited (place_from place.table place.number) (place_at place.table place.number) (joined blocks) (place ∷ [])
      → 0 < length blocks' → is_filled blocks' ≡ true → all_excess blocks' ≡ all_excess blocks → Housed blocks' fresh len room counts
  housed-over blocks' place there is some filled excess = go (place_in place.table place.number (joined blocks)) refl there
    where
      go : (o : Option Place) → place_in place.table place.number (joined blocks) ≡ o → IsSome o → Housed blocks' fresh len room counts
      go None e h = absurd (cc)
      go (Some old) e h = record {
        some = some;
        order = ap in_order is ∙ written-order place.table place.number place refl refl (joined blocks) housed.order;
        filled = filled;
        vacant = housed.vacant;
        paid = let paid = housed.paid in omega arith;
        numbered = ap (list_all place_numbered) is ∙ all_edited place_numbered (place_from place.table place.number) (place_at place.table place.number) (joined blocks) (place ∷ []) housed.numbered (rw numbered refl);
        len_is =
            housed.len_is
            ∙ (sym (count-all (joined blocks))
            ∙ (sym (count-over (λ (p : Place). true) (place_from place.table place.number) (place_at place.table place.number) (joined blocks) old place e refl)
            ∙ (count-all (edited (place_from place.table place.number) (place_at place.table place.number) (joined blocks) (place ∷ [])) ∙ ap length (sym is))));
        bounded = housed.bounded;
        counted = λ u.
            housed.counted u
            ∙ (sym (count-over (place_of u) (place_from place.table place.number) (place_at place.table place.number) (joined blocks) old place e (ap (λ (t : ℕ). t == u) (found-table place.table place.number (joined blocks) old e)))
            ∙ ap (count_by (place_of u)) (sym is));
      }
        where
          numbered : place_numbered place ≡ true
          numbered =
              ap (nat_le 1) (sym (found-number place.table place.number (joined blocks) old e))
              ∙ found_passes place_numbered (place_from place.table place.number) (place_at place.table place.number) (joined blocks) old housed.numbered e

  pub housed-new : (blocks' fresh' : List (List Place)) (counts' : List ℕ) (place : Place) → place_in place.table place.number (joined blocks) ≡ None
      → joined blocks' ≡ edited (place_from place.table place.number) (place_at place.table place.number) (joined blocks) (place ∷ [])
      → 0 < length blocks' → is_filled blocks' ≡ true → list_all has_none fresh' ≡ true
      → all_excess blocks' + 128 * length fresh ≤ all_excess blocks + 128 * length fresh' + 1
      → 0 < room → 1 ≤ place.number.0 → place.table < length counts → counts' ≡ set counts place.table (get_or counts place.table 0 + 1)
      → Housed blocks' fresh' (len + 1) (room - 1) counts'
  housed-new blocks' fresh' counts' place none is some filled vacant paid left least within counts_is = record {
    some = some;
    order = ap in_order is ∙ written-order place.table place.number place refl refl (joined blocks) housed.order;
    filled = filled;
    vacant = vacant;
    paid = let before = housed.paid in omega arith;
    numbered = ap (list_all place_numbered) is ∙ all_edited place_numbered (place_from place.table place.number) (place_at place.table place.number) (joined blocks) (place ∷ []) housed.numbered (rw numbered refl);
    len_is =
        let more = count-new (λ (p : Place). true) (place_from place.table place.number) (place_at place.table place.number) (joined blocks) place none in
        let all = count-all (joined blocks) in
        let one = count-all (place ∷ []) in
        let all' = count-all (edited (place_from place.table place.number) (place_at place.table place.number) (joined blocks) (place ∷ [])) in
        let kept = ap length is in
        let before = housed.len_is in omega arith;
    bounded = let before = housed.bounded in omega arith;
    counted = counted-set counts counts' place.table (get_or counts place.table 0 + 1) (joined blocks) (joined blocks') housed.counted counts_is
        (λ inside.
        let before = housed.counted place.table in
        let more = counts-more place.table in
        let one = count-itself place.table place refl in omega arith)
        (λ past. absurd (omega arith))
        (λ u other.
        let more = counts-more u in
        let none = count-elsewhere u place (λ e. other (sym e)) in omega arith);
  }
    where
      numbered : place_numbered place ≡ true
      numbered = grind (arith, nat_tests)

      counts-more : (u : ℕ) → count_by (place_of u) (joined blocks') ≡ count_by (place_of u) (joined blocks) + count_by (place_of u) (place ∷ [])
      counts-more u = ap (count_by (place_of u)) is ∙ count-new (place_of u) (place_from place.table place.number) (place_at place.table place.number) (joined blocks) place none

  pub housed-out : (blocks' : List (List Place)) (counts' : List ℕ) (table : ℕ) (number : RowNo) → IsSome (place_in table number (joined blocks))
      → joined blocks' ≡ edited (place_from table number) (place_at table number) (joined blocks) []
      → 0 < length blocks' → is_filled blocks' ≡ true → all_excess blocks' ≤ all_excess blocks
      → counts' ≡ set counts table (get_or counts table 0 - 1) → Housed blocks' fresh (len - 1) room counts'
  housed-out blocks' counts' table number there is some filled excess counts_is = go (place_in table number (joined blocks)) refl there
    where
      go : (o : Option Place) → place_in table number (joined blocks) ≡ o → IsSome o → Housed blocks' fresh (len - 1) room counts'
      go None e h = absurd (cc)
      go (Some old) e h = record {
        some = some;
        order = ap in_order is ∙ gone-order table number (joined blocks) housed.order;
        filled = filled;
        vacant = housed.vacant;
        paid = let paid = housed.paid in omega arith;
        numbered = ap (list_all place_numbered) is ∙ all_edited place_numbered (place_from table number) (place_at table number) (joined blocks) [] housed.numbered refl;
        len_is =
            let less = count-out (λ (p : Place). true) (place_from table number) (place_at table number) (joined blocks) old e in
            let all = count-all (joined blocks) in
            let one = count-all (old ∷ []) in
            let all' = count-all (edited (place_from table number) (place_at table number) (joined blocks) []) in
            let kept = ap length is in
            let before = housed.len_is in omega arith;
        bounded = let before = housed.bounded in omega arith;
        counted = counted-set counts counts' table (get_or counts table 0 - 1) (joined blocks) (joined blocks') housed.counted counts_is
            (λ inside.
            let before = housed.counted table in
            let less = counts-less table in
            let one = count-itself table old (found-table table number (joined blocks) old e) in omega arith)
            (λ past.
            let none : get_or counts table 0 ≡ 0 = get_or_past counts table 0 past in
            let before = housed.counted table in
            let less = counts-less table in
            let one = count-itself table old (found-table table number (joined blocks) old e) in absurd (omega arith))
            (λ u other.
            let less = counts-less u in
            let none = count-elsewhere u old (λ q. other (sym q ∙ found-table table number (joined blocks) old e)) in omega arith);
      }
        where
          counts-less : (u : ℕ) → count_by (place_of u) (joined blocks') + count_by (place_of u) (old ∷ []) ≡ count_by (place_of u) (joined blocks)
          counts-less u = ap (λ (ps : List Place). count_by (place_of u) ps + count_by (place_of u) (old ∷ [])) is ∙ count-out (place_of u) (place_from table number) (place_at table number) (joined blocks) old e

  -- there is a place to take away
  pub some-there : (table : ℕ) (number : RowNo) → IsSome (place_in table number (joined blocks)) → 1 ≤ len
  some-there table number there = go (joined blocks) refl there
    where
      go : (ps : List Place) → joined blocks ≡ ps → IsSome (place_in table number ps) → 1 ≤ len
      go [] e h = absurd (cc)
      go (p ∷ ps) e h = let is = housed.len_is ∙ ap length e in omega arith

  pub housed-elsewhere : (blocks' : List (List Place)) (counts' : List ℕ) (table : ℕ) → joined blocks' ≡ filter (place_elsewhere table) (joined blocks)
      → 0 < length blocks' → is_filled blocks' ≡ true → all_excess blocks' ≤ all_excess blocks → counts' ≡ set counts table 0
      → Housed blocks' fresh (len - get_or counts table 0) room counts'
  housed-elsewhere blocks' counts' table is some filled excess counts_is = record {
    some = some;
    order = ap in_order is ∙ order-filter (place_elsewhere table) (joined blocks) housed.order;
    filled = filled;
    vacant = housed.vacant;
    paid = let paid = housed.paid in omega arith;
    numbered = ap (list_all place_numbered) is ∙ all-filter place_numbered (place_elsewhere table) (joined blocks) housed.numbered;
    len_is =
        let parts = filter-parts table (joined blocks) in
        let counted = housed.counted table in
        let kept = ap length is in
        let before = housed.len_is in omega arith;
    bounded = let before = housed.bounded in omega arith;
    counted = counted-set counts counts' table 0 (joined blocks) (joined blocks') housed.counted counts_is
        (λ inside. sym (ap (count_by (place_of table)) is ∙ filter-none table (joined blocks)))
        (λ past. ap (count_by (place_of table)) is ∙ filter-none table (joined blocks))
        (λ u other. ap (count_by (place_of u)) is ∙ filter-other table u other (joined blocks));
  }
    where
      filter-parts : (t : ℕ) (ps : List Place) → length (filter (place_elsewhere t) ps) + count_by (place_of t) ps ≡ length ps
      filter-parts t [] = refl
      filter-parts t (p ∷ ps) = step (place_of t p) refl (filter-parts t ps)
        where
          step : (b : Bool) → place_of t p ≡ b → length (filter (place_elsewhere t) ps) + count_by (place_of t) ps ≡ length ps
              → length (filter (place_elsewhere t) (p ∷ ps)) + count_by (place_of t) (p ∷ ps) ≡ length (p ∷ ps)
          step true e rest =
              let q = count-first (place_of t) p ps e in
              let gone : filter (place_elsewhere t) (p ∷ ps) ≡ filter (place_elsewhere t) ps = rw e refl in
              let len = ap length gone in omega arith
          step false e rest =
              let q = count-none (place_of t) p ps e in
              let kept : filter (place_elsewhere t) (p ∷ ps) ≡ p ∷ filter (place_elsewhere t) ps = rw e refl in
              let len = ap length kept in omega arith

      filter-none : (t : ℕ) (ps : List Place) → count_by (place_of t) (filter (place_elsewhere t) ps) ≡ 0
      filter-none t [] = refl
      filter-none t (p ∷ ps) = step (place_of t p) refl (filter-none t ps)
        where
          step : (b : Bool) → place_of t p ≡ b → count_by (place_of t) (filter (place_elsewhere t) ps) ≡ 0 → count_by (place_of t) (filter (place_elsewhere t) (p ∷ ps)) ≡ 0
          step true e rest = rw e rest
          step false e rest =
              let q = count-none (place_of t) p (filter (place_elsewhere t) ps) e in
              let kept : filter (place_elsewhere t) (p ∷ ps) ≡ p ∷ filter (place_elsewhere t) ps = rw e refl in
              let same = ap (count_by (place_of t)) kept in omega arith

      filter-other : (t u : ℕ) → u ≢ t → (ps : List Place) → count_by (place_of u) (filter (place_elsewhere t) ps) ≡ count_by (place_of u) ps
      filter-other t u other [] = refl
      filter-other t u other (p ∷ ps) = step (place_of t p) refl (filter-other t u other ps)
        where
          step : (b : Bool) → place_of t p ≡ b → count_by (place_of u) (filter (place_elsewhere t) ps) ≡ count_by (place_of u) ps
              → count_by (place_of u) (filter (place_elsewhere t) (p ∷ ps)) ≡ count_by (place_of u) (p ∷ ps)
          step true e rest =
              let gone : filter (place_elsewhere t) (p ∷ ps) ≡ filter (place_elsewhere t) ps = rw e refl in
              let here : p.table ≡ t = grind (arith, nat_tests) in
              let no : place_of u p ≡ false = apart (place_of u p) refl here in
              let q = count-none (place_of u) p ps no in
              let same = ap (count_by (place_of u)) gone in omega arith
            where
              apart : (c : Bool) → place_of u p ≡ c → p.table ≡ t → place_of u p ≡ false
              apart false d here = d
              apart true d here = let there : p.table ≡ u = grind (arith, nat_tests) in absurd (other (sym there ∙ here))
          step false e rest =
              let kept : filter (place_elsewhere t) (p ∷ ps) ≡ p ∷ filter (place_elsewhere t) ps = rw e refl in
              ap (count_by (place_of u)) kept
              ∙ (count-cons (place_of u) p (filter (place_elsewhere t) ps) ∙ (ap (λ (k : ℕ). cond (place_of u p) 1 0 + k) rest ∙ sym (count-cons (place_of u) p ps)))

pub is-none : {X : Type 0} (o : Option X) → IsNone o → o ≡ None
is-none None h = refl
is-none (Some x) h = absurd (cc)

-- blocks as they begin
pub housed-first : (blocks : List (List Place)) → blocks ≡ [] ∷ [] → Housed blocks [] 0 0 []
housed-first blocks is = subst (λ (bs : List (List Place)). Housed bs [] 0 0 []) (sym is) (record {
  some = omega arith;
  order = refl;
  filled = refl;
  vacant = refl;
  paid = omega arith;
  numbered = refl;
  len_is = refl;
  bounded = omega arith;
  counted = λ t. get_or_past [] t 0 (omega arith);
})

-- more room, paid for by blocks without places
pub housed-room : (blocks fresh fresh' : List (List Place)) (len room room' : ℕ) (counts : List ℕ) → Housed blocks fresh len room counts
    → list_all has_none fresh' ≡ true → room' + all_excess blocks ≤ 128 * length fresh' → len + room' < 2 ^ 32 → Housed blocks fresh' len room' counts
housed-room blocks fresh fresh' len room room' counts housed vacant paid bounded = record {
  some = housed.some;
  order = housed.order;
  filled = housed.filled;
  vacant = vacant;
  paid = paid;
  numbered = housed.numbered;
  len_is = housed.len_is;
  bounded = bounded;
  counted = housed.counted;
}

pub housed-counts : (blocks fresh : List (List Place)) (len room : ℕ) (counts counts' : List ℕ) → Housed blocks fresh len room counts
    → ((t : ℕ) → get_or counts' t 0 ≡ get_or counts t 0) → Housed blocks fresh len room counts'
housed-counts blocks fresh len room counts counts' housed same = record {
  some = housed.some;
  order = housed.order;
  filled = housed.filled;
  vacant = housed.vacant;
  paid = housed.paid;
  numbered = housed.numbered;
  len_is = housed.len_is;
  bounded = housed.bounded;
  counted = λ t. same t ∙ housed.counted t;
}

-- a client's place of a row, put where it belongs
pub own-written : (table : ℕ) (number : RowNo) (by : ClientNo) (slot settled : Option ℕ) (places : List Place) (place : Place)
    → place ≡ (record { table = table; number = number; settled = settled; owner = Some by; newest = slot }) → settled_slot table number places ≡ settled
    → edited (place_from place.table place.number) (place_at place.table place.number) places (place ∷ []) ≡ with_place table number by slot places
unfolding with_place
own-written table number by slot settled places place is was =
    ap (λ (p : Place). edited (place_from p.table p.number) (place_at p.table p.number) places (p ∷ [])) is
    ∙ ap (λ (s : Option ℕ). edited (place_from table number) (place_at table number) places ((record { table = table; number = number; settled = s; owner = Some by; newest = slot }) ∷ [])) (sym was)

pub push-zero : (xs : List ℕ) (t : ℕ) → get_or (xs ++ 0 ∷ []) t 0 ≡ get_or xs t 0
push-zero [] zero = refl
push-zero [] (suc t) = refl
push-zero (x ∷ xs) zero = refl
push-zero (x ∷ xs) (suc t) = push-zero xs t
