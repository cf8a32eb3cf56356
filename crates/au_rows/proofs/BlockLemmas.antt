-- Blocks one behind the other: where a row stands, and what an edit of one block makes of all places.
use Rattle.std.proofs.Common.{◌≡◌, ◌∙◌, ℕ, zero, suc, ◌+◌, ◌-◌, ◌<◌, ◌≤◌, Bool, true, false, cond, not, ◌&&◌, List, [], ◌∷◌, ◌++◌, filter, length, get_or, set, take, drop, refl, sym, ap, ap₂, arith, Option, Some, None, append_assoc, append-nil, drop-cons, length-drop, take-append-drop, eqb, get_or-take, length-append, length-take}
use Rattle.std.specs.Prelude.{insert, remove}
use Rattle.std.proofs.Math.Seq.{drop-append-add, take-append-add, take-suc-set}
use Rattle.std.specs.List.{list_all, position_or_len}
use Rattle.std.proofs.lemmas.Bool.{and_from, and_parts}
use Rattle.std.proofs.lemmas.Bool.Decides.{nat_tests}
use Rattle.std.proofs.lemmas.Grind.{common_steps}
use Rattle.std.proofs.lemmas.List.{drop-append-le, drop-set-lt, get_or-append-add, set_split}
use Rattle.std.proofs.lemmas.List.Elements.{filter-append}
use Rattle.std.proofs.lemmas.List.Folds.{list_all-append}
use Rattle.std.proofs.lemmas.List.Sums.{sum_by-append, sum_by-cons}
use Rattle.au_base.specs.declared.numbers.RowNo.{RowNo}
use Rattle.au_rows.specs.declared.place.Place.{Place}
use Rattle.au_rows.specs.Blocks.{IsHome, all_but, all_excess, excess, goes_past, has_none, has_places, is_filled, is_filled_but, joined, parted_at, place_earlier, place_past, starts_past}
use Rattle.au_rows.specs.Edits.{edited}
use Rattle.au_rows.specs.Kept.{place_at, place_from, place_in}
use Rattle.au_rows.specs.Order.{in_order, is_before}
use Rattle.au_rows.proofs.OrderLemmas.{all_at}

pub joined-append : (xs ys : List (List Place)) → joined (xs ++ ys) ≡ joined xs ++ joined ys
joined-append [] ys = refl
joined-append (x ∷ xs) ys = ap (λ (zs : List Place). x ++ zs) (joined-append xs ys) ∙ sym (append_assoc x (joined xs) (joined ys))

module _ (blocks : List (List Place)) (at : ℕ) (within : at < length blocks) where
  pub parted : blocks ≡ take at blocks ++ get_or blocks at [] ∷ drop (suc at) blocks
  parted = sym (take-append-drop at blocks) ∙ ap (λ (bs : List (List Place)). take at blocks ++ bs) (drop-cons blocks at [] within)

  -- all places are those in front of a block, its own, and those behind it
  pub joined-at : joined blocks ≡ joined (take at blocks) ++ (get_or blocks at [] ++ joined (drop (suc at) blocks))
  joined-at = ap joined parted ∙ joined-append (take at blocks) (get_or blocks at [] ∷ drop (suc at) blocks)

  pub joined-set : (block : List Place) → joined (set blocks at block) ≡ joined (take at blocks) ++ (block ++ joined (drop (suc at) blocks))
  joined-set block = ap joined (set_split blocks at block within) ∙ joined-append (take at blocks) (block ∷ drop (suc at) blocks)

  pub excess-at : all_excess blocks ≡ all_excess (take at blocks) + (excess (get_or blocks at []) + all_excess (drop (suc at) blocks))
  excess-at =
      ap all_excess parted
      ∙ (sum_by-append excess (take at blocks) (get_or blocks at [] ∷ drop (suc at) blocks)
      ∙ ap (λ (n : ℕ). all_excess (take at blocks) + n) (sum_by-cons excess (get_or blocks at []) (drop (suc at) blocks)))

  pub excess-set : (block : List Place) → all_excess (set blocks at block) ≡ all_excess (take at blocks) + (excess block + all_excess (drop (suc at) blocks))
  excess-set block =
      ap all_excess (set_split blocks at block within)
      ∙ (sum_by-append excess (take at blocks) (block ∷ drop (suc at) blocks)
      ∙ ap (λ (n : ℕ). all_excess (take at blocks) + n) (sum_by-cons excess block (drop (suc at) blocks)))

  -- a block that is set, and another one behind it
  pub set-insert : (lower upper : List Place) → insert (set blocks at lower) (suc at) upper ≡ take at blocks ++ lower ∷ upper ∷ drop (suc at) blocks
  set-insert lower upper =
      ap₂ (λ (front back : List (List Place)). front ++ upper ∷ back) (take-suc-set blocks at lower within) (drop-set-lt (suc at) blocks at lower (omega arith))
      ∙ append_assoc (take at blocks) (lower ∷ []) (upper ∷ drop (suc at) blocks)

pub order-front : (xs ys : List Place) → in_order (xs ++ ys) ≡ true → in_order xs ≡ true
order-front [] ys o = refl
order-front (x ∷ xs) ys o =
    let parts = and_parts (list_all (is_before x) (xs ++ ys)) (in_order (xs ++ ys)) o in
    let both : (list_all (is_before x) xs && list_all (is_before x) ys) ≡ true = sym (list_all-append (is_before x) xs ys) ∙ parts.0 in
    and_from (list_all (is_before x) xs) (in_order xs) (and_parts (list_all (is_before x) xs) (list_all (is_before x) ys) both).0 (order-front xs ys parts.1)

pub order-back : (xs ys : List Place) → in_order (xs ++ ys) ≡ true → in_order ys ≡ true
order-back [] ys o = o
order-back (x ∷ xs) ys o = order-back xs ys (and_parts (list_all (is_before x) (xs ++ ys)) (in_order (xs ++ ys)) o).1

-- each block's places are in order
pub order-at : (blocks : List (List Place)) (at : ℕ) → at < length blocks → in_order (joined blocks) ≡ true → in_order (get_or blocks at []) ≡ true
order-at blocks at within o =
    order-front (get_or blocks at []) (joined (drop (suc at) blocks))
    (order-back (joined (take at blocks)) (get_or blocks at [] ++ joined (drop (suc at) blocks)) (ap in_order (sym (joined-at blocks at within)) ∙ o))

pub some-places : (block : List Place) → has_places block ≡ true → (y : Place) × (ys : List Place) × (block ≡ y ∷ ys)
some-places [] h = absurd (cc)
some-places (y ∷ ys) h = (y, ys, refl)

pub has-length : (block : List Place) → 0 < length block → has_places block ≡ true
has-length [] h = absurd (omega arith)
has-length (y ∷ ys) h = refl

-- a block that isn't the first has places
pub filled-at : (blocks : List (List Place)) (at : ℕ) → is_filled blocks ≡ true → 0 < at → at < length blocks → has_places (get_or blocks at []) ≡ true
filled-at [] at f some within = absurd (omega arith)
filled-at (b ∷ bs) zero f some within = absurd (omega arith)
filled-at (b ∷ bs) (suc at) f some within = all_at has_places bs at [] (omega arith) f

module _ (t : ℕ) (n : RowNo) where
  one-earlier : (x y : Place) → is_before x y ≡ true → place_past t n y ≡ false → place_earlier t n x ≡ true
  one-earlier x y b p = grind (arith, common_steps)

  one-past : (x y : Place) → is_before x y ≡ true → place_past t n x ≡ true → place_past t n y ≡ true
  one-past x y b p = grind (arith, common_steps)

  past-from : (x : Place) → place_past t n x ≡ true → place_from t n x ≡ true
  past-from x p = grind (arith, common_steps)

  past-at : (x : Place) → place_past t n x ≡ true → place_at t n x ≡ false
  past-at x p = grind (arith, common_steps)

  pub earlier-from : (x : Place) → place_earlier t n x ≡ true → place_from t n x ≡ false
  earlier-from x e = grind (arith, common_steps)

  -- what stands in front of a place that isn't of a later row is of earlier rows
  pub all-earlier : (xs : List Place) (y : Place) (ys : List Place) → in_order (xs ++ y ∷ ys) ≡ true → place_past t n y ≡ false → list_all (place_earlier t n) xs ≡ true
  all-earlier [] y ys o p = refl
  all-earlier (x ∷ xs) y ys o p =
      let parts = and_parts (list_all (is_before x) (xs ++ y ∷ ys)) (in_order (xs ++ y ∷ ys)) o in
      let both : (list_all (is_before x) xs && list_all (is_before x) (y ∷ ys)) ≡ true = sym (list_all-append (is_before x) xs (y ∷ ys)) ∙ parts.0 in
      let behind : list_all (is_before x) (y ∷ ys) ≡ true = (and_parts (list_all (is_before x) xs) (list_all (is_before x) (y ∷ ys)) both).1 in
      let here : is_before x y ≡ true = (and_parts (is_before x y) (list_all (is_before x) ys) behind).0 in
      and_from (place_earlier t n x) (list_all (place_earlier t n) xs) (one-earlier x y here p) (all-earlier xs y ys parts.1 p)

  -- behind a block that starts with a later row come later rows
  pub past-behind : (block places : List Place) → in_order (block ++ places) ≡ true → starts_past t n block ≡ true → goes_past t n places ≡ true
  past-behind [] places o p = absurd (cc)
  past-behind (x ∷ xs) [] o p = refl
  past-behind (x ∷ xs) (y ∷ ys) o p =
      let parts = and_parts (list_all (is_before x) (xs ++ y ∷ ys)) (in_order (xs ++ y ∷ ys)) o in
      let both : (list_all (is_before x) xs && list_all (is_before x) (y ∷ ys)) ≡ true = sym (list_all-append (is_before x) xs (y ∷ ys)) ∙ parts.0 in
      let behind : list_all (is_before x) (y ∷ ys) ≡ true = (and_parts (list_all (is_before x) xs) (list_all (is_before x) (y ∷ ys)) both).1 in
      let here : is_before x y ≡ true = (and_parts (is_before x y) (list_all (is_before x) ys) behind).0 in
      one-past x y here p

  starts-goes : (block places : List Place) → starts_past t n block ≡ true → goes_past t n (block ++ places) ≡ true
  starts-goes [] places p = absurd (cc)
  starts-goes (x ∷ xs) places p = p

  pub not-past : (block : List Place) (y : Place) (ys : List Place) → block ≡ y ∷ ys → starts_past t n block ≡ false → place_past t n y ≡ false
  not-past block y ys is p = ap (starts_past t n) (sym is) ∙ p

  pub front-earlier : (blocks : List (List Place)) (at : ℕ) → at < length blocks → in_order (joined blocks) ≡ true → is_filled blocks ≡ true
      → starts_past t n (get_or blocks at []) ≡ false → list_all (place_earlier t n) (joined (take at blocks)) ≡ true
  front-earlier blocks zero within o f p = refl
  front-earlier blocks (suc at) within o f p =
      let some = some-places (get_or blocks (suc at) []) (filled-at blocks (suc at) f (omega arith) within) in
      let parts : joined blocks ≡ joined (take (suc at) blocks) ++ (some.0 ∷ (some.1 ++ joined (drop (suc (suc at)) blocks))) =
      joined-at blocks (suc at) within ∙ ap (λ (block : List Place). joined (take (suc at) blocks) ++ (block ++ joined (drop (suc (suc at)) blocks))) some.2 in
      all-earlier (joined (take (suc at) blocks)) some.0 (some.1 ++ joined (drop (suc (suc at)) blocks)) (ap in_order (sym parts) ∙ o)
      (not-past (get_or blocks (suc at) []) some.0 some.1 some.2 p)

  -- no block starts with a later row but those behind the first
  pub home-first : (blocks : List (List Place)) → 0 < length blocks → in_order (joined blocks) ≡ true → starts_past t n (get_or blocks 0 []) ≡ true → IsHome t n blocks 0
  home-first [] within o p = absurd (omega arith)
  home-first (b ∷ bs) within o p = record { within = within; before = refl; behind = past-behind b (joined bs) o p }

  -- the block at the index is the last that doesn't start with a later row
  pub home-behind : (blocks : List (List Place)) (at : ℕ) → at < length blocks → in_order (joined blocks) ≡ true → is_filled blocks ≡ true
      → starts_past t n (get_or blocks at []) ≡ false → (suc at < length blocks → starts_past t n (get_or blocks (suc at) []) ≡ true) → IsHome t n blocks at
  home-behind blocks at within o f p later = record {
    within = within;
    before = front-earlier blocks at within o f p;
    behind = by_next (drop (suc at) blocks) refl;
  }
    where
      by_next : (rest : List (List Place)) → drop (suc at) blocks ≡ rest → goes_past t n (joined (drop (suc at) blocks)) ≡ true
      by_next [] e = ap (λ (bs : List (List Place)). goes_past t n (joined bs)) e
      by_next (b ∷ bs) e =
          let len : length (drop (suc at) blocks) ≡ length blocks - suc at = length-drop (suc at) blocks in
          let one : length (drop (suc at) blocks) ≡ suc (length bs) = ap length e in
          let more : suc at < length blocks = omega arith in
          let parts : drop (suc at) blocks ≡ get_or blocks (suc at) [] ∷ drop (suc (suc at)) blocks = drop-cons blocks (suc at) [] more in
          ap (λ (ys : List (List Place)). goes_past t n (joined ys)) parts
          ∙ starts-goes (get_or blocks (suc at) []) (joined (drop (suc (suc at)) blocks)) (later more)

  found-behind : (xs ys : List Place) → list_all (place_earlier t n) xs ≡ true → place_in t n (xs ++ ys) ≡ place_in t n ys
  found-behind [] ys e = refl
  found-behind (x ∷ xs) ys e =
      let parts = and_parts (place_earlier t n x) (list_all (place_earlier t n) xs) e in
      rw (earlier-from x parts.0) (found-behind xs ys parts.1)

  found-front : (xs ys : List Place) → goes_past t n ys ≡ true → place_in t n (xs ++ ys) ≡ place_in t n xs
  found-front [] [] p = refl
  found-front [] (y ∷ ys) p = rw (past-from y p, past-at y p) refl
  found-front (x ∷ xs) ys p = ap (λ (o : Option Place). cond (place_from t n x) (cond (place_at t n x) (Some x) None) o) (found-front xs ys p)

  -- the row is found in its block
  pub found-home : (blocks : List (List Place)) (at : ℕ) → IsHome t n blocks at → place_in t n (joined blocks) ≡ place_in t n (get_or blocks at [])
  found-home blocks at home =
      ap (place_in t n) (joined-at blocks at home.within)
      ∙ (found-behind (joined (take at blocks)) (get_or blocks at [] ++ joined (drop (suc at) blocks)) home.before
      ∙ found-front (get_or blocks at []) (joined (drop (suc at) blocks)) home.behind)

  module _ (new : List Place) where
    edited-behind : (xs ys : List Place) → list_all (place_earlier t n) xs ≡ true → edited (place_from t n) (place_at t n) (xs ++ ys) new ≡ xs ++ edited (place_from t n) (place_at t n) ys new
    edited-behind [] ys e = refl
    edited-behind (x ∷ xs) ys e =
        let parts = and_parts (place_earlier t n x) (list_all (place_earlier t n) xs) e in
        rw (earlier-from x parts.0) (ap (λ (zs : List Place). x ∷ zs) (edited-behind xs ys parts.1))

    edited-front : (xs ys : List Place) → goes_past t n ys ≡ true → edited (place_from t n) (place_at t n) (xs ++ ys) new ≡ edited (place_from t n) (place_at t n) xs new ++ ys
    edited-front [] [] p = sym (append-nil new)
    edited-front [] (y ∷ ys) p = rw (past-from y p, past-at y p) refl
    edited-front (x ∷ xs) ys p = go (place_from t n x) (place_at t n x) (edited-front xs ys p)
      where
        go : (f a : Bool) → edited (place_from t n) (place_at t n) (xs ++ ys) new ≡ edited (place_from t n) (place_at t n) xs new ++ ys
            → cond f (new ++ cond a (xs ++ ys) (x ∷ (xs ++ ys))) (x ∷ edited (place_from t n) (place_at t n) (xs ++ ys) new)
            ≡ cond f (new ++ cond a xs (x ∷ xs)) (x ∷ edited (place_from t n) (place_at t n) xs new) ++ ys
        go true true rest = sym (append_assoc new xs ys)
        go true false rest = sym (append_assoc new (x ∷ xs) ys)
        go false a rest = ap (λ (zs : List Place). x ∷ zs) rest

    -- an edit of the row's block is an edit of all places
    pub edited-home : (blocks : List (List Place)) (at : ℕ) (block : List Place) → IsHome t n blocks at
        → block ≡ edited (place_from t n) (place_at t n) (get_or blocks at []) new
        → joined (set blocks at block) ≡ edited (place_from t n) (place_at t n) (joined blocks) new
    edited-home blocks at block home is =
        joined-set blocks at home.within block
        ∙ (ap (λ (b : List Place). joined (take at blocks) ++ (b ++ joined (drop (suc at) blocks))) is
        ∙ (ap (λ (zs : List Place). joined (take at blocks) ++ zs) (sym (edited-front (get_or blocks at []) (joined (drop (suc at) blocks)) home.behind))
        ∙ (sym (edited-behind (joined (take at blocks)) (get_or blocks at [] ++ joined (drop (suc at) blocks)) home.before)
        ∙ ap (λ (ps : List Place). edited (place_from t n) (place_at t n) ps new) (sym (joined-at blocks at home.within)))))

  position-behind : (xs ys : List Place) → list_all (place_earlier t n) xs ≡ true → position_or_len (place_from t n) (xs ++ ys) ≡ length xs + position_or_len (place_from t n) ys
  position-behind [] ys e = omega arith
  position-behind (x ∷ xs) ys e =
      let parts = and_parts (place_earlier t n x) (list_all (place_earlier t n) xs) e in
      let rest = position-behind xs ys parts.1 in
      rw (earlier-from x parts.0) (omega arith)

  position-front : (xs ys : List Place) → goes_past t n ys ≡ true → position_or_len (place_from t n) (xs ++ ys) ≡ position_or_len (place_from t n) xs
  position-front [] [] p = refl
  position-front [] (y ∷ ys) p = rw (past-from y p) refl
  position-front (x ∷ xs) ys p = ap (λ (k : ℕ). cond (not (place_from t n x)) (1 + k) 0) (position-front xs ys p)

  -- where the row stands among all places
  pub position-home : (blocks : List (List Place)) (at : ℕ) → IsHome t n blocks at
      → position_or_len (place_from t n) (joined blocks) ≡ length (joined (take at blocks)) + position_or_len (place_from t n) (get_or blocks at [])
  position-home blocks at home =
      ap (position_or_len (place_from t n)) (joined-at blocks at home.within)
      ∙ (position-behind (joined (take at blocks)) (get_or blocks at [] ++ joined (drop (suc at) blocks)) home.before
      ∙ ap (λ (k : ℕ). length (joined (take at blocks)) + k) (position-front (get_or blocks at []) (joined (drop (suc at) blocks)) home.behind))

  -- the places from the row on are those of its block, and the blocks behind
  pub drop-home : (blocks : List (List Place)) (at i : ℕ) → IsHome t n blocks at → i ≡ position_or_len (place_from t n) (get_or blocks at []) → i ≤ length (get_or blocks at [])
      → drop i (get_or blocks at []) ++ joined (drop (suc at) blocks) ≡ drop (position_or_len (place_from t n) (joined blocks)) (joined blocks)
  drop-home blocks at i home is le =
      let b = get_or blocks at [] in
      let back = joined (drop (suc at) blocks) in
      let front = joined (take at blocks) in
      let position : position_or_len (place_from t n) (joined blocks) ≡ length front + i = position-home blocks at home ∙ ap (λ (k : ℕ). length front + k) (sym is) in
      sym (ap₂ (λ (k : ℕ) (ps : List Place). drop k ps) position (joined-at blocks at home.within)
      ∙ (drop-append-add front (b ++ back) i ∙ drop-append-le i b back le))

-- an edit that puts a place in leaves a block with places
pub edited-some : {X : Type 0} (from at : X → Bool) (xs : List X) (y : X) → 0 < length (edited from at xs (y ∷ []))
edited-some from at [] y = omega arith
edited-some from at (x ∷ xs) y = go (from x) (at x)
  where
    go : (f a : Bool) → 0 < length (cond f ((y ∷ []) ++ cond a xs (x ∷ xs)) (x ∷ edited from at xs (y ∷ [])))
    go true true = omega arith
    go true false = omega arith
    go false a = omega arith

all-set : (xs : List (List Place)) (at : ℕ) (b : List Place) → has_places b ≡ true → list_all has_places xs ≡ true → list_all has_places (set xs at b) ≡ true
all-set [] at b h all = refl
all-set (x ∷ xs) zero b h all = and_from (has_places b) (list_all has_places xs) h (and_parts (has_places x) (list_all has_places xs) all).1
all-set (x ∷ xs) (suc at) b h all =
    let parts = and_parts (has_places x) (list_all has_places xs) all in
    and_from (has_places x) (list_all has_places (set xs at b)) parts.0 (all-set xs at b h parts.1)

pub filled-set : (blocks : List (List Place)) (at : ℕ) (b : List Place) → has_places b ≡ true → is_filled blocks ≡ true → is_filled (set blocks at b) ≡ true
filled-set [] at b h f = refl
filled-set (x ∷ xs) zero b h f = f
filled-set (x ∷ xs) (suc at) b h f = all-set xs at b h f

all-two : (xs ys : List (List Place)) (a b : List Place) → list_all has_places xs ≡ true → has_places a ≡ true → has_places b ≡ true → list_all has_places ys ≡ true
    → list_all has_places (xs ++ a ∷ b ∷ ys) ≡ true
all-two [] ys a b x h k y = and_from (has_places a) (has_places b && list_all has_places ys) h (and_from (has_places b) (list_all has_places ys) k y)
all-two (x ∷ xs) ys a b f h k y =
    let parts = and_parts (has_places x) (list_all has_places xs) f in
    and_from (has_places x) (list_all has_places (xs ++ a ∷ b ∷ ys)) parts.0 (all-two xs ys a b parts.1 h k y)

all-take : (xs : List (List Place)) (k : ℕ) → list_all has_places xs ≡ true → list_all has_places (take k xs) ≡ true
all-take [] zero f = refl
all-take [] (suc k) f = refl
all-take (x ∷ xs) zero f = refl
all-take (x ∷ xs) (suc k) f =
    let parts = and_parts (has_places x) (list_all has_places xs) f in
    and_from (has_places x) (list_all has_places (take k xs)) parts.0 (all-take xs k parts.1)

all-drop : (xs : List (List Place)) (k : ℕ) → list_all has_places xs ≡ true → list_all has_places (drop k xs) ≡ true
all-drop [] zero f = refl
all-drop [] (suc k) f = refl
all-drop (x ∷ xs) zero f = f
all-drop (x ∷ xs) (suc k) f = all-drop xs k (and_parts (has_places x) (list_all has_places xs) f).1

-- a block in two parts
pub filled-split : (blocks : List (List Place)) (at : ℕ) (a b : List Place) → at < length blocks → has_places a ≡ true → has_places b ≡ true → is_filled blocks ≡ true
    → is_filled (take at blocks ++ a ∷ b ∷ drop (suc at) blocks) ≡ true
filled-split [] at a b within h k f = absurd (omega arith)
filled-split (x ∷ xs) zero a b within h k f = and_from (has_places b) (list_all has_places xs) k f
filled-split (x ∷ xs) (suc at) a b within h k f = all-two (take at xs) (drop (suc at) xs) a b (all-take xs at f) h k (all-drop xs (suc at) f)

but-set : (xs : List (List Place)) (at : ℕ) (b : List Place) → list_all has_places xs ≡ true → all_but at (set xs at b) ≡ true
but-set [] at b all = refl
but-set (x ∷ xs) zero b all = (and_parts (has_places x) (list_all has_places xs) all).1
but-set (x ∷ xs) (suc at) b all =
    let parts = and_parts (has_places x) (list_all has_places xs) all in
    and_from (has_places x) (all_but at (set xs at b)) parts.0 (but-set xs at b parts.1)

pub filled-but-set : (blocks : List (List Place)) (at : ℕ) (b : List Place) → is_filled blocks ≡ true → is_filled_but at (set blocks at b) ≡ true
filled-but-set [] at b f = refl
filled-but-set (x ∷ xs) zero b f = f
filled-but-set (x ∷ xs) (suc at) b f = but-set xs at b f

but-all : (xs : List (List Place)) (at : ℕ) → at < length xs → all_but at xs ≡ true → has_places (get_or xs at []) ≡ true → list_all has_places xs ≡ true
but-all [] at within f h = absurd (omega arith)
but-all (x ∷ xs) zero within f h = and_from (has_places x) (list_all has_places xs) h f
but-all (x ∷ xs) (suc at) within f h =
    let parts = and_parts (has_places x) (all_but at xs) f in
    and_from (has_places x) (list_all has_places xs) parts.0 (but-all xs at (omega arith) parts.1 h)

pub filled-but-first : (blocks : List (List Place)) → is_filled_but 0 blocks ≡ true → is_filled blocks ≡ true
filled-but-first [] f = refl
filled-but-first (x ∷ xs) f = f

pub filled-but-some : (blocks : List (List Place)) (at : ℕ) → at < length blocks → is_filled_but at blocks ≡ true → has_places (get_or blocks at []) ≡ true → is_filled blocks ≡ true
filled-but-some [] at within f h = absurd (omega arith)
filled-but-some (x ∷ xs) zero within f h = f
filled-but-some (x ∷ xs) (suc at) within f h = but-all xs at (omega arith) f h

but-gone : (xs : List (List Place)) (at : ℕ) → all_but at xs ≡ true → list_all has_places (remove xs at) ≡ true
but-gone [] zero f = refl
but-gone [] (suc at) f = refl
but-gone (x ∷ xs) zero f = f
but-gone (x ∷ xs) (suc at) f =
    let parts = and_parts (has_places x) (all_but at xs) f in
    and_from (has_places x) (list_all has_places (remove xs at)) parts.0 (but-gone xs at parts.1)

pub filled-but-gone : (blocks : List (List Place)) (at : ℕ) → 0 < at → is_filled_but at blocks ≡ true → is_filled (remove blocks at) ≡ true
filled-but-gone blocks zero some f = absurd (omega arith)
filled-but-gone [] (suc at) some f = refl
filled-but-gone (x ∷ xs) (suc at) some f = but-gone xs at f

pub no-places : (block : List Place) → has_none block ≡ true → block ≡ []
no-places [] h = refl
no-places (y ∷ ys) h = absurd (cc)

module _ (t : ℕ) (n : RowNo) where
  earlier-past : (x : Place) → place_earlier t n x ≡ true → place_past t n x ≡ false
  earlier-past x e = grind (arith, common_steps)

  earlier-block : (block : List Place) → list_all (place_earlier t n) block ≡ true → starts_past t n block ≡ false
  earlier-block [] e = refl
  earlier-block (x ∷ xs) e = earlier-past x (and_parts (place_earlier t n x) (list_all (place_earlier t n) xs) e).0

  earlier-at : (blocks : List (List Place)) (k : ℕ) → list_all (place_earlier t n) (joined blocks) ≡ true → starts_past t n (get_or blocks k []) ≡ false
  earlier-at [] zero e = refl
  earlier-at [] (suc k) e = refl
  earlier-at (b ∷ bs) zero e = earlier-block b (and_parts (list_all (place_earlier t n) b) (list_all (place_earlier t n) (joined bs)) (sym (list_all-append (place_earlier t n) b (joined bs)) ∙ e)).0
  earlier-at (b ∷ bs) (suc k) e = earlier-at bs k (and_parts (list_all (place_earlier t n) b) (list_all (place_earlier t n) (joined bs)) (sym (list_all-append (place_earlier t n) b (joined bs)) ∙ e)).1

  -- blocks in front of one that doesn't start with a later row don't either
  pub before-block : (blocks : List (List Place)) (mid k : ℕ) → mid < length blocks → in_order (joined blocks) ≡ true → is_filled blocks ≡ true
      → starts_past t n (get_or blocks mid []) ≡ false → k ≤ mid → starts_past t n (get_or blocks k []) ≡ false
  before-block blocks mid k within o f p le = by_test (eqb k mid) refl
    where
      by_test : (b : Bool) → eqb k mid ≡ b → starts_past t n (get_or blocks k []) ≡ false
      by_test true e = let same : k ≡ mid = grind (arith, nat_tests) in ap (λ (i : ℕ). starts_past t n (get_or blocks i [])) same ∙ p
      by_test false e =
          let less : k < mid = grind (arith, nat_tests) in
          ap (starts_past t n) (sym (get_or-take mid blocks k [] less))
          ∙ earlier-at (take mid blocks) k (front-earlier t n blocks mid within o f p)

pub same-default : {X : Type 0} (xs : List X) (i : ℕ) (d e : X) → i < length xs → get_or xs i d ≡ get_or xs i e
same-default [] i d e within = absurd (omega arith)
same-default (x ∷ xs) zero d e within = refl
same-default (x ∷ xs) (suc i) d e within = same-default xs i d e (omega arith)

-- a full block in two parts
module _ (blocks : List (List Place)) (at : ℕ) (within : at < length blocks) (size : length (get_or blocks at []) ≡ 512) where
  abbrev front : List (List Place)
  front = take at blocks

  abbrev back : List (List Place)
  back = drop (suc at) blocks

  abbrev block : List Place
  block = get_or blocks at []

  abbrev lower : List Place
  lower = take 384 block

  abbrev upper : List Place
  upper = drop 384 block

  front-len : length front ≡ at
  front-len = length-take at blocks ∙ omega arith

  at-front : at ≡ length front + 0
  at-front = let len = front-len in omega arith

  behind-front : suc at ≡ length front + 1
  behind-front = let len = front-len in omega arith

  past-front : suc (suc at) ≡ length front + 2
  past-front = let len = front-len in omega arith

  lower-len : length lower ≡ 384
  lower-len = length-take 384 block ∙ omega (arith, size)

  upper-len : length upper ≡ 128
  upper-len = length-drop 384 block ∙ omega (arith, size)

  pub parted-len : length (parted_at at blocks) ≡ suc (length blocks)
  parted-len =
      let len = front-len in
      let all = length-append front (lower ∷ upper ∷ back) in
      let rest : length back ≡ length blocks - suc at = length-drop (suc at) blocks in
      let two : length (lower ∷ upper ∷ back) ≡ suc (suc (length back)) = refl in
      omega arith

  pub parted-upper : get_or (parted_at at blocks) (suc at) [] ≡ upper
  parted-upper = ap (λ (k : ℕ). get_or (parted_at at blocks) k []) behind-front ∙ get_or-append-add front (lower ∷ upper ∷ back) 1 []

  parted-lower : get_or (parted_at at blocks) at [] ≡ lower
  parted-lower = ap (λ (k : ℕ). get_or (parted_at at blocks) k []) at-front ∙ get_or-append-add front (lower ∷ upper ∷ back) 0 []

  parted-front : take at (parted_at at blocks) ≡ front
  parted-front = ap (λ (k : ℕ). take k (parted_at at blocks)) at-front ∙ (take-append-add front (lower ∷ upper ∷ back) 0 ∙ append-nil front)

  parted-first : take (suc at) (parted_at at blocks) ≡ front ++ lower ∷ []
  parted-first = ap (λ (k : ℕ). take k (parted_at at blocks)) behind-front ∙ take-append-add front (lower ∷ upper ∷ back) 1

  parted-rest : drop (suc at) (parted_at at blocks) ≡ upper ∷ back
  parted-rest = ap (λ (k : ℕ). drop k (parted_at at blocks)) behind-front ∙ drop-append-add front (lower ∷ upper ∷ back) 1

  parted-back : drop (suc (suc at)) (parted_at at blocks) ≡ back
  parted-back = ap (λ (k : ℕ). drop k (parted_at at blocks)) past-front ∙ drop-append-add front (lower ∷ upper ∷ back) 2

  pub parted-joined : joined (parted_at at blocks) ≡ joined blocks
  parted-joined =
      joined-append front (lower ∷ upper ∷ back)
      ∙ (ap (λ (zs : List Place). joined front ++ zs) (sym (append_assoc lower upper (joined back)) ∙ ap (λ (b : List Place). b ++ joined back) (take-append-drop 384 block))
      ∙ sym (joined-at blocks at within))

  pub parted-filled : is_filled blocks ≡ true → is_filled (parted_at at blocks) ≡ true
  parted-filled f =
      filled-split blocks at lower upper within
      (has-length lower (let len = lower-len in omega arith)) (has-length upper (let len = upper-len in omega arith)) f

  pub parted-excess : all_excess (parted_at at blocks) + 128 ≤ all_excess blocks
  parted-excess =
      let all = excess-at blocks at within in
      let parts = sum_by-append excess front (lower ∷ upper ∷ back) in
      let first = sum_by-cons excess lower (upper ∷ back) in
      let second = sum_by-cons excess upper back in
      let low = lower-len in
      let up = upper-len in
      omega arith

  module _ (t : ℕ) (n : RowNo) (home : IsHome t n blocks at) (o : in_order (joined blocks) ≡ true) where
    lower-home : starts_past t n upper ≡ true → IsHome t n (parted_at at blocks) at
    lower-home p = record {
      within = let len = parted-len in omega arith;
      before = ap (λ (bs : List (List Place)). list_all (place_earlier t n) (joined bs)) parted-front ∙ home.before;
      behind = ap (λ (bs : List (List Place)). goes_past t n (joined bs)) parted-rest ∙ starts-goes t n upper (joined back) p;
    }

    lower-earlier : starts_past t n upper ≡ false → list_all (place_earlier t n) lower ≡ true
    lower-earlier p =
        let some = some-places upper (has-length upper (let len = upper-len in omega arith)) in
        let parts : lower ++ some.0 ∷ some.1 ≡ block = ap (λ (u : List Place). lower ++ u) (sym some.2) ∙ take-append-drop 384 block in
        all-earlier t n lower some.0 some.1 (ap in_order parts ∙ order-at blocks at within o) (not-past t n upper some.0 some.1 some.2 p)

    upper-home : starts_past t n upper ≡ false → IsHome t n (parted_at at blocks) (suc at)
    upper-home p = record {
      within = let len = parted-len in omega arith;
      before =
          ap (λ (bs : List (List Place)). list_all (place_earlier t n) (joined bs)) parted-first
          ∙ (ap (list_all (place_earlier t n)) (joined-append front (lower ∷ []) ∙ ap (λ (zs : List Place). joined front ++ zs) (append-nil lower))
          ∙ (list_all-append (place_earlier t n) (joined front) lower
          ∙ and_from (list_all (place_earlier t n) (joined front)) (list_all (place_earlier t n) lower) home.before (lower-earlier p)));
      behind = ap (λ (bs : List (List Place)). goes_past t n (joined bs)) parted-back ∙ home.behind;
    }

    pub record Part (blocks' : List (List Place)) (k : ℕ) : Type 0 where
      pub is_home : IsHome t n blocks' k
      pub is_room : length (get_or blocks' k []) < 512

    -- the row's block is one of the two parts, which has room
    pub parted-home : (past : Bool) → past ≡ starts_past t n upper → Part (parted_at at blocks) (cond past at (suc at))
    parted-home true p = record {
      is_home = lower-home (sym p);
      is_room = let len : length (get_or (parted_at at blocks) at []) ≡ 384 = ap length parted-lower ∙ lower-len in omega arith;
    }
    parted-home false p = record {
      is_home = upper-home (sym p);
      is_room = let len : length (get_or (parted_at at blocks) (suc at) []) ≡ 128 = ap length parted-upper ∙ upper-len in omega arith;
    }

-- the blocks of what is without places
pub none-parts : (front : List (List Place)) (b : List Place) → list_all has_none (front ++ b ∷ []) ≡ true → (list_all has_none front ≡ true) × (b ≡ [])
none-parts front b all =
    let parts = and_parts (list_all has_none front) (list_all has_none (b ∷ [])) (sym (list_all-append has_none front (b ∷ [])) ∙ all) in
    (parts.0, no-places b (and_parts (has_none b) true parts.1).0)

-- a block without places takes no part
pub joined-gone : (blocks : List (List Place)) (at : ℕ) → at < length blocks → has_none (get_or blocks at []) ≡ true
    → (joined (remove blocks at) ≡ joined blocks) × (joined (drop at (remove blocks at)) ≡ joined (drop at blocks))
joined-gone blocks at within none =
    let empty = no-places (get_or blocks at []) none in
    let len : length (take at blocks) ≡ at = length-take at blocks ∙ omega arith in (
      joined-append (take at blocks) (drop (suc at) blocks)
          ∙ sym (joined-at blocks at within ∙ ap (λ (b : List Place). joined (take at blocks) ++ (b ++ joined (drop (suc at) blocks))) empty),
      ap (λ (k : ℕ). joined (drop k (remove blocks at))) (let e : at ≡ length (take at blocks) + 0 = omega arith in e)
          ∙ (ap joined (drop-append-add (take at blocks) (drop (suc at) blocks) 0)
          ∙ sym (ap joined (drop-cons blocks at [] within) ∙ ap (λ (b : List Place). b ++ joined (drop (suc at) blocks)) empty)),
    )

pub some-not-none : (block : List Place) → has_none block ≡ false → has_places block ≡ true
some-not-none [] h = absurd (cc)
some-not-none (y ∷ ys) h = refl

pub take-less : {X : Type 0} (m n : ℕ) (xs ys : List X) → m ≤ n → take n xs ≡ take n ys → take m xs ≡ take m ys
take-less zero n xs ys le e = refl
take-less (suc m) zero xs ys le e = absurd (omega arith)
take-less (suc m) (suc n) [] [] le e = refl
take-less (suc m) (suc n) [] (y ∷ ys) le e = absurd (cc)
take-less (suc m) (suc n) (x ∷ xs) [] le e = absurd (cc)
take-less (suc m) (suc n) (x ∷ xs) (y ∷ ys) le e =
    ap₂ (λ (z : _) (zs : List _). z ∷ zs) (ap (λ (zs : List _). get_or zs 0 x) e) (take-less m n xs ys (omega arith) (ap (drop 1) e))

-- one block more, from which places are taken
pub kept-back : (p : Place → Bool) (old blocks new : List (List Place)) (at n : ℕ) → suc at ≡ n → at < length old → take n blocks ≡ take n old
    → joined (drop at new) ≡ filter p (get_or blocks at []) ++ joined (drop (suc at) blocks) → joined (drop n blocks) ≡ filter p (joined (drop n old))
    → joined (drop at new) ≡ filter p (joined (drop at old))
kept-back p old blocks new at n next within front here back =
    let same : get_or blocks at [] ≡ get_or old at [] = sym (get_or-take n blocks at [] (omega (arith, next))) ∙ (ap (λ (bs : List (List Place)). get_or bs at []) front ∙ get_or-take n old at [] (omega (arith, next))) in
    let rest : joined (drop (suc at) blocks) ≡ filter p (joined (drop (suc at) old)) = ap (λ (k : ℕ). joined (drop k blocks)) next ∙ (back ∙ ap (λ (k : ℕ). filter p (joined (drop k old))) (sym next)) in
    here
    ∙ (ap₂ (λ (b zs : List Place). filter p b ++ zs) same rest
    ∙ (sym (filter-append p (get_or old at []) (joined (drop (suc at) old)))
    ∙ ap (λ (bs : List (List Place)). filter p (joined bs)) (sym (drop-cons old at [] within))))
