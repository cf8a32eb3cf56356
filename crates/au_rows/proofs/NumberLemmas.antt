-- The numbers of a table's places, which stand together and in order.
use Rattle.std.proofs.Common.{◌≡◌, ◌∙◌, ℕ, zero, suc, ◌+◌, ◌≤◌, ◌<◌, Bool, true, false, cond, not, ◌||◌, List, [], ◌∷◌, filter, length, max, get_or, refl, ap, sym, arith, Option, map}
use Rattle.std.specs.Prelude.{◌==◌, nat_lt}
use Rattle.std.specs.List.{list_all, position_or_len, count_by}
use Rattle.std.proofs.lemmas.Grind.{common_steps}
use Rattle.std.proofs.lemmas.List.Sums.{length-filter}
use Rattle.au_rows.specs.declared.place.Place.{Place}
use Rattle.au_rows.specs.declared.version.Version.{Version}
use Rattle.au_rows.specs.Held.{is_of, largest_of}
use Rattle.au_rows.specs.Kept.{held_of, largest_in, place_from, place_numbered, place_of}
use Rattle.au_rows.specs.Order.{is_before, in_order}

module _ (t : ℕ) where
  abbrev pub first : List Place → ℕ
  first ps = position_or_len (place_from t (record { 0 = 0 })) ps

  abbrev pub end : List Place → ℕ
  end ps = position_or_len (place_from (t + 1) (record { 0 = 0 })) ps

  at-zero : (u : ℕ) (ps : List Place) (p : Place) → place_from u (record { 0 = 0 }) p ≡ true → list_all (is_before p) ps ≡ true → position_or_len (place_from u (record { 0 = 0 })) ps ≡ 0
  at-zero u [] p f later = refl
  at-zero u (q ∷ ps) p f later =
      let before : is_before p q ≡ true = grind arith in
      let from : place_from u (record { 0 = 0 }) q ≡ true = on f before in
      rw from refl
    where
      on : place_from u (record { 0 = 0 }) p ≡ true → is_before p q ≡ true → place_from u (record { 0 = 0 }) q ≡ true
      on f b = grind (arith, common_steps)

  by_range : (p : Place) (ps : List Place) (a b : Bool) → place_from t (record { 0 = 0 }) p ≡ a → place_from (t + 1) (record { 0 = 0 }) p ≡ b
      → list_all (is_before p) ps ≡ true → first ps + count_by (place_of t) ps ≡ end ps
      → first (p ∷ ps) + count_by (place_of t) (p ∷ ps) ≡ end (p ∷ ps)
  by_range p ps false false a b later rest =
      let none : place_of t p ≡ false = grind (arith, common_steps) in grind (arith, common_steps)
  by_range p ps false true a b later rest = absurd (no a b)
    where
      no : place_from t (record { 0 = 0 }) p ≡ false → place_from (t + 1) (record { 0 = 0 }) p ≡ true → ⊥
      no x y = grind (arith, common_steps)
  by_range p ps true false a b later rest =
      let some : place_of t p ≡ true = grind (arith, common_steps) in
      let zero_first : first ps ≡ 0 = at-zero t ps p a later in
      grind (arith, common_steps)
  by_range p ps true true a b later rest =
      let none : place_of t p ≡ false = grind (arith, common_steps) in
      let zero_first : first ps ≡ 0 = at-zero t ps p a later in
      let zero_end : end ps ≡ 0 = at-zero (t + 1) ps p b later in
      grind (arith, common_steps)

  -- the places of the table stand between two indexes
  pub range : (ps : List Place) → in_order ps ≡ true → first ps + count_by (place_of t) ps ≡ end ps
  range [] o = refl
  range (p ∷ ps) o =
      let later : list_all (is_before p) ps ≡ true = grind arith in
      let rest : in_order ps ≡ true = grind arith in
      by_range p ps (place_from t (record { 0 = 0 }) p) (place_from (t + 1) (record { 0 = 0 }) p) refl refl later (range ps rest)

  -- the place is of another table, or of a row with a larger number
  abbrev over : ℕ → Place → Bool
  over m q = not (q.table == t) || nat_lt m q.number.0

  count-in : (p : Place) (ps : List Place) → place_of t p ≡ true → count_by (place_of t) (p ∷ ps) ≡ 1 + count_by (place_of t) ps
  count-in p ps h = grind (arith, common_steps)

  count-out : (p : Place) (ps : List Place) → place_of t p ≡ false → count_by (place_of t) (p ∷ ps) ≡ count_by (place_of t) ps
  count-out p ps h = grind (arith, common_steps)

  largest-in : (p : Place) (ps : List Place) → place_of t p ≡ true → largest_in t (p ∷ ps) ≡ max p.number.0 (largest_in t ps)
  largest-in p ps h = rw h refl

  largest-out : (p : Place) (ps : List Place) → place_of t p ≡ false → largest_in t (p ∷ ps) ≡ largest_in t ps
  largest-out p ps h = rw h refl

  over-in : (m : ℕ) (p : Place) → place_of t p ≡ true → over m p ≡ true → m < p.number.0
  over-in m p h o = grind (arith, common_steps)

  over-later : (p : Place) (ps : List Place) → place_of t p ≡ true → list_all (is_before p) ps ≡ true → list_all (over p.number.0) ps ≡ true
  over-later p [] h later = refl
  over-later p (q ∷ ps) h later =
      let before : is_before p q ≡ true = grind arith in
      let rest : list_all (is_before p) ps ≡ true = grind arith in
      let here : over p.number.0 q ≡ true = one before in
      rw (here, over-later p ps h rest) refl
    where
      one : is_before p q ≡ true → over p.number.0 q ≡ true
      one b = grind (arith, common_steps)

  pub none-largest : (ps : List Place) → count_by (place_of t) ps ≡ 0 → largest_in t ps ≡ 0
  none-largest [] h = refl
  none-largest (p ∷ ps) h = step (place_of t p) refl (λ none. none-largest ps none)
    where
      step : (b : Bool) → place_of t p ≡ b → (count_by (place_of t) ps ≡ 0 → largest_in t ps ≡ 0) → largest_in t (p ∷ ps) ≡ 0
      step true e rest = absurd (let one = count-in p ps e in omega arith)
      step false e rest = largest-out p ps e ∙ rest (sym (count-out p ps e) ∙ h)

  bound-by : (p : Place) (ps : List Place) (m : ℕ) (b : Bool) → place_of t p ≡ b → over m p ≡ true → list_all (is_before p) ps ≡ true → list_all (over m) ps ≡ true
      → ((k : ℕ) → list_all (over k) ps ≡ true → 0 < count_by (place_of t) ps → k + count_by (place_of t) ps ≤ largest_in t ps)
      → 0 < count_by (place_of t) (p ∷ ps) → m + count_by (place_of t) (p ∷ ps) ≤ largest_in t (p ∷ ps)
  bound-by p ps m false e o later overs rest some =
      let same = count-out p ps e in
      let larger = largest-out p ps e in
      let more = rest m overs (omega arith) in omega arith
  bound-by p ps m true e o later overs rest some =
      let one = count-in p ps e in
      let larger = largest-in p ps e in
      let less = over-in m p e o in
      let more : 0 < count_by (place_of t) ps → p.number.0 + count_by (place_of t) ps ≤ largest_in t ps = rest p.number.0 (over-later p ps e later) in
      by_count (count_by (place_of t) ps) refl one larger less more
    where
      by_count : (n : ℕ) → count_by (place_of t) ps ≡ n → count_by (place_of t) (p ∷ ps) ≡ 1 + count_by (place_of t) ps → largest_in t (p ∷ ps) ≡ max p.number.0 (largest_in t ps) → m < p.number.0
          → (0 < count_by (place_of t) ps → p.number.0 + count_by (place_of t) ps ≤ largest_in t ps) → m + count_by (place_of t) (p ∷ ps) ≤ largest_in t (p ∷ ps)
      by_count zero n one larger less more = omega arith
      by_count (suc k) n one larger less more = let m' = more (omega arith) in omega arith

  -- no more places than the largest number allows
  pub bound : (ps : List Place) → in_order ps ≡ true → (m : ℕ) → list_all (over m) ps ≡ true → 0 < count_by (place_of t) ps → m + count_by (place_of t) ps ≤ largest_in t ps
  bound [] o m overs some = absurd (omega arith)
  bound (p ∷ ps) o m overs some =
      let later : list_all (is_before p) ps ≡ true = grind arith in
      let rest : in_order ps ≡ true = grind arith in
      let here : over m p ≡ true = grind arith in
      let others : list_all (over m) ps ≡ true = grind arith in
      bound-by p ps m (place_of t p) refl here later others (bound ps rest) some

  numbered-over : (ps : List Place) → list_all place_numbered ps ≡ true → list_all (over 0) ps ≡ true
  numbered-over [] h = refl
  numbered-over (p ∷ ps) h =
      let first_one : place_numbered p ≡ true = grind arith in
      let rest : list_all place_numbered ps ≡ true = grind arith in
      let here : over 0 p ≡ true = one first_one in
      rw (here, numbered-over ps rest) refl
    where
      one : place_numbered p ≡ true → over 0 p ≡ true
      one b = or_true (not (p.table == t)) (nat_lt 0 p.number.0) (grind (arith, common_steps))
        where
          or_true : (a b : Bool) → b ≡ true → (a || b) ≡ true
          or_true true b h = refl
          or_true false b h = h

  pub count-bound : (ps : List Place) → in_order ps ≡ true → list_all place_numbered ps ≡ true → count_by (place_of t) ps ≤ largest_in t ps
  count-bound ps o n = by_count (count_by (place_of t) ps) refl (bound ps o 0 (numbered-over ps n))
    where
      by_count : (k : ℕ) → count_by (place_of t) ps ≡ k → (0 < count_by (place_of t) ps → 0 + count_by (place_of t) ps ≤ largest_in t ps) → count_by (place_of t) ps ≤ largest_in t ps
      by_count zero c more = omega arith
      by_count (suc k) c more = let m' = more (omega arith) in omega arith

  last-by : (p : Place) (ps : List Place) (d : Place) (k : ℕ) (a b : Bool) → place_from t (record { 0 = 0 }) p ≡ a → place_from (t + 1) (record { 0 = 0 }) p ≡ b
      → list_all (is_before p) ps ≡ true → in_order ps ≡ true
      → ((j : ℕ) → end ps ≡ j + 1 → 0 < count_by (place_of t) ps → largest_in t ps ≡ (get_or ps j d).number.0)
      → end (p ∷ ps) ≡ k + 1 → 0 < count_by (place_of t) (p ∷ ps) → largest_in t (p ∷ ps) ≡ (get_or (p ∷ ps) k d).number.0
  last-by p ps d k false true a b later o rest e some = absurd (no a b)
    where
      no : place_from t (record { 0 = 0 }) p ≡ false → place_from (t + 1) (record { 0 = 0 }) p ≡ true → ⊥
      no x y = grind (arith, common_steps)
  last-by p ps d k true true a b later o rest e some = absurd (let z : end (p ∷ ps) ≡ 0 = rw b refl in omega arith)
  last-by p ps d zero false false a b later o rest e some =
      let out : place_of t p ≡ false = grind (arith, common_steps) in
      let same = count-out p ps out in
      let r = range ps o in
      let more : end (p ∷ ps) ≡ 1 + end ps = rw b refl in absurd (omega arith)
  last-by p ps d (suc k) false false a b later o rest e some =
      let out : place_of t p ≡ false = grind (arith, common_steps) in
      let same = count-out p ps out in
      let more : end (p ∷ ps) ≡ 1 + end ps = rw b refl in
      let at : end ps ≡ k + 1 = omega arith in
      let any : 0 < count_by (place_of t) ps = omega arith in
      largest-out p ps out ∙ rest k at any
  last-by p ps d zero true false a b later o rest e some =
      let inside : place_of t p ≡ true = grind (arith, common_steps) in
      let more : end (p ∷ ps) ≡ 1 + end ps = rw b refl in
      let r = range ps o in
      let none : count_by (place_of t) ps ≡ 0 = omega arith in
      let nothing = none-largest ps none in
      let larger = largest-in p ps inside in omega arith
  last-by p ps d (suc k) true false a b later o rest e some =
      let inside : place_of t p ≡ true = grind (arith, common_steps) in
      let more : end (p ∷ ps) ≡ 1 + end ps = rw b refl in
      let at : end ps ≡ k + 1 = omega arith in
      let r = range ps o in
      let zero_first : first ps ≡ 0 = at-zero t ps p a later in
      let any : 0 < count_by (place_of t) ps = omega arith in
      let larger = largest-in p ps inside in
      let most = bound ps o p.number.0 (over-later p ps inside later) any in
      let is = rest k at any in
      let max_is : max p.number.0 (largest_in t ps) ≡ largest_in t ps = omega arith in
      larger ∙ (max_is ∙ is)

  -- the last place of the table has the largest number
  pub last : (ps : List Place) (d : Place) (k : ℕ) → in_order ps ≡ true → end ps ≡ k + 1 → 0 < count_by (place_of t) ps → largest_in t ps ≡ (get_or ps k d).number.0
  last [] d k o e some = absurd (omega arith)
  last (p ∷ ps) d k o e some =
      let later : list_all (is_before p) ps ≡ true = grind arith in
      let rest : in_order ps ≡ true = grind arith in
      last-by p ps d k (place_from t (record { 0 = 0 }) p) (place_from (t + 1) (record { 0 = 0 }) p) refl refl later rest (λ j. last ps d j rest) e some

  -- the same of the rows that the places stand for
  pub count-rows : (slots : List (Option Version)) (ps : List Place) → length (filter (is_of t) (map (held_of slots) ps)) ≡ count_by (place_of t) ps
  count-rows slots ps = length-filter (is_of t) (map (held_of slots) ps) ∙ go ps
    where
      go : (qs : List Place) → count_by (is_of t) (map (held_of slots) qs) ≡ count_by (place_of t) qs
      go [] = refl
      go (q ∷ qs) = let rest = go qs in step (place_of t q) refl rest
        where
          step : (b : Bool) → place_of t q ≡ b → count_by (is_of t) (map (held_of slots) qs) ≡ count_by (place_of t) qs → count_by (is_of t) (held_of slots q ∷ map (held_of slots) qs) ≡ count_by (place_of t) (q ∷ qs)
          step true e rest = grind (arith, common_steps)
          step false e rest = grind (arith, common_steps)

  pub largest-rows : (slots : List (Option Version)) (ps : List Place) → largest_of t (map (held_of slots) ps) ≡ largest_in t ps
  largest-rows slots [] = refl
  largest-rows slots (p ∷ ps) = ap (λ (n : ℕ). cond (p.table == t) (max p.number.0 n) n) (largest-rows slots ps)
