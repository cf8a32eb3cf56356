-- What is seen of a table is seen of its places alone.
use Rattle.std.proofs.Common.{◌≡◌, ◌∙◌, sym, ℕ, zero, suc, Bool, true, false, ◌&&◌, List, [], ◌∷◌, ◌++◌, drop, refl, ap, one-add, arith, Option, None, map}
use Rattle.std.specs.Prelude.{◌==◌, nat_lt}
use Rattle.std.specs.List.{list_all, position_or_len}
use Rattle.std.proofs.lemmas.Bool.{and_from, and_parts}
use Rattle.std.proofs.lemmas.Grind.{common_steps}
use Rattle.au_base.specs.declared.cell.Cell.{Cell}
use Rattle.au_base.specs.declared.numbers.RowNo.{RowNo}
use Rattle.au_base.specs.declared.numbers.ClientNo.{ClientNo}
use Rattle.au_rows.specs.declared.place.Place.{Place}
use Rattle.au_rows.specs.declared.version.Version.{Version}
use Rattle.au_rows.specs.Held.{entry, next_of, or_else, seen_by, shown_after, shown_to, view_of}
use Rattle.au_rows.specs.Kept.{held_of, place_from}
use Rattle.au_rows.specs.Order.{is_before, in_order}

hidden : (slots : List (Option Version)) (table : ℕ) (after : RowNo) (by : ClientNo) (place : Place)
    → place_from table after place ≡ false → shown_after table after by (held_of slots place) ≡ None
hidden slots table after by place h =
    let no : ((place.table == table) && nat_lt after.0 place.number.0) ≡ false = grind (arith, common_steps) in
    rw no refl

-- no row before the place is shown
next_step : (slots : List (Option Version)) (table : ℕ) (after : RowNo) (by : ClientNo) (place : Place) (places : List Place) (b : Bool)
    → place_from table after place ≡ b
    → next_of table after by (map (held_of slots) (drop (position_or_len (place_from table after) places) places)) ≡ next_of table after by (map (held_of slots) places)
    → next_of table after by (map (held_of slots) (drop (position_or_len (place_from table after) (place ∷ places)) (place ∷ places))) ≡ next_of table after by (map (held_of slots) (place ∷ places))
next_step slots table after by place places true e rest = rw e refl
next_step slots table after by place places false e rest = rw (e, one-add, hidden slots table after by place e) rest

pub next_of-drop : (slots : List (Option Version)) (table : ℕ) (after : RowNo) (by : ClientNo) (places : List Place)
    → next_of table after by (map (held_of slots) (drop (position_or_len (place_from table after) places) places)) ≡ next_of table after by (map (held_of slots) places)
next_of-drop slots table after by [] = refl
next_of-drop slots table after by (place ∷ places) = next_step slots table after by place places (place_from table after place) refl (next_of-drop slots table after by places)

unseen : (slots : List (Option Version)) (table : ℕ) (by : ClientNo) (place : Place)
    → place_from table (record { 0 = 0 }) place ≡ false → shown_to table by (held_of slots place) ≡ []
unseen slots table by place h =
    let no : (place.table == table) ≡ false = grind (arith, common_steps) in
    rw no refl

seen_step : (slots : List (Option Version)) (table : ℕ) (by : ClientNo) (place : Place) (places : List Place) (b : Bool)
    → place_from table (record { 0 = 0 }) place ≡ b
    → view_of table by (map (held_of slots) (drop (position_or_len (place_from table (record { 0 = 0 })) places) places)) ≡ view_of table by (map (held_of slots) places)
    → view_of table by (map (held_of slots) (drop (position_or_len (place_from table (record { 0 = 0 })) (place ∷ places)) (place ∷ places))) ≡ view_of table by (map (held_of slots) (place ∷ places))
seen_step slots table by place places true e rest = rw e refl
seen_step slots table by place places false e rest = rw (e, one-add, unseen slots table by place e) rest

-- no row before the table's first place is seen
pub view_of-drop : (slots : List (Option Version)) (table : ℕ) (by : ClientNo) (places : List Place)
    → view_of table by (map (held_of slots) (drop (position_or_len (place_from table (record { 0 = 0 })) places) places)) ≡ view_of table by (map (held_of slots) places)
view_of-drop slots table by [] = refl
view_of-drop slots table by (place ∷ places) = seen_step slots table by place places (place_from table (record { 0 = 0 }) place) refl (view_of-drop slots table by places)

-- the place is of a later table
abbrev pub is_past : ℕ → Place → Bool
is_past table place = nat_lt table place.table

pub next_of-past : (slots : List (Option Version)) (table : ℕ) (after : RowNo) (by : ClientNo) (places : List Place) → list_all (is_past table) places ≡ true
    → next_of table after by (map (held_of slots) places) ≡ None
next_of-past slots table after by [] h = refl
next_of-past slots table after by (place ∷ places) h =
    let first : is_past table place ≡ true = grind arith in
    let rest : list_all (is_past table) places ≡ true = grind arith in
    let other : (place.table == table) ≡ false = grind (arith, common_steps) in
    rw other (next_of-past slots table after by places rest)

pub view_of-past : (slots : List (Option Version)) (table : ℕ) (by : ClientNo) (places : List Place) → list_all (is_past table) places ≡ true
    → view_of table by (map (held_of slots) places) ≡ []
view_of-past slots table by [] h = refl
view_of-past slots table by (place ∷ places) h =
    let first : is_past table place ≡ true = grind arith in
    let rest : list_all (is_past table) places ≡ true = grind arith in
    let other : (place.table == table) ≡ false = grind (arith, common_steps) in
    rw other (view_of-past slots table by places rest)

-- the places from the first of a row on are in order, and of this row or later ones
pub drop-order : (places : List Place) (i : ℕ) → in_order places ≡ true → in_order (drop i places) ≡ true
drop-order [] i o = grind (arith, common_steps)
drop-order (p ∷ ps) zero o = o
drop-order (p ∷ ps) (suc i) o = let rest : in_order ps ≡ true = grind arith in drop-order ps i rest

-- behind a place of another table come places of later tables alone
pub past-on : (table : ℕ) (number : RowNo) (p : Place) (ps : List Place) → place_from table number p ≡ true → (p.table == table) ≡ false → list_all (is_before p) ps ≡ true
    → list_all (is_past table) (p ∷ ps) ≡ true
past-on table number p ps from other later =
    let first : is_past table p ≡ true = grind (arith, common_steps) in rw (first, go ps later) refl
  where
    go : (qs : List Place) → list_all (is_before p) qs ≡ true → list_all (is_past table) qs ≡ true
    go [] h = refl
    go (q ∷ qs) h =
        let before : is_before p q ≡ true = grind arith in
        let rest : list_all (is_before p) qs ≡ true = grind arith in
        let past : is_past table q ≡ true = behind q before in
        rw (past, go qs rest) refl
      where
        behind : (x : Place) → is_before p x ≡ true → is_past table x ≡ true
        behind x b = grind (arith, common_steps)

all-later : (table : ℕ) (number : RowNo) (p : Place) (ps : List Place) → place_from table number p ≡ true → list_all (is_before p) ps ≡ true → list_all (place_from table number) ps ≡ true
all-later table number p [] from later = refl
all-later table number p (q ∷ qs) from later =
    let parts = and_parts (is_before p q) (list_all (is_before p) qs) later in
    and_from (place_from table number q) (list_all (place_from table number) qs) (one parts.0) (all-later table number p qs from parts.1)
  where
    one : is_before p q ≡ true → place_from table number q ≡ true
    one b = grind (arith, common_steps)

-- the places from a row on are of this row or later ones
pub later-from : (table : ℕ) (number : RowNo) (places : List Place) → in_order places ≡ true
    → list_all (place_from table number) (drop (position_or_len (place_from table number) places) places) ≡ true
later-from table number [] o = refl
later-from table number (p ∷ ps) o = go (place_from table number p) refl (later-from table number ps parts.1)
  where
    parts : (list_all (is_before p) ps ≡ true) × (in_order ps ≡ true)
    parts = and_parts (list_all (is_before p) ps) (in_order ps) o

    go : (b : Bool) → place_from table number p ≡ b → list_all (place_from table number) (drop (position_or_len (place_from table number) ps) ps) ≡ true
        → list_all (place_from table number) (drop (position_or_len (place_from table number) (p ∷ ps)) (p ∷ ps)) ≡ true
    go true e rest = rw e (and_from (place_from table number p) (list_all (place_from table number) ps) e (all-later table number p ps e parts.0))
    go false e rest = rw (e, one-add) rest

-- a step of a walk from a row on
module _ (table : ℕ) (number : RowNo) (walk rest : List Place) (p : Place) (is : walk ≡ p ∷ rest)
    (order : in_order walk ≡ true) (from : list_all (place_from table number) walk ≡ true) where
  order_parts : (list_all (is_before p) rest ≡ true) × (in_order rest ≡ true)
  order_parts = and_parts (list_all (is_before p) rest) (in_order rest) (ap in_order (sym is) ∙ order)

  from_parts : (place_from table number p ≡ true) × (list_all (place_from table number) rest ≡ true)
  from_parts = and_parts (place_from table number p) (list_all (place_from table number) rest) (ap (list_all (place_from table number)) (sym is) ∙ from)

  pub step-order : in_order rest ≡ true
  step-order = order_parts.1

  pub step-from : list_all (place_from table number) rest ≡ true
  step-from = from_parts.1

  -- behind the table's places come those of later tables
  pub step-past : (p.table ≡ table → ⊥) → list_all (is_past table) walk ≡ true
  step-past other = ap (list_all (is_past table)) is ∙ past-on table number p rest from_parts.0 (differs other) order_parts.0
    where
      differs : (p.table ≡ table → ⊥) → (p.table == table) ≡ false
      differs ne = grind (arith, common_steps)

module _ (slots : List (Option Version)) (table : ℕ) (by : ClientNo) (walk rest : List Place) (p : Place) (is : walk ≡ p ∷ rest) where
  pub next-on : (after : RowNo) (found : Option (RowNo × List Cell)) → shown_after table after by (held_of slots p) ≡ found
      → next_of table after by (map (held_of slots) walk) ≡ or_else found (next_of table after by (map (held_of slots) rest))
  next-on after found e =
      ap (λ (ps : List Place). next_of table after by (map (held_of slots) ps)) is
      ∙ ap (λ (o : Option (RowNo × List Cell)). or_else o (next_of table after by (map (held_of slots) rest))) e

  pub view-on : p.table ≡ table → view_of table by (map (held_of slots) walk) ≡ entry p.number (seen_by by (held_of slots p)) ++ view_of table by (map (held_of slots) rest)
  view-on same =
      let here : (p.table == table) ≡ true = grind (arith, common_steps) in
      ap (λ (ps : List Place). view_of table by (map (held_of slots) ps)) is ∙ rw here refl
