-- What one more table leaves.
use Rattle.std.proofs.Common.{◌≡◌, ◌∙◌, ℕ, zero, suc, ◌+◌, ◌≤◌, ◌<◌, Bool, true, false, is_some, List, [], ◌∷◌, ◌++◌, filter, length, get_or, set, refl, ap, sym, one-add, arith, Option, None, Some, map}
use Rattle.std.specs.Prelude.{◌==◌}
use Rattle.std.specs.List.{list_all, position_or_len}
use Rattle.std.specs.Str.{bytes_eq}
use Rattle.std.proofs.lemmas.Grind.{common_steps}
use Rattle.std.proofs.lemmas.Slice.Eq.{bytes_eq-Decides}
use Rattle.au_base.specs.declared.table.TableName.{TableName}
use Rattle.au_rows.specs.declared.place.Place.{Place}
use Rattle.au_rows.specs.declared.table.Table.{Table}
use Rattle.au_rows.specs.declared.version.Version.{Version}
use Rattle.au_rows.specs.Edits.{edited}
use Rattle.au_rows.specs.Held.{is_named, is_of, is_vacant, number_of}
use Rattle.au_rows.specs.Kept.{held_of, place_open}

module _ {X : Type 0} (p : X → Bool) where
  -- the first element that passes is replaced
  pub set-first : (xs : List X) (y : X) → position_or_len p xs < length xs → edited p p xs (y ∷ []) ≡ set xs (position_or_len p xs) y
  set-first [] y lt = absurd (omega arith)
  set-first (x ∷ xs) y lt = step (p x) refl (λ l. set-first xs y l)
    where
      step : (b : Bool) → p x ≡ b → (position_or_len p xs < length xs → edited p p xs (y ∷ []) ≡ set xs (position_or_len p xs) y)
          → edited p p (x ∷ xs) (y ∷ []) ≡ set (x ∷ xs) (position_or_len p (x ∷ xs)) y
      step true e rest = rw e refl
      step false e rest =
          let at : position_or_len p (x ∷ xs) ≡ 1 + position_or_len p xs = rw e refl in
          let within : position_or_len p xs < length xs = omega arith in
          rw (e, one-add) (ap (λ (ys : List X). x ∷ ys) (rest within))

  -- where none passes, one more stands at the end
  pub push-last : (xs : List X) (y : X) → length xs ≤ position_or_len p xs → edited p p xs (y ∷ []) ≡ xs ++ y ∷ []
  push-last [] y le = refl
  push-last (x ∷ xs) y le = step (p x) refl (λ l. push-last xs y l)
    where
      step : (b : Bool) → p x ≡ b → (length xs ≤ position_or_len p xs → edited p p xs (y ∷ []) ≡ xs ++ y ∷ [])
          → edited p p (x ∷ xs) (y ∷ []) ≡ (x ∷ xs) ++ y ∷ []
      step true e rest = absurd (let z : position_or_len p (x ∷ xs) ≡ 0 = rw e refl in omega arith)
      step false e rest =
          let at : position_or_len p (x ∷ xs) ≡ 1 + position_or_len p xs = rw e refl in
          let past : length xs ≤ position_or_len p xs = omega arith in
          rw e (ap (λ (ys : List X). x ∷ ys) (rest past))

-- a table that is open stays open
open-stays : (tables : List (Option Table)) (new : Table) (k : ℕ) → is_some (get_or tables k None) ≡ true → is_some (get_or (edited is_vacant is_vacant tables (Some new ∷ [])) k None) ≡ true
open-stays [] new k h = cc
open-stays (None ∷ ts) new zero h = refl
open-stays (Some t ∷ ts) new zero h = refl
open-stays (None ∷ ts) new (suc k) h = h
open-stays (Some t ∷ ts) new (suc k) h = open-stays ts new k h

pub all-open : (tables : List (Option Table)) (new : Table) (places : List Place) → list_all (place_open tables) places ≡ true
    → list_all (place_open (edited is_vacant is_vacant tables (Some new ∷ []))) places ≡ true
all-open tables new [] h = refl
all-open tables new (p ∷ ps) h =
    let first : place_open tables p ≡ true = grind arith in
    let rest : list_all (place_open tables) ps ≡ true = grind arith in
    rw (open-stays tables new p.table first, all-open tables new ps rest) refl

vacant-there : (tables : List (Option Table)) → is_some (get_or tables (position_or_len is_vacant tables) None) ≡ false
vacant-there [] = refl
vacant-there (None ∷ ts) = refl
vacant-there (Some t ∷ ts) = rw one-add (vacant-there ts)

-- no place is of a table that isn't there
pub none-of : (slots : List (Option Version)) (tables : List (Option Table)) (places : List Place) → list_all (place_open tables) places ≡ true
    → filter (is_of (position_or_len is_vacant tables)) (map (held_of slots) places) ≡ []
none-of slots tables [] h = refl
none-of slots tables (p ∷ ps) h =
    let first : place_open tables p ≡ true = grind arith in
    let rest : list_all (place_open tables) ps ≡ true = grind arith in
    rw (other (p.table == position_or_len is_vacant tables) refl first) (none-of slots tables ps rest)
  where
    other : (b : Bool) → (p.table == position_or_len is_vacant tables) ≡ b → place_open tables p ≡ true → (p.table == position_or_len is_vacant tables) ≡ false
    other false e o = e
    other true e o =
        let is : p.table ≡ position_or_len is_vacant tables = grind (arith, common_steps) in
        let shut : place_open tables p ≡ false = ap (λ (t : ℕ). is_some (get_or tables t None)) is ∙ vacant-there tables in
        absurd (let both : true ≡ false = sym o ∙ shut in cc)

-- the new table is found at its place
pub named-there : (name : TableName) (tables : List (Option Table)) (new : Table) → is_named name (Some new) ≡ true → length tables ≤ number_of name tables
    → number_of name (edited is_vacant is_vacant tables (Some new ∷ [])) ≡ position_or_len is_vacant tables
named-there name [] new named none = rw named refl
named-there name (None ∷ ts) new named none = rw named refl
named-there name (Some t ∷ ts) new named none = step (is_named name (Some t)) refl (λ l. named-there name ts new named l)
  where
    step : (b : Bool) → is_named name (Some t) ≡ b → (length ts ≤ number_of name ts → number_of name (edited is_vacant is_vacant ts (Some new ∷ [])) ≡ position_or_len is_vacant ts)
        → number_of name (Some t ∷ edited is_vacant is_vacant ts (Some new ∷ [])) ≡ 1 + position_or_len is_vacant ts
    step true e rest = absurd (let z : number_of name (Some t ∷ ts) ≡ 0 = rw e refl in omega arith)
    step false e rest =
        let at : number_of name (Some t ∷ ts) ≡ 1 + number_of name ts = rw e refl in
        let past : length ts ≤ number_of name ts = omega arith in
        rw e (ap (λ (n : ℕ). 1 + n) (rest past))

pub ruleset vacant_steps = (set-first, push-last)

-- a table has its own name
pub is-its-name : (table : Table) → is_named table.name (Some table) ≡ true
is-its-name table = rw (same table.name.owner, same table.name.name) refl
  where
    same : (bytes : List ℕ) → bytes_eq bytes bytes ≡ true
    same bytes = (bytes_eq-Decides bytes bytes).1 refl
