-- The cells that values give, and those that columns are given, one after another.
use Rattle.std.proofs.Common.{◌≡◌, ◌∙◌, ◌≤◌, ◌<◌, ◌+◌, ◌||◌, ℕ, Bool, true, false, cond, List, [], ◌∷◌, ◌++◌, length, drop, get_or, map, add-one, append_assoc, refl, sym, ap, ap₂}
use Rattle.std.specs.Prelude.{Option, Some}
use Rattle.std.specs.List.{find, list_any, zip}
use Rattle.std.specs.Str.{bytes_eq}
use Rattle.std.proofs.Math.Seq.{drop-cons}
use Rattle.std.proofs.lemmas.List.{drop_all}
use Rattle.au_base.specs.declared.cell.Cell.{Cell}
use Rattle.au_base.specs.declared.cell.Cell.TheVariants.{Null}
use Rattle.au_base.specs.declared.table.Column.{Column}
use Rattle.au_modify.specs.Targets.{cell_or, given_or, is_given_for}

-- the element that comes next, and those behind it
pub next : {X : Type 0} (xs : List X) (i : ℕ) (x : X) → i < length xs → x ≡ get_or xs i x → drop i xs ≡ x ∷ drop (i + 1) xs
next xs i x within is = drop-cons xs i x within ∙ ap₂ (λ y (n : ℕ). y ∷ drop n xs) (sym is) (sym (add-one i))

-- ---- a test of each

first_passes : (b later : Bool) → b ≡ true → (b || later) ≡ true
first_passes true later is = refl
first_passes false later is = absurd (let e : false ≡ true = is in cc)

first_fails : (b later : Bool) → b ≡ false → (b || later) ≡ later
first_fails true later is = absurd (let e : true ≡ false = is in cc)
first_fails false later is = refl

module _ {X : Type 0} (test : X → Bool) (xs : List X) (i : ℕ) (x : X) (within : i < length xs) (is : x ≡ get_or xs i x) where
  pub some_passes : list_any test (drop i xs) ≡ list_any test xs → test x ≡ true → list_any test xs ≡ true
  some_passes so_far passes = sym so_far ∙ ap (list_any test) (next xs i x within is) ∙ first_passes (test x) (list_any test (drop (i + 1) xs)) passes

  pub none_yet : list_any test (drop i xs) ≡ list_any test xs → test x ≡ false → list_any test (drop (i + 1) xs) ≡ list_any test xs
  none_yet so_far fails = sym (first_fails (test x) (list_any test (drop (i + 1) xs)) fails) ∙ sym (ap (list_any test) (next xs i x within is)) ∙ so_far

  pub one_more : {Y : Type 0} (f : X → Y) (done : List Y) (y : Y) → y ≡ f x → done ++ map f (drop i xs) ≡ map f xs → (done ++ y ∷ []) ++ map f (drop (i + 1) xs) ≡ map f xs
  one_more f done y gives so_far =
      append_assoc done (y ∷ []) (map f (drop (i + 1) xs))
      ∙ ap (λ z. done ++ z ∷ map f (drop (i + 1) xs)) gives
      ∙ sym (ap (λ ys. done ++ map f ys) (next xs i x within is))
      ∙ so_far

-- ---- the cell of a column

not_this : (b : Bool) (first : List ℕ × Cell) (later : Option (List ℕ × Cell)) → b ≡ false → cell_or Null (cond b (Some first) later) ≡ cell_or Null later
not_this true first later is = absurd (let e : true ≡ false = is in cc)
not_this false first later is = refl

module _ (column : Column) (names : List (List ℕ)) (given : List Cell) (i : ℕ) where
  pub another : (name : List ℕ) → i < length names → name ≡ get_or names i name → i < length given → bytes_eq name column.name ≡ false
      → given_or Null (zip (drop i names) (drop i given)) column ≡ given_or Null (zip (drop (i + 1) names) (drop (i + 1) given)) column
  another name within is there other =
      ap₂ (λ ns gs. given_or Null (zip ns gs) column) (next names i name within is) (drop-cons given i Null there ∙ ap (λ (n : ℕ). get_or given i Null ∷ drop n given) (sym (add-one i)))
      ∙ not_this (bytes_eq name column.name) (name, get_or given i Null) (find (is_given_for column) (zip (drop (i + 1) names) (drop (i + 1) given))) other

no_more : (names : List (List ℕ)) (given : List Cell) (column : Column) → given ≡ [] → given_or Null (zip names given) column ≡ Null
no_more [] given column none = refl
no_more (name ∷ names) given column none = ap (λ gs. given_or Null (zip (name ∷ names) gs) column) none

pub all_given : (column : Column) (names : List (List ℕ)) (given : List Cell) (i : ℕ) → length given ≤ i → length given ≤ i + 1
    → given_or Null (zip (drop i names) (drop i given)) column ≡ given_or Null (zip (drop (i + 1) names) (drop (i + 1) given)) column
all_given column names given i past later =
    no_more (drop i names) (drop i given) column (drop_all i given past) ∙ sym (no_more (drop (i + 1) names) (drop (i + 1) given) column (drop_all (i + 1) given later))
