-- A search that takes one row of each table that isn't named finds what the whole product has.
use Rattle.std.proofs.Common.{◌≡◌, ◌≢◌, ◌∙◌, refl, sym, ap, Bool, true, false, ◌||◌, ℕ, zero, suc, List, [], ◌∷◌, ◌++◌, map, length, take, append_assoc, arith}
use Rattle.std.specs.Prelude.{if◌then◌else◌}
use Rattle.std.specs.List.{list_any, slice_get}
use Rattle.std.proofs.lemmas.List.{append-nil}
use Rattle.au_base.specs.declared.cell.Cell.{Cell}
use Rattle.au_expr.specs.Rows.{AreSound}
use Rattle.au_base.specs.declared.numbers.RowNo.{RowNo}
use Rattle.std.specs.Borrow.{Bor}
use Rattle.au_query.specs.declared.source.Source.{Source}
use Rattle.au_query.specs.Combos.{AreSoundRows, Line, cells_of, lines, product, rows_of, views}
use Rattle.au_query.specs.descent.Inside.{cell_views, cells_in, found_in}

differs : true ≡ false → ⊥
differs e = cc

or_false : (a : Bool) → (a || false) ≡ a
or_false true = refl
or_false false = refl

or_assoc : (a b c : Bool) → ((a || b) || c) ≡ (a || (b || c))
or_assoc true b c = refl
or_assoc false b c = refl

or_same : (a : Bool) → (a || a) ≡ a
or_same true = refl
or_same false = refl

pub any_same : {X : Type 0} (p q : X → Bool) → ((x : X) → p x ≡ q x) → (xs : List X) → list_any p xs ≡ list_any q xs
any_same p q e [] = refl
any_same p q e (x ∷ xs) = ap (λ b. b || list_any p xs) (e x) ∙ ap (λ b. q x || b) (any_same p q e xs)

pub any_append : {X : Type 0} (p : X → Bool) (xs ys : List X) → list_any p (xs ++ ys) ≡ (list_any p xs || list_any p ys)
any_append p [] ys = refl
any_append p (x ∷ xs) ys = ap (λ b. p x || b) (any_append p xs ys) ∙ sym (or_assoc (p x) (list_any p xs) (list_any p ys))

pub any_map : {X Y : Type 0} (p : Y → Bool) (f : X → Y) (xs : List X) → list_any p (map f xs) ≡ list_any (λ x. p (f x)) xs
any_map p f [] = refl
any_map p f (x ∷ xs) = ap (λ b. p (f x) || b) (any_map p f xs)

-- all elements pass or none does
any_constant : {X : Type 0} (p : X → Bool) (x : X) (xs : List X) → ((y : X) → p y ≡ p x) → list_any p (x ∷ xs) ≡ p x
any_constant p x [] e = or_false (p x)
any_constant p x (y ∷ xs) e = ap (λ b. p x || b) (any_constant p y xs (λ z. e z ∙ sym (e y)) ∙ e y) ∙ or_same (p x)

any_one : {X : Type 0} (p : X → Bool) (xs : List X) → ((x y : X) → p x ≡ p y) → list_any p (take 1 xs) ≡ list_any p xs
any_one p [] e = refl
any_one p (x ∷ xs) e = or_false (p x) ∙ sym (any_constant p x xs (λ y. e y x))

elsewhere : {X : Type 0} (row rest : List X) (x y : X) (t : ℕ) → t ≢ length row → slice_get (row ++ x ∷ rest) t ≡ slice_get (row ++ y ∷ rest) t
elsewhere [] rest x y zero ne = absurd (ne refl)
elsewhere [] rest x y (suc t) ne = refl
elsewhere (z ∷ row) rest x y zero ne = refl
elsewhere (z ∷ row) rest x y (suc t) ne = elsewhere row rest x y t (λ e. ne (omega (arith, e)))

module _ {X : Type 0} (test : List X → Bool) (named : ℕ → Bool) (same : (a b : List X) → ((t : ℕ) → named t ≡ true → slice_get a t ≡ slice_get b t) → test a ≡ test b) where
  -- the rows that begin so
  abbrev from : List X → List (List X) → X → Bool
  from row views x = list_any (λ r. test (row ++ x ∷ r)) (product views)

  over : (row : List X) (views : List (List X)) (view : List X) → list_any (λ r. test (row ++ r)) (product (view ∷ views)) ≡ list_any (from row views) view
  over row views [] = refl
  over row views (x ∷ view) =
      any_append (λ r. test (row ++ r)) (map (λ r. x ∷ r) (product views)) (product (view ∷ views))
      ∙ ap (λ b. b || list_any (λ r. test (row ++ r)) (product (view ∷ views))) (any_map (λ r. test (row ++ r)) (λ r. x ∷ r) (product views))
      ∙ ap (λ b. from row views x || b) (over row views view)

  unnamed : (row : List X) (views : List (List X)) → named (length row) ≡ false → (x y : X) → from row views x ≡ from row views y
  unnamed row views off x y = any_same (λ r. test (row ++ x ∷ r)) (λ r. test (row ++ y ∷ r)) (λ r. same (row ++ x ∷ r) (row ++ y ∷ r) (λ t yes. elsewhere row r x y t (λ e. absurd (differs (sym yes ∙ ap named e ∙ off))))) (product views)

  narrow : (row : List X) (views : List (List X)) (view : List X) (b : Bool) → named (length row) ≡ b → list_any (from row views) (if b then view else take 1 view) ≡ list_any (from row views) view
  narrow row views view true e = refl
  narrow row views view false e = any_one (from row views) view (unnamed row views e)

  pub found_is : (views : List (List X)) (row : List X) → found_in test named row views ≡ list_any (λ r. test (row ++ r)) (product views)
  found_is [] row = ap test (sym (append-nil row)) ∙ sym (or_false (test (row ++ [])))
  found_is (view ∷ views) row =
      any_same (λ x. found_in test named (row ++ x ∷ []) views) (from row views)
      (λ x. found_is views (row ++ x ∷ []) ∙ any_same (λ r. test ((row ++ x ∷ []) ++ r)) (λ r. test (row ++ x ∷ r)) (λ r. ap test (append_assoc row (x ∷ []) r)) (product views))
      (if named (length row) then view else take 1 view)
      ∙ narrow row views view (named (length row)) refl
      ∙ sym (over row views view)

-- the product of what is read of each row
module _ {X Y : Type 0} (f : X → Y) where
  behind : (x : X) (rows : List (List X)) → map (λ r. f x ∷ r) (map (map f) rows) ≡ map (map f) (map (λ r. x ∷ r) rows)
  behind x [] = refl
  behind x (r ∷ rows) = ap (λ z. (f x ∷ map f r) ∷ z) (behind x rows)

  both : (a b : List (List X)) → map (map f) a ++ map (map f) b ≡ map (map f) (a ++ b)
  both [] b = refl
  both (r ∷ a) b = ap (λ z. map f r ∷ z) (both a b)

  side : (views : List (List X)) → product (map (map f) views) ≡ map (map f) (product views)
      → (view : List X) → product (map f view ∷ map (map f) views) ≡ map (map f) (product (view ∷ views))
  side views ih [] = refl
  side views ih (x ∷ view) =
      ap (λ z. map (λ r. f x ∷ r) z ++ product (map f view ∷ map (map f) views)) ih
      ∙ ap (λ z. z ++ product (map f view ∷ map (map f) views)) (behind x (product views))
      ∙ ap (λ z. map (map f) (map (λ r. x ∷ r) (product views)) ++ z) (side views ih view)
      ∙ both (map (λ r. x ∷ r) (product views)) (product (view ∷ views))

  pub product_map : (views : List (List X)) → product (map (map f) views) ≡ map (map f) (product views)
  product_map [] = refl
  product_map (view ∷ views) = side views (product_map views) view

read_twice : (rows : List (RowNo × Bor (List Cell))) → cells_in rows ≡ cells_of (lines rows)
read_twice [] = refl
read_twice (row ∷ rows) = ap (λ z. row.1.now ∷ z) (read_twice rows)

read_views : (sources : List Source) → cell_views sources ≡ map cells_of (views sources)
read_views [] = refl
read_views (source ∷ sources) = ap (λ z. z ∷ cell_views sources) (read_twice source.rows.items) ∙ ap (λ z. cells_of (rows_of source) ∷ z) (read_views sources)

-- the search over cells finds what stands in some combination
pub everywhere : (test : List (List Cell) → Bool) (named : ℕ → Bool)
    → ((a b : List (List Cell)) → ((t : ℕ) → named t ≡ true → slice_get a t ≡ slice_get b t) → test a ≡ test b)
    → (sources : List Source) (row : List (List Cell)) (found : Bool) → row ≡ [] → found ≡ found_in test named row (cell_views sources)
    → found ≡ list_any (λ combo. test (cells_of combo)) (product (views sources))
everywhere test named same sources row found none is =
    is ∙ ap (λ z. found_in test named z (cell_views sources)) none
    ∙ ap (found_in test named []) (read_views sources)
    ∙ found_is test named same (map cells_of (views sources)) []
    ∙ ap (list_any test) (product_map (λ (line : Line). line.1) (views sources))
    ∙ any_map test cells_of (product (views sources))

-- over rows of sound cells a test that no such row meets is met nowhere
sound_side : (test : List (List Cell) → Bool) (views : List (List Line))
    → ((test : List (List Cell) → Bool) → ((rows : List (List Cell)) → AreSound rows → test rows ≡ false) → list_any (λ combo. test (cells_of combo)) (product views) ≡ false)
    → ((rows : List (List Cell)) → AreSound rows → test rows ≡ false)
    → (view : List Line) → AreSoundRows (view ∷ [])
    → list_any (λ combo. test (cells_of combo)) (product (view ∷ views)) ≡ false
sound_side test views ih h [] sound = refl
sound_side test views ih h (x ∷ view) sound =
    any_append (λ combo. test (cells_of combo)) (map (λ r. x ∷ r) (product views)) (product (view ∷ views))
    ∙ ap (λ b. b || list_any (λ combo. test (cells_of combo)) (product (view ∷ views)))
    (any_map (λ combo. test (cells_of combo)) (λ r. x ∷ r) (product views) ∙ ih (λ rows. test (x.1 ∷ rows)) (λ rows s. h (x.1 ∷ rows) (sound.0.0, s)))
    ∙ sound_side test views ih h view (sound.0.1, sound.1)

pub nowhere : (views : List (List Line)) → AreSoundRows views → (test : List (List Cell) → Bool) → ((rows : List (List Cell)) → AreSound rows → test rows ≡ false)
    → list_any (λ combo. test (cells_of combo)) (product views) ≡ false
nowhere [] sound test h = or_false (test []) ∙ h [] tt
nowhere (view ∷ views) sound test h = sound_side test views (nowhere views sound.1) h view (sound.0, tt)
