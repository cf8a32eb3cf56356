-- A column's cell is the same by the place and by the name.
use Rattle.std.proofs.Common.{◌≡◌, ◌∙◌, refl, sym, ap, ℕ, suc, ◌+◌, Bool, true, false, ◌&&◌, cond, List, [], ◌∷◌, ◌++◌, map, Option, Some, arith}
use Rattle.std.specs.List.{enumerate_from, filter, flat_map, slice_get, zip}
use Rattle.std.specs.Str.{bytes_eq}
use Rattle.std.proofs.lemmas.List.{map-append}
use Rattle.std.proofs.lemmas.List.Elements.{filter-append}
use Rattle.au_base.specs.declared.cell.Cell.{Cell}
use Rattle.au_base.specs.declared.table.Column.{Column}
use Rattle.au_expr.specs.declared.placed.Place.{Place}
use Rattle.au_expr.specs.Names.{place_of, places, places_in, places_of}
use Rattle.au_expr.specs.Placing.{cell_at, cell_in_row, cell_or_null}
use Rattle.au_expr.specs.Rows.{FitsColumns, FitsRanges, NamedCell, Range, is_meant, is_range, named, named_in, named_of}

abbrev content : NamedCell → Cell
content c = c.content

-- the n-th element and those behind it stand in the list as in what is left of it
abbrev pub StandsFrom : {X : Type 0} → ℕ → List X → List X → Type 0
StandsFrom n xs rest = (i : ℕ) → slice_get xs (n + i) ≡ slice_get rest i

pub stands_on : {X : Type 0} (n : ℕ) (xs : List X) (x : X) (rest : List X) → StandsFrom n xs (x ∷ rest) → StandsFrom (n + 1) xs rest
stands_on n xs x rest h i = let e : (n + 1) + i ≡ n + suc i = omega arith in ap (slice_get xs) e ∙ h (suc i)

pub stands_first : {X : Type 0} (n : ℕ) (xs : List X) (x : X) (rest : List X) → StandsFrom n xs (x ∷ rest) → slice_get xs n ≡ Some x
stands_first n xs x rest h = let e : n ≡ n + 0 = omega arith in ap (slice_get xs) e ∙ h 0

-- a pair that is kept and one that isn't, on both sides
kept : {X Y Z : Type 0} (f : X → Z) (g : Y → Z) (b c : Bool) → b ≡ c → (x : X) (y : Y) (xs : List X) (ys : List Y) → f x ≡ g y → map f xs ≡ map g ys
    → map f (cond b (x ∷ xs) xs) ≡ map g (cond c (y ∷ ys) ys)
kept f g true true e x y xs ys same rest = ap (λ z. z ∷ map f xs) same ∙ ap (λ z. g y ∷ z) rest
kept f g false false e x y xs ys same rest = rest
kept f g true false e x y xs ys same rest = absurd (cc)
kept f g false true e x y xs ys same rest = absurd (cc)

module _ (written : Option (List ℕ)) (name : List ℕ) (rows : List (List Cell)) where
  abbrev has_name : ℕ × Column → Bool
  has_name p = bytes_eq p.1.name name

  meant_here : (range : List ℕ) → is_range written range ≡ true → (column : Column) (c : Cell) → has_name (0, column) ≡ is_meant written name (named_of range (column, c))
  meant_here range e column c = ap (λ b. b && bytes_eq column.name name) (sym e)

  -- the columns of a range that is meant
  in_columns : (number : ℕ) (range : List ℕ) (row : List Cell) → is_range written range ≡ true → slice_get rows number ≡ Some row
      → (from : ℕ) (columns : List Column) (cells : List Cell) → StandsFrom from row cells → FitsColumns columns cells
      → map (cell_at rows) (map (place_of number) (filter has_name (enumerate_from from columns)))
      ≡ map content (filter (is_meant written name) (map (named_of range) (zip columns cells)))
  in_columns number range row e at from [] [] stands fits = refl
  in_columns number range row e at from [] (c ∷ cells) stands fits = absurd fits
  in_columns number range row e at from (column ∷ columns) [] stands fits = absurd fits
  in_columns number range row e at from (column ∷ columns) (c ∷ cells) stands fits =
      let rest = in_columns number range row e at (from + 1) columns cells (stands_on from row c cells stands) fits.1 in
      let here : cell_at rows (place_of number (from, column)) ≡ c = ap (cell_in_row from) at ∙ ap cell_or_null (stands_first from row c cells stands) in
      pull (has_name (from, column)) (place_of number) (from, column) (filter has_name (enumerate_from (from + 1) columns))
      ∙ kept (cell_at rows) content (has_name (from, column)) (is_meant written name (named_of range (column, c))) (meant_here range e column c)
      (place_of number (from, column)) (named_of range (column, c)) (map (place_of number) (filter has_name (enumerate_from (from + 1) columns)))
      (filter (is_meant written name) (map (named_of range) (zip columns cells))) here rest
    where
      pull : (b : Bool) (f : ℕ × Column → Place) (x : ℕ × Column) (xs : List (ℕ × Column))
          → map (cell_at rows) (map f (cond b (x ∷ xs) xs)) ≡ map (cell_at rows) (cond b (f x ∷ map f xs) (map f xs))
      pull true f x xs = refl
      pull false f x xs = refl

  -- the columns of a range that isn't
  not_meant : (range : List ℕ) → is_range written range ≡ false → (pairs : List (Column × Cell)) → filter (is_meant written name) (map (named_of range) pairs) ≡ []
  not_meant range e [] = refl
  not_meant range e (p ∷ pairs) =
      ap (λ b. cond (b && bytes_eq p.0.name name) (named_of range p ∷ filter (is_meant written name) (map (named_of range) pairs)) (filter (is_meant written name) (map (named_of range) pairs))) e
      ∙ not_meant range e pairs

  in_range : (number : ℕ) (range : Range) (row : List Cell) → slice_get rows number ≡ Some row → FitsColumns range.1 row
      → map (cell_at rows) (places_of written name (number, range)) ≡ map content (filter (is_meant written name) (named_in (range, row)))
  in_range number range row at fits = by_case (is_range written range.0) refl
    where
      by_case : (b : Bool) → is_range written range.0 ≡ b → map (cell_at rows) (cond b (places_in number name range.1) []) ≡ map content (filter (is_meant written name) (named_in (range, row)))
      by_case true e = in_columns number range.0 row e at 0 range.1 row (λ i. ap (slice_get row) (let z : 0 + i ≡ i = omega arith in z)) fits
      by_case false e = sym (ap (map content) (not_meant range.0 e (zip range.1 row)))

  in_ranges : (number : ℕ) (ranges : List Range) (rest : List (List Cell)) → StandsFrom number rows rest → FitsRanges ranges rest
      → map (cell_at rows) (flat_map (places_of written name) (enumerate_from number ranges)) ≡ map content (filter (is_meant written name) (flat_map named_in (zip ranges rest)))
  in_ranges number [] [] stands fits = refl
  in_ranges number [] (row ∷ rest) stands fits = absurd fits
  in_ranges number (range ∷ ranges) [] stands fits = absurd fits
  in_ranges number (range ∷ ranges) (row ∷ rest) stands fits =
      let later = in_ranges (number + 1) ranges rest (stands_on number rows row rest stands) fits.1 in
      let here = in_range number range row (stands_first number rows row rest stands) fits.0 in
      map-append (cell_at rows) (places_of written name (number, range)) (flat_map (places_of written name) (enumerate_from (number + 1) ranges))
      ∙ ap (λ z. z ++ map (cell_at rows) (flat_map (places_of written name) (enumerate_from (number + 1) ranges))) here
      ∙ ap (λ z. map content (filter (is_meant written name) (named_in (range, row))) ++ z) later
      ∙ sym (map-append content (filter (is_meant written name) (named_in (range, row))) (filter (is_meant written name) (flat_map named_in (zip ranges rest))))
      ∙ ap (map content) (sym (filter-append (is_meant written name) (named_in (range, row)) (flat_map named_in (zip ranges rest))))

pub cells_at_places : (written : Option (List ℕ)) (name : List ℕ) (ranges : List Range) (rows : List (List Cell)) → FitsRanges ranges rows
    → map (cell_at rows) (places ranges written name) ≡ map content (filter (is_meant written name) (named ranges rows))
cells_at_places written name ranges rows fits = in_ranges written name rows 0 ranges rows (λ i. ap (slice_get rows) (let z : 0 + i ≡ i = omega arith in z)) fits
