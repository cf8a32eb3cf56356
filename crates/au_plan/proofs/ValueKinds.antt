-- A value that may stand for a column gives a cell of the column's kind, or NULL.
use Rattle.std.proofs.Common.{◌≡◌, ◌∙◌, refl, sym, ap, subst, ℕ, zero, suc, ◌+◌, ℤ, pos, ◌+ℤ◌, ◌-ℤ◌, ◌*ℤ◌, Bool, true, false, cond, List, [], ◌∷◌, ◌++◌, map, Option, Some, None, if◌then◌else◌, arith}
use Rattle.std.specs.List.{AllByRecursion, enumerate_from, filter, flat_map, list_all, list_any, slice_get}
use Rattle.std.specs.Str.{bytes_eq}
use Rattle.au_base.specs.declared.cell.Cell.{Cell}
use Rattle.au_base.specs.declared.cell.Cell.TheVariants.{Null, Num, Text, Moment}
use Rattle.au_base.specs.declared.code.Code.{Code}
use Rattle.au_base.specs.declared.table.Column.{Column}
use Rattle.au_base.specs.declared.table.ColumnKind.{ColumnKind}
use Rattle.au_base.specs.declared.table.ColumnKind.TheVariants as kind
use Rattle.au_base.specs.Cells.{text_cell}
use Rattle.au_base.specs.Codes.{WRONG_KIND}
use Rattle.sql_ast.specs.declared.expression.Expr.{Expr}
use Rattle.sql_ast.specs.declared.expression.Expr.TheOpen as part
use Rattle.sql_ast.specs.declared.expression.Expr.TheViews.{roll-Expr}
use Rattle.sql_ast.specs.declared.expression.Expr.TheFolds.{fold-roll-Expr, ind-Expr, map-Expr}
use Rattle.au_expr.specs.declared.kind.ExprKind.{ExprKind}
use Rattle.au_expr.specs.declared.kind.ExprKind.TheVariants as e
use Rattle.au_expr.specs.declared.placed.Place.{Place}
use Rattle.au_expr.specs.declared.placed.Placed.{Placed}
use Rattle.au_expr.specs.declared.placed.Placed.TheVariants as tree
use Rattle.au_expr.specs.declared.placed.Placed.TheOpen as placed_part
use Rattle.au_expr.specs.declared.placed.Placed.TheViews.{roll-Placed}
use Rattle.au_expr.specs.declared.placed.Placed.TheFolds.{fold-roll-Placed, map-Placed}
use Rattle.au_expr.specs.Kinds as kinds
use Rattle.au_expr.specs.Kinds.{given_where, goes_with, is_one_kind, is_truth, kind_of_context, kind_of_places, same_kind}
use Rattle.au_expr.specs.Names.{name_code, or_code, place_of, places, places_in, places_of}
use Rattle.au_expr.specs.Operators.{added, exact, has_digits, multiplied, number, plus, product_from, sum_from, times}
use Rattle.au_expr.specs.Placing as by_place
use Rattle.au_expr.specs.Placing.{cell_at, cell_in_row, cell_or_null, signed_values_at, value_at, values_at}
use Rattle.au_expr.specs.Resolving as resolving
use Rattle.au_expr.specs.Resolving.{column_at, context_at, is_value, placed, value_code}
use Rattle.au_expr.specs.Rows.{FitsColumns, FitsRanges, IsOfKind, Range, is_range}
use Rattle.au_expr.specs.Sessions.{Session, is_number, is_user}
use Rattle.au_expr.specs.Values.{Value, Is, Overflows, cell_in, is_overflow, unless_overflow}

-- the value gives a cell of the kind
abbrev Gives : ColumnKind → Value → Type 0
Gives k v = IsOfKind k (cell_in v)

null_is : (k : ColumnKind) → IsOfKind k Null
null_is kind.Number = tt
null_is kind.Text = tt
null_is kind.Moment = tt

-- ---- numbers

abbrev GivesNumber : Value → Type 0
GivesNumber v = Gives kind.Number v

unless_number : (operands : List Value) (v : Value) → GivesNumber v → GivesNumber (unless_overflow operands v)
unless_number operands v h = by_case (list_any is_overflow operands)
  where
    by_case : (b : Bool) → GivesNumber (if b then Overflows else v)
    by_case true = tt
    by_case false = h

exact_number : (n : ℤ) → GivesNumber (exact n)
exact_number n = by_case (has_digits n)
  where
    by_case : (b : Bool) → GivesNumber (if b then Is (Num n) else Overflows)
    by_case true = tt
    by_case false = tt

plus_number : (minus : Bool) (a b : Cell) → GivesNumber (plus minus a b)
plus_number false (Num a) (Num b) = exact_number (a +ℤ b)
plus_number true (Num a) (Num b) = exact_number (a -ℤ b)
plus_number false (Num a) Null = tt
plus_number false (Num a) (Text b) = tt
plus_number false (Num a) (Moment b) = tt
plus_number true (Num a) Null = tt
plus_number true (Num a) (Text b) = tt
plus_number true (Num a) (Moment b) = tt
plus_number false Null b = tt
plus_number true Null b = tt
plus_number false (Text a) b = tt
plus_number true (Text a) b = tt
plus_number false (Moment a) b = tt
plus_number true (Moment a) b = tt

times_number : (a b : Cell) → GivesNumber (times a b)
times_number (Num a) (Num b) = exact_number (a *ℤ b)
times_number (Num a) Null = tt
times_number (Num a) (Text b) = tt
times_number (Num a) (Moment b) = tt
times_number Null b = tt
times_number (Text a) b = tt
times_number (Moment a) b = tt

added_number : (minus : Bool) (a b : Value) → GivesNumber (added minus a b)
added_number minus a b = unless_number (a ∷ b ∷ []) (plus minus (cell_in a) (cell_in b)) (plus_number minus (cell_in a) (cell_in b))

multiplied_number : (a b : Value) → GivesNumber (multiplied a b)
multiplied_number a b = unless_number (a ∷ b ∷ []) (times (cell_in a) (cell_in b)) (times_number (cell_in a) (cell_in b))

sum_number : (before : Value) (parts : List (Bool × Value)) → GivesNumber before → GivesNumber (sum_from before parts)
sum_number before [] h = h
sum_number before (p ∷ parts) h = sum_number (added p.0 before p.1) parts (added_number p.0 before p.1)

product_number : (before : Value) (parts : List Value) → GivesNumber before → GivesNumber (product_from before parts)
product_number before [] h = h
product_number before (p ∷ parts) h = product_number (multiplied before p) parts (multiplied_number before p)

-- ---- kinds

text_given : (t : List ℕ) → IsOfKind kind.Text (text_cell t)
text_given [] = tt
text_given (b ∷ t) = tt

-- kinds that are the same are one
one_kind : (a b : ColumnKind) → same_kind a b ≡ true → b ≡ a
one_kind kind.Number kind.Number is = refl
one_kind kind.Text kind.Text is = refl
one_kind kind.Moment kind.Moment is = refl
one_kind kind.Number kind.Text is = absurd (let e : false ≡ true = is in cc)
one_kind kind.Number kind.Moment is = absurd (let e : false ≡ true = is in cc)
one_kind kind.Text kind.Number is = absurd (let e : false ≡ true = is in cc)
one_kind kind.Text kind.Moment is = absurd (let e : false ≡ true = is in cc)
one_kind kind.Moment kind.Number is = absurd (let e : false ≡ true = is in cc)
one_kind kind.Moment kind.Text is = absurd (let e : false ≡ true = is in cc)

-- a truth stands for no column
no_truth : (k : ColumnKind) (b : Bool) → goes_with k (given_where e.Truth b) ≡ true → ⊥
no_truth k true is = let e : false ≡ true = is in cc
no_truth k false is = let e : false ≡ true = is in cc

-- what is of one kind stands for columns of this kind
of_one : (k other : ColumnKind) (b : Bool) (v : Value) → goes_with k (given_where (e.Of other) b) ≡ true → Gives other v → Gives k v
of_one k other true v is h = subst (λ (a : ColumnKind). Gives a v) (one_kind k other is) h
of_one k other false v is h = absurd (let e : false ≡ true = is in cc)

-- ---- cells of rows that fit

abbrev StandsFrom : {X : Type 0} → ℕ → List X → List X → Type 0
StandsFrom n xs rest = (i : ℕ) → slice_get xs (n + i) ≡ slice_get rest i

stands_on : {X : Type 0} (n : ℕ) (xs : List X) (x : X) (rest : List X) → StandsFrom n xs (x ∷ rest) → StandsFrom (n + 1) xs rest
stands_on n xs x rest h i = let e : (n + 1) + i ≡ n + suc i = omega arith in ap (slice_get xs) e ∙ h (suc i)

stands_first : {X : Type 0} (n : ℕ) (xs : List X) (x : X) (rest : List X) → StandsFrom n xs (x ∷ rest) → slice_get xs n ≡ Some x
stands_first n xs x rest h = let e : n ≡ n + 0 = omega arith in ap (slice_get xs) e ∙ h 0

module _ (written : Option (List ℕ)) (name : List ℕ) (rows : List (List Cell)) where
  abbrev HasKind : Place → Type 0
  HasKind p = IsOfKind p.kind (cell_at rows p)

  abbrev AllHave : List Place → Type 0
  AllHave ps = AllByRecursion HasKind ps

  both_have : (xs ys : List Place) → AllHave xs → AllHave ys → AllHave (xs ++ ys)
  both_have [] ys h k = k
  both_have (x ∷ xs) ys h k = (h.0, both_have xs ys h.1 k)

  in_columns : (range : ℕ) (row : List Cell) → slice_get rows range ≡ Some row → (from : ℕ) (columns : List Column) (cells : List Cell)
      → StandsFrom from row cells → FitsColumns columns cells
      → AllHave (map (place_of range) (filter (λ (p : ℕ × Column). bytes_eq p.1.name name) (enumerate_from from columns)))
  in_columns range row at from [] [] stands fits = tt
  in_columns range row at from [] (c ∷ cells) stands fits = absurd fits
  in_columns range row at from (column ∷ columns) [] stands fits = absurd fits
  in_columns range row at from (column ∷ columns) (c ∷ cells) stands fits =
      let here : cell_at rows (place_of range (from, column)) ≡ c = ap (cell_in_row from) at ∙ ap cell_or_null (stands_first from row c cells stands) in
      with_first (bytes_eq column.name name) (place_of range) (from, column) (filter (λ (p : ℕ × Column). bytes_eq p.1.name name) (enumerate_from (from + 1) columns))
      (subst (λ x. IsOfKind column.kind x) (sym here) fits.0)
      (in_columns range row at (from + 1) columns cells (stands_on from row c cells stands) fits.1)
    where
      with_first : (b : Bool) (f : ℕ × Column → Place) (x : ℕ × Column) (xs : List (ℕ × Column)) → HasKind (f x) → AllHave (map f xs) → AllHave (map f (cond b (x ∷ xs) xs))
      with_first true f x xs h k = (h, k)
      with_first false f x xs h k = k

  in_range : (number : ℕ) (range : Range) (row : List Cell) → slice_get rows number ≡ Some row → FitsColumns range.1 row → AllHave (places_of written name (number, range))
  in_range number range row at fits = by_case (is_range written range.0)
    where
      by_case : (b : Bool) → AllHave (cond b (places_in number name range.1) [])
      by_case true = in_columns number row at 0 range.1 row (λ i. ap (slice_get row) (let z : 0 + i ≡ i = omega arith in z)) fits
      by_case false = tt

  in_ranges : (number : ℕ) (ranges : List Range) (rest : List (List Cell)) → StandsFrom number rows rest → FitsRanges ranges rest
      → AllHave (flat_map (places_of written name) (enumerate_from number ranges))
  in_ranges number [] [] stands fits = tt
  in_ranges number [] (row ∷ rest) stands fits = absurd fits
  in_ranges number (range ∷ ranges) [] stands fits = absurd fits
  in_ranges number (range ∷ ranges) (row ∷ rest) stands fits =
      both_have (places_of written name (number, range)) (flat_map (places_of written name) (enumerate_from (number + 1) ranges))
      (in_range number range row (stands_first number rows row rest stands) fits.0)
      (in_ranges (number + 1) ranges rest (stands_on number rows row rest stands) fits.1)

module _ (ranges : List Range) (rows : List (List Cell)) (session : Session) (fits : FitsRanges ranges rows) where
  abbrev at : Placed → Value
  at = value_at rows session

  -- what a tree gives, by its outermost operator
  form : (k : ColumnKind) (x : placed_part.Placed-F Placed) (t : Placed) → roll-Placed x ≡ t → Gives k (by_place.step rows session (map-Placed Placed Value at x)) → Gives k (at t)
  form k x t is h = subst (λ (t : Placed). Gives k (at t)) is (subst (Gives k) (sym (fold-roll-Placed Value (by_place.step rows session) x)) h)

  null_given : (k : ColumnKind) → Gives k (at tree.Null)
  null_given k = form k placed_part.Null tree.Null tree.rolls-Null (null_is k)

  at_column : (k : ColumnKind) (ps : List Place) → AllByRecursion (λ (p : Place). IsOfKind p.kind (cell_at rows p)) ps → goes_with k (kind_of_places ps) ≡ true → Gives k (at (column_at ps))
  at_column k [] h is = absurd (let e : false ≡ true = is in cc)
  at_column k (p ∷ []) h is =
      form k (placed_part.Column p) (tree.Column p) (tree.rolls-Column p) (subst (λ (a : ColumnKind). IsOfKind a (cell_at rows p)) (one_kind k p.kind is) h.0)
  at_column k (p ∷ q ∷ ps) h is = absurd (let e : false ≡ true = is in cc)

  text_at : (k : ColumnKind) (t : Placed) → same_kind k kind.Text ≡ true → Gives kind.Text (at t) → Gives k (at t)
  text_at k t is h = subst (λ (a : ColumnKind). Gives a (at t)) (one_kind k kind.Text is) h

  user_given : Gives kind.Text (at tree.User)
  user_given = form kind.Text placed_part.User tree.User tree.rolls-User tt

  number_given : Gives kind.Text (at tree.SessionNumber)
  number_given = form kind.Text placed_part.SessionNumber tree.SessionNumber tree.rolls-SessionNumber tt

  at_context : (k : ColumnKind) (attribute : List ℕ) → goes_with k (Some (kind_of_context attribute)) ≡ true → Gives k (at (context_at attribute))
  at_context k attribute = by_case (is_number attribute) (is_user attribute)
    where
      by_case : (a b : Bool) → goes_with k (Some (if a then e.Of kind.Text else (if b then e.Of kind.Text else e.Any))) ≡ true → Gives k (at (if a then tree.SessionNumber else (if b then tree.User else tree.Null)))
      by_case true b is = text_at k tree.SessionNumber is number_given
      by_case false true is = text_at k tree.User is user_given
      by_case false false is = null_given k

  -- an expression that goes with a kind gives a cell of it
  abbrev Good : Expr → Type 0
  Good x = (k : ColumnKind) → goes_with k (kinds.kind ranges x) ≡ true → Gives k (at (placed ranges x))

  unrolled : (x : part.Expr-F Expr)
      → ((k : ColumnKind) → goes_with k (kinds.step ranges (map-Expr Expr (Option ExprKind) (kinds.kind ranges) x)) ≡ true → Gives k (at (resolving.step ranges (map-Expr Expr Placed (placed ranges) x))))
      → Good (roll-Expr x)
  unrolled x f k is =
      subst (λ (t : Placed). Gives k (at t)) (sym (fold-roll-Expr Placed (resolving.step ranges) x))
      (f k (ap (goes_with k) (sym (fold-roll-Expr (Option ExprKind) (kinds.step ranges) x)) ∙ is))

  -- a truth
  never : (x : part.Expr-F Expr) (b : Bool) → kinds.step ranges (map-Expr Expr (Option ExprKind) (kinds.kind ranges) x) ≡ given_where e.Truth b → Good (roll-Expr x)
  never x b same = unrolled x (λ k is. absurd (no_truth k b (ap (goes_with k) (sym same) ∙ is)))

  abbrev firsts : List ((x : Expr) × Good x) → List Expr
  firsts ys = map (λ y. y.0) ys

  abbrev their : List ((x : Expr) × Good x) → List Placed
  their ys = map (placed ranges) (firsts ys)

  abbrev place : Bool × Expr → Bool × Placed
  place p = (p.0, placed ranges p.1)

  cases : (y : part.Expr-F ((x : Expr) × Good x)) → Good (roll-Expr (map-Expr ((x : Expr) × Good x) Expr (λ x. x.0) y))
  cases (part.Or ys) = never (part.Or (firsts ys)) _ refl
  cases (part.And ys) = never (part.And (firsts ys)) _ refl
  cases (part.Not a) = never (part.Not a.0) _ refl
  cases (part.Compare r a b) = never (part.Compare r a.0 b.0) _ refl
  cases (part.IsNull a n) = never (part.IsNull a.0 n) _ refl
  cases (part.Like a b n) = never (part.Like a.0 b.0 n) _ refl
  cases (part.In a ys n) = never (part.In a.0 (firsts ys) n) _ refl
  cases (part.Between a b c n) = never (part.Between a.0 b.0 c.0 n) _ refl
  cases (part.Sum ys) = let xs = map place (map (λ y. (y.0, y.1.0)) ys) in unrolled (part.Sum (map (λ y. (y.0, y.1.0)) ys))
      (λ k is. of_one k kind.Number _ (at (tree.Sum xs)) is (form kind.Number (placed_part.Sum xs) (tree.Sum xs) (tree.rolls-Sum xs) (sum_number (number (pos 0)) (signed_values_at rows session xs) tt)))
  cases (part.Product ys) = unrolled (part.Product (firsts ys))
      (λ k is. of_one k kind.Number _ (at (tree.Product (their ys))) is (form kind.Number (placed_part.Product (their ys)) (tree.Product (their ys)) (tree.rolls-Product (their ys)) (product_number (number (pos 1)) (values_at rows session (their ys)) tt)))
  cases (part.Negate a) = let x = placed ranges a.0 in unrolled (part.Negate a.0)
      (λ k is. of_one k kind.Number _ (at (tree.Negate x)) is (form kind.Number (placed_part.Negate x) (tree.Negate x) (tree.rolls-Negate x) (added_number true (number (pos 0)) (at x))))
  cases (part.Number n) = unrolled (part.Number n) (λ k is. of_one k kind.Number true (at (tree.Number n)) is (form kind.Number (placed_part.Number n) (tree.Number n) (tree.rolls-Number n) tt))
  cases (part.Literal t) = unrolled (part.Literal t) (λ k is. text_at k (tree.Literal t) is (form kind.Text (placed_part.Literal t) (tree.Literal t) (tree.rolls-Literal t) (text_given t)))
  cases part.Null = unrolled part.Null (λ k is. null_given k)
  cases (part.Column written name) = unrolled (part.Column written name)
      (λ k is. at_column k (places ranges written name) (in_ranges written name rows 0 ranges rows (λ i. ap (slice_get rows) (let z : 0 + i ≡ i = omega arith in z)) fits) is)
  cases part.User = unrolled part.User (λ k is. text_at k tree.User is user_given)
  cases part.Now = unrolled part.Now (λ k is. of_one k kind.Moment true (at tree.Now) is (form kind.Moment placed_part.Now tree.Now tree.rolls-Now tt))
  cases (part.Moment m) = unrolled (part.Moment m) (λ k is. of_one k kind.Moment true (at (tree.Moment m)) is (form kind.Moment (placed_part.Moment m) (tree.Moment m) (tree.rolls-Moment m) tt))
  cases (part.Context attribute) = unrolled (part.Context attribute) (λ k is. at_context k attribute is)

  good : (x : Expr) → Good x
  good = ind-Expr Good (λ x y is. subst (λ z. Good (roll-Expr z)) is (cases y))

  goes_at : (k : ColumnKind) (x : Expr) (b : Bool) → is_value (Some k) (kinds.kind ranges x) ≡ b → (found : Option Code) → or_code found (if b then None else Some WRONG_KIND) ≡ None → b ≡ true
  goes_at k x true same found none = refl
  goes_at k x false same (Some code) none = absurd (let e : Some code ≡ None = none in cc)
  goes_at k x false same None none = absurd (let e : Some WRONG_KIND ≡ None = none in cc)

  -- so does one that nothing refuses as a value for a column of the kind
  pub value_of_kind : (k : ColumnKind) (x : Expr) → value_code (Some k) ranges x ≡ None → IsOfKind k (cell_in (value_at rows session (placed ranges x)))
  value_of_kind k x unrefused =
      good x k (goes_at k x (goes_with k (kinds.kind ranges x)) refl (name_code ranges x) unrefused)
