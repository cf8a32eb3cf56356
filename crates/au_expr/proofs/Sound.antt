-- A resolved expression gives a sound value of its kind.
use Rattle.std.proofs.Common.{◌≡◌, ◌≢◌, ◌∙◌, refl, sym, ap, subst, ℕ, zero, suc, ◌+◌, ◌≤◌, nat_le, ℤ, pos, ◌+ℤ◌, ◌-ℤ◌, ◌*ℤ◌, Bool, true, false, cond, List, [], ◌∷◌, ◌++◌, map, Option, Some, length, ◌<◌, ◌^◌, if◌then◌else◌, arith}
use Rattle.std.specs.List.{AllByRecursion, enumerate_from, filter, flat_map, list_any, slice_get}
use Rattle.std.specs.Fmt.{decimal}
use Rattle.std.proofs.lemmas.Fmt.{decimal_nonempty}
use Rattle.std.specs.Str.{bytes_eq}
use Rattle.std.proofs.lemmas.Int.{ints}
use Rattle.std.proofs.lemmas.Bool.Decides.{nat_tests}
use Rattle.au_base.specs.declared.cell.Cell.{Cell}
use Rattle.au_base.specs.declared.cell.Cell.TheVariants.{Null, Num, Text, Moment}
use Rattle.au_base.specs.declared.table.Column.{Column}
use Rattle.au_base.specs.declared.table.ColumnKind.TheVariants as kind
use Rattle.au_base.specs.declared.truth.Truth.{Truth}
use Rattle.au_base.specs.Cells.{IsSoundCell, text_cell}
use Rattle.au_base.specs.Limits.{LAST_MOMENT}
use Rattle.au_base.specs.Numbers.{FitsDigits}
use Rattle.sql_ast.specs.declared.expression.Expr.{Expr}
use Rattle.sql_ast.specs.declared.expression.Expr.TheOpen as part
use Rattle.sql_ast.specs.declared.expression.Expr.TheViews.{roll-Expr}
use Rattle.sql_ast.specs.declared.expression.Expr.TheFolds.{fold-roll-Expr, ind-Expr, map-Expr}
use Rattle.au_expr.specs.declared.kind.ExprKind.{ExprKind}
use Rattle.au_expr.specs.declared.kind.ExprKind.TheVariants as e
use Rattle.au_expr.specs.declared.placed.Place.{Place}
use Rattle.au_expr.specs.declared.placed.Placed.{Placed}
use Rattle.au_expr.specs.declared.placed.Placed.TheVariants as tree
use Rattle.au_expr.specs.declared.placed.Placed.TheOpen as placed_part
use Rattle.au_expr.specs.declared.placed.Placed.TheViews.{roll-Placed}
use Rattle.au_expr.specs.declared.placed.Placed.TheFolds.{fold-roll-Placed, map-Placed}
use Rattle.au_expr.specs.Kinds.{kind_at, placed_step}
use Rattle.au_expr.specs.Names.{place_of, places, places_in, places_of}
use Rattle.au_expr.specs.Operators.{added, exact, has_digits, multiplied, number, plus, product_from, sum_from, times}
use Rattle.au_expr.specs.Placing as by_place
use Rattle.au_expr.specs.Placing.{cell_at, cell_in_row, cell_or_null, signed_values_at, value_at, values_at}
use Rattle.au_expr.specs.Resolving.{IsResolved, column_at, context_at, placed}
use Rattle.au_expr.specs.Resolving as resolving
use Rattle.au_expr.specs.Rows.{AreSound, FitsColumns, FitsRanges, IsOfKind, Range, is_range}
use Rattle.au_expr.specs.Sessions.{IsSoundSession, Session, is_number, is_user}
use Rattle.au_expr.specs.Soundness.{IsValueOf, has_sound_literals}
use Rattle.au_expr.specs.Soundness as soundness
use Rattle.au_expr.specs.Values.{Value, Is, Holds, Overflows, cell_in, is_overflow, unless_overflow}
use Rattle.au_expr.proofs.Named.{StandsFrom, stands_first, stands_on}

digits_fit : (n : ℤ) → has_digits n ≡ true → FitsDigits n
digits_fit n h = record { low = grind (arith, ints); high = grind (arith, ints) }

moment_fits : (m : ℕ) → nat_le m LAST_MOMENT ≡ true → m ≤ LAST_MOMENT
moment_fits m h = grind (arith, nat_tests)

-- a truth of operands, unless one overflows
truth_or : (operands : List Value) (t : Truth) → IsValueOf e.Truth (unless_overflow operands (Holds t))
truth_or operands t = by_case (list_any is_overflow operands)
  where
    by_case : (b : Bool) → IsValueOf e.Truth (if b then Overflows else Holds t)
    by_case true = tt
    by_case false = tt

-- numbers
abbrev IsNumber : Value → Type 0
IsNumber v = IsValueOf (e.Of kind.Number) v

unless_number : (operands : List Value) (v : Value) → IsNumber v → IsNumber (unless_overflow operands v)
unless_number operands v h = by_case (list_any is_overflow operands)
  where
    by_case : (b : Bool) → IsNumber (if b then Overflows else v)
    by_case true = tt
    by_case false = h

exact_number : (n : ℤ) → IsNumber (exact n)
exact_number n = by_case (has_digits n) refl
  where
    by_case : (b : Bool) → has_digits n ≡ b → IsNumber (if b then Is (Num n) else Overflows)
    by_case true h = (tt, digits_fit n h)
    by_case false h = tt

plus_number : (minus : Bool) (a b : Cell) → IsNumber (plus minus a b)
plus_number false (Num a) (Num b) = exact_number (a +ℤ b)
plus_number true (Num a) (Num b) = exact_number (a -ℤ b)
plus_number false (Num a) Null = (tt, tt)
plus_number false (Num a) (Text b) = (tt, tt)
plus_number false (Num a) (Moment b) = (tt, tt)
plus_number true (Num a) Null = (tt, tt)
plus_number true (Num a) (Text b) = (tt, tt)
plus_number true (Num a) (Moment b) = (tt, tt)
plus_number false Null b = (tt, tt)
plus_number true Null b = (tt, tt)
plus_number false (Text a) b = (tt, tt)
plus_number true (Text a) b = (tt, tt)
plus_number false (Moment a) b = (tt, tt)
plus_number true (Moment a) b = (tt, tt)

times_number : (a b : Cell) → IsNumber (times a b)
times_number (Num a) (Num b) = exact_number (a *ℤ b)
times_number (Num a) Null = (tt, tt)
times_number (Num a) (Text b) = (tt, tt)
times_number (Num a) (Moment b) = (tt, tt)
times_number Null b = (tt, tt)
times_number (Text a) b = (tt, tt)
times_number (Moment a) b = (tt, tt)

added_number : (minus : Bool) (a b : Value) → IsNumber (added minus a b)
added_number minus a b = unless_number (a ∷ b ∷ []) (plus minus (cell_in a) (cell_in b)) (plus_number minus (cell_in a) (cell_in b))

multiplied_number : (a b : Value) → IsNumber (multiplied a b)
multiplied_number a b = unless_number (a ∷ b ∷ []) (times (cell_in a) (cell_in b)) (times_number (cell_in a) (cell_in b))

sum_number : (before : Value) (parts : List (Bool × Value)) → IsNumber before → IsNumber (sum_from before parts)
sum_number before [] h = h
sum_number before (p ∷ parts) h = sum_number (added p.0 before p.1) parts (added_number p.0 before p.1)

product_number : (before : Value) (parts : List Value) → IsNumber before → IsNumber (product_from before parts)
product_number before [] h = h
product_number before (p ∷ parts) h = product_number (multiplied before p) parts (multiplied_number before p)

small : (n : ℤ) → has_digits n ≡ true → IsNumber (number n)
small n h = (tt, digits_fit n h)

-- texts
text_value : (t : List ℕ) → IsValueOf (e.Of kind.Text) (Is (text_cell t))
text_value [] = (tt, tt)
text_value (b ∷ t) = (tt, λ h. absurd (cc))

decimal_some : (n : ℕ) → n < 2 ^ 64 → decimal n ≢ []
decimal_some n small none = let some : 0 < length {A = ℕ} [] = subst (λ t. 0 < length t) none (decimal_nonempty n small) in absurd (omega (arith, some))

-- cells of sound rows
sound_get : (row : List Cell) (i : ℕ) → AllByRecursion IsSoundCell row → IsSoundCell (cell_or_null (slice_get row i))
sound_get [] i sound = tt
sound_get (c ∷ row) zero sound = sound.0
sound_get (c ∷ row) (suc i) sound = sound_get row i sound.1

sound_at : (rows : List (List Cell)) (range column : ℕ) → AreSound rows → IsSoundCell (cell_in_row column (slice_get rows range))
sound_at [] range column sound = tt
sound_at (row ∷ rows) zero column sound = sound_get row column sound.0
sound_at (row ∷ rows) (suc range) column sound = sound_at rows range column sound.1

-- each place of a name has a cell of its kind
module _ (written : Option (List ℕ)) (name : List ℕ) (rows : List (List Cell)) where
  abbrev HasKind : Place → Type 0
  HasKind p = IsOfKind p.kind (cell_at rows p)

  abbrev AllHave : List Place → Type 0
  AllHave ps = AllByRecursion HasKind ps

  both_have : (xs ys : List Place) → AllHave xs → AllHave ys → AllHave (xs ++ ys)
  both_have [] ys h k = k
  both_have (x ∷ xs) ys h k = (h.0, both_have xs ys h.1 k)

  in_columns : (range : ℕ) (row : List Cell) → slice_get rows range ≡ Some row → (from : ℕ) (columns : List Column) (cells : List Cell)
      → StandsFrom from row cells → FitsColumns columns cells
      → AllHave (map (place_of range) (filter (λ (p : ℕ × Column). bytes_eq p.1.name name) (enumerate_from from columns)))
  in_columns range row at from [] [] stands fits = tt
  in_columns range row at from [] (c ∷ cells) stands fits = absurd fits
  in_columns range row at from (column ∷ columns) [] stands fits = absurd fits
  in_columns range row at from (column ∷ columns) (c ∷ cells) stands fits =
      let here : cell_at rows (place_of range (from, column)) ≡ c = ap (cell_in_row from) at ∙ ap cell_or_null (stands_first from row c cells stands) in
      with_first (bytes_eq column.name name) (place_of range) (from, column) (filter (λ (p : ℕ × Column). bytes_eq p.1.name name) (enumerate_from (from + 1) columns))
      (subst (λ x. IsOfKind column.kind x) (sym here) fits.0)
      (in_columns range row at (from + 1) columns cells (stands_on from row c cells stands) fits.1)
    where
      with_first : (b : Bool) (f : ℕ × Column → Place) (x : ℕ × Column) (xs : List (ℕ × Column)) → HasKind (f x) → AllHave (map f xs) → AllHave (map f (cond b (x ∷ xs) xs))
      with_first true f x xs h k = (h, k)
      with_first false f x xs h k = k

  in_range : (number : ℕ) (range : Range) (row : List Cell) → slice_get rows number ≡ Some row → FitsColumns range.1 row → AllHave (places_of written name (number, range))
  in_range number range row at fits = by_case (is_range written range.0)
    where
      by_case : (b : Bool) → AllHave (cond b (places_in number name range.1) [])
      by_case true = in_columns number row at 0 range.1 row (λ i. ap (slice_get row) (let z : 0 + i ≡ i = omega arith in z)) fits
      by_case false = tt

  in_ranges : (number : ℕ) (ranges : List Range) (rest : List (List Cell)) → StandsFrom number rows rest → FitsRanges ranges rest
      → AllHave (flat_map (places_of written name) (enumerate_from number ranges))
  in_ranges number [] [] stands fits = tt
  in_ranges number [] (row ∷ rest) stands fits = absurd fits
  in_ranges number (range ∷ ranges) [] stands fits = absurd fits
  in_ranges number (range ∷ ranges) (row ∷ rest) stands fits =
      both_have (places_of written name (number, range)) (flat_map (places_of written name) (enumerate_from (number + 1) ranges))
      (in_range number range row (stands_first number rows row rest stands) fits.0)
      (in_ranges (number + 1) ranges rest (stands_on number rows row rest stands) fits.1)

module _ (ranges : List Range) (rows : List (List Cell)) (session : Session) (fits : FitsRanges ranges rows) (cells : AreSound rows) (sound : IsSoundSession session) where
  abbrev at : Placed → Value
  at = value_at rows session

  abbrev Gives : Placed → Type 0
  Gives t = IsValueOf (kind_at t) (at t)

  -- what a tree is and gives, by its outermost operator
  form : (x : placed_part.Placed-F Placed) (t : Placed) → roll-Placed x ≡ t
      → IsValueOf (placed_step (map-Placed Placed ExprKind kind_at x)) (by_place.step rows session (map-Placed Placed Value at x)) → Gives t
  form x t is h =
      subst Gives is
      (subst (λ k. IsValueOf k (at (roll-Placed x))) (sym (fold-roll-Placed ExprKind placed_step x))
      (subst (λ v. IsValueOf (placed_step (map-Placed Placed ExprKind kind_at x)) v) (sym (fold-roll-Placed Value (by_place.step rows session) x)) h))

  null_gives : Gives tree.Null
  null_gives = form placed_part.Null tree.Null tree.rolls-Null refl

  at_column : (ps : List Place) → AllByRecursion (λ (p : Place). IsOfKind p.kind (cell_at rows p)) ps → Gives (column_at ps)
  at_column [] h = null_gives
  at_column (p ∷ []) h = form (placed_part.Column p) (tree.Column p) (tree.rolls-Column p) (h.0, sound_at rows p.range p.column cells)
  at_column (p ∷ q ∷ ps) h = null_gives

  user_gives : Gives tree.User
  user_gives = form placed_part.User tree.User tree.rolls-User (tt, sound.named)

  number_gives : Gives tree.SessionNumber
  number_gives = form placed_part.SessionNumber tree.SessionNumber tree.rolls-SessionNumber (tt, decimal_some session.session.0 sound.counted)

  at_context : (attribute : List ℕ) → Gives (context_at attribute)
  at_context attribute = by_case (is_number attribute) (is_user attribute)
    where
      by_case : (a b : Bool) → Gives (if a then tree.SessionNumber else (if b then tree.User else tree.Null))
      by_case true b = number_gives
      by_case false true = user_gives
      by_case false false = null_gives

  abbrev Good : Expr → Type 0
  Good x = has_sound_literals x ≡ true → Gives (placed ranges x)

  unrolled : (x : part.Expr-F Expr)
      → (soundness.step (map-Expr Expr Bool has_sound_literals x) ≡ true → Gives (resolving.step ranges (map-Expr Expr Placed (placed ranges) x)))
      → Good (roll-Expr x)
  unrolled x f h = subst Gives (sym (fold-roll-Expr Placed (resolving.step ranges) x)) (f (sym (fold-roll-Expr Bool soundness.step x) ∙ h))

  abbrev firsts : List ((x : Expr) × Good x) → List Expr
  firsts ys = map (λ y. y.0) ys

  abbrev their : List ((x : Expr) × Good x) → List Placed
  their ys = map (placed ranges) (firsts ys)

  abbrev place : Bool × Expr → Bool × Placed
  place p = (p.0, placed ranges p.1)

  cases : (y : part.Expr-F ((x : Expr) × Good x)) → Good (roll-Expr (map-Expr ((x : Expr) × Good x) Expr (λ x. x.0) y))
  cases (part.Or ys) = unrolled (part.Or (firsts ys)) (λ h. form (placed_part.Or (their ys)) (tree.Or (their ys)) (tree.rolls-Or (their ys)) (truth_or (values_at rows session (their ys)) _))
  cases (part.And ys) = unrolled (part.And (firsts ys)) (λ h. form (placed_part.And (their ys)) (tree.And (their ys)) (tree.rolls-And (their ys)) (truth_or (values_at rows session (their ys)) _))
  cases (part.Not a) = let x = placed ranges a.0 in unrolled (part.Not a.0) (λ h. form (placed_part.Not x) (tree.Not x) (tree.rolls-Not x) (truth_or (at x ∷ []) _))
  cases (part.Compare r a b) = let x = placed ranges a.0 in let y = placed ranges b.0 in unrolled (part.Compare r a.0 b.0)
      (λ h. form (placed_part.Compare r x y) (tree.Compare r x y) (tree.rolls-Compare r x y) (truth_or (at x ∷ at y ∷ []) _))
  cases (part.IsNull a n) = let x = placed ranges a.0 in unrolled (part.IsNull a.0 n) (λ h. form (placed_part.IsNull x n) (tree.IsNull x n) (tree.rolls-IsNull x n) (truth_or (at x ∷ []) _))
  cases (part.Like a b n) = let x = placed ranges a.0 in let y = placed ranges b.0 in unrolled (part.Like a.0 b.0 n)
      (λ h. form (placed_part.Like x y n) (tree.Like x y n) (tree.rolls-Like x y n) (truth_or (at x ∷ at y ∷ []) _))
  cases (part.In a ys n) = let x = placed ranges a.0 in unrolled (part.In a.0 (firsts ys) n)
      (λ h. form (placed_part.In x (their ys) n) (tree.In x (their ys) n) (tree.rolls-In x (their ys) n) (truth_or (at x ∷ values_at rows session (their ys)) _))
  cases (part.Between a b c n) = let x = placed ranges a.0 in let y = placed ranges b.0 in let w = placed ranges c.0 in unrolled (part.Between a.0 b.0 c.0 n)
      (λ h. form (placed_part.Between x y w n) (tree.Between x y w n) (tree.rolls-Between x y w n) (truth_or (at x ∷ at y ∷ at w ∷ []) _))
  cases (part.Sum ys) = let xs = map place (map (λ y. (y.0, y.1.0)) ys) in unrolled (part.Sum (map (λ y. (y.0, y.1.0)) ys))
      (λ h. form (placed_part.Sum xs) (tree.Sum xs) (tree.rolls-Sum xs) (sum_number (number (pos 0)) (signed_values_at rows session xs) (small (pos 0) refl)))
  cases (part.Product ys) = unrolled (part.Product (firsts ys))
      (λ h. form (placed_part.Product (their ys)) (tree.Product (their ys)) (tree.rolls-Product (their ys)) (product_number (number (pos 1)) (values_at rows session (their ys)) (small (pos 1) refl)))
  cases (part.Negate a) = let x = placed ranges a.0 in unrolled (part.Negate a.0) (λ h. form (placed_part.Negate x) (tree.Negate x) (tree.rolls-Negate x) (added_number true (number (pos 0)) (at x)))
  cases (part.Number n) = unrolled (part.Number n) (λ h. form (placed_part.Number n) (tree.Number n) (tree.rolls-Number n) (small n h))
  cases (part.Literal t) = unrolled (part.Literal t) (λ h. form (placed_part.Literal t) (tree.Literal t) (tree.rolls-Literal t) (text_value t))
  cases part.Null = unrolled part.Null (λ h. null_gives)
  cases (part.Column written name) = unrolled (part.Column written name)
      (λ h. at_column (places ranges written name) (in_ranges written name rows 0 ranges rows (λ i. ap (slice_get rows) (let z : 0 + i ≡ i = omega arith in z)) fits))
  cases part.User = unrolled part.User (λ h. user_gives)
  cases part.Now = unrolled part.Now (λ h. form placed_part.Now tree.Now tree.rolls-Now (tt, sound.early))
  cases (part.Moment m) = unrolled (part.Moment m) (λ h. form (placed_part.Moment m) (tree.Moment m) (tree.rolls-Moment m) (tt, moment_fits m h))
  cases (part.Context attribute) = unrolled (part.Context attribute) (λ h. at_context attribute)

  good : (x : Expr) → Good x
  good = ind-Expr Good (λ x y is. subst (λ z. Good (roll-Expr z)) is (cases y))

pub sound_value : (ranges : List Range) (rows : List (List Cell)) (session : Session) (x : Expr) (tree : Placed) → IsResolved ranges x tree → FitsRanges ranges rows → AreSound rows
    → IsSoundSession session → has_sound_literals x ≡ true → IsValueOf (kind_at tree) (value_at rows session tree)
sound_value ranges rows session x tree resolved fits cells sound literals =
    subst (λ t. IsValueOf (kind_at t) (value_at rows session t)) (sym resolved.places) (good ranges rows session fits cells sound x literals)
