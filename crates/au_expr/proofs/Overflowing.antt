-- An expression that can't overflow gives no overflow over rows of sound cells.
use Rattle.std.proofs.Common.{◌≡◌, ◌∙◌, refl, sym, subst, ℕ, zero, suc, ℤ, pos, negsuc, ◌-ℤ◌, ◌≤ℤ◌, Bool, true, false, ◌||◌, not, List, [], ◌∷◌, map, if◌then◌else◌, arith}
use Rattle.std.specs.List.{AllByRecursion, list_any, slice_get}
use Rattle.std.proofs.lemmas.Int.{ints}
use Rattle.au_base.specs.declared.cell.Cell.{Cell}
use Rattle.au_base.specs.declared.cell.Cell.TheVariants.{Null, Num, Text, Moment}
use Rattle.au_base.specs.declared.truth.Truth.{Truth}
use Rattle.au_base.specs.Cells.{IsSoundCell, text_cell}
use Rattle.au_base.specs.Numbers.{FitsDigits}
use Rattle.au_expr.specs.declared.placed.Placed.{Placed}
use Rattle.au_expr.specs.declared.placed.Placed.TheOpen as part
use Rattle.au_expr.specs.declared.placed.Placed.TheViews.{roll-Placed}
use Rattle.au_expr.specs.declared.placed.Placed.TheFolds.{fold-roll-Placed, ind-Placed, map-Placed}
use Rattle.au_expr.specs.Operators.{exact, has_digits, sign_value}
use Rattle.au_expr.specs.Overflows.{any_holds, can_overflow}
use Rattle.au_expr.specs.Overflows as overflows
use Rattle.au_expr.specs.Placing.{cell_in_row, cell_or_null, step, value_at, values_at}
use Rattle.au_expr.specs.Rows.{AreSound}
use Rattle.au_expr.specs.Sessions.{Session}
use Rattle.au_expr.specs.Values.{Value, Is, Holds, Overflows, is_overflow, unless_overflow}

-- a number of the value has at most 18 digits
abbrev is_short_cell : Cell → Bool
is_short_cell Null = true
is_short_cell (Num n) = has_digits n
is_short_cell (Text t) = true
is_short_cell (Moment m) = true

abbrev is_short : Value → Bool
is_short (Is c) = is_short_cell c
is_short (Holds t) = true
is_short Overflows = true

-- no overflow, and a number has at most 18 digits
abbrev Good : Value → Type 0
Good v = (is_overflow v ≡ false) × (is_short v ≡ true)

digits_of : (n : ℤ) → FitsDigits n → has_digits n ≡ true
digits_of n fits = let low : negsuc 999_999_999_999_999_998 ≤ℤ n = fits.low in let high : n ≤ℤ pos 999_999_999_999_999_999 = fits.high in grind (arith, ints)

turned_digits : (n : ℤ) → has_digits n ≡ true → has_digits (pos 0 -ℤ n) ≡ true
turned_digits n h = grind (arith, ints)

short_cell : (c : Cell) → IsSoundCell c → is_short_cell c ≡ true
short_cell Null sound = refl
short_cell (Num n) sound = digits_of n sound
short_cell (Text t) sound = refl
short_cell (Moment m) sound = refl

short_text : (t : List ℕ) → is_short_cell (text_cell t) ≡ true
short_text [] = refl
short_text (b ∷ t) = refl

short_exact : (n : ℤ) → has_digits n ≡ true → Good (exact n)
short_exact n h = subst (λ (b : Bool). Good (if b then Is (Num n) else Overflows)) (sym h) (refl, h)

-- the sign of a good value is good
good_sign : (v : Value) → Good v → Good (sign_value v)
good_sign Overflows good = absurd (let e : true ≡ false = good.0 in cc)
good_sign (Holds t) good = (refl, refl)
good_sign (Is Null) good = (refl, refl)
good_sign (Is (Text t)) good = (refl, refl)
good_sign (Is (Moment m)) good = (refl, refl)
good_sign (Is (Num n)) good = short_exact (pos 0 -ℤ n) (turned_digits n good.1)

-- a truth of operands that don't overflow
good_truth : (operands : List Value) (t : Truth) → list_any is_overflow operands ≡ false → Good (unless_overflow operands (Holds t))
good_truth operands t h = subst (λ (b : Bool). Good (if b then Overflows else Holds t)) (sym h) (refl, refl)

or_left : (a b : Bool) → (a || b) ≡ false → a ≡ false
or_left false b h = refl
or_left true b h = h

or_right : (a b : Bool) → (a || b) ≡ false → b ≡ false
or_right false b h = h
or_right true b h = absurd (cc)

or_false : (a b : Bool) → a ≡ false → b ≡ false → (a || b) ≡ false
or_false false b e f = f
or_false true b e f = absurd (cc)

-- cells of sound rows
sound_get : (row : List Cell) (i : ℕ) → AllByRecursion IsSoundCell row → is_short_cell (cell_or_null (slice_get row i)) ≡ true
sound_get [] i sound = refl
sound_get (c ∷ row) zero sound = short_cell c sound.0
sound_get (c ∷ row) (suc i) sound = sound_get row i sound.1

sound_at : (rows : List (List Cell)) (range column : ℕ) → AreSound rows → is_short_cell (cell_in_row column (slice_get rows range)) ≡ true
sound_at [] range column sound = refl
sound_at (row ∷ rows) zero column sound = sound_get row column sound.0
sound_at (row ∷ rows) (suc range) column sound = sound_at rows range column sound.1

module _ (session : Session) (rows : List (List Cell)) (sound : AreSound rows) where
  abbrev at : Placed → Value
  at = value_at rows session

  abbrev Never : Placed → Type 0
  Never e = can_overflow e ≡ false → Good (at e)

  abbrev firsts : List ((e : Placed) × Never e) → List Placed
  firsts ys = map (λ y. y.0) ys

  none_overflows : (ys : List ((e : Placed) × Never e)) → any_holds (map can_overflow (firsts ys)) ≡ false → list_any is_overflow (values_at rows session (firsts ys)) ≡ false
  none_overflows [] h = refl
  none_overflows (y ∷ ys) h =
      or_false (is_overflow (at y.0)) (list_any is_overflow (values_at rows session (firsts ys)))
      (y.1 (or_left (can_overflow y.0) (any_holds (map can_overflow (firsts ys))) h)).0
      (none_overflows ys (or_right (can_overflow y.0) (any_holds (map can_overflow (firsts ys))) h))

  unrolled : (x : part.Placed-F Placed) → (overflows.step (map-Placed Placed Bool can_overflow x) ≡ false → Good (step rows session (map-Placed Placed Value at x))) → Never (roll-Placed x)
  unrolled x f h = subst Good (sym (fold-roll-Placed Value (step rows session) x)) (f (sym (fold-roll-Placed Bool overflows.step x) ∙ h))

  cases : (y : part.Placed-F ((e : Placed) × Never e)) → Never (roll-Placed (map-Placed ((e : Placed) × Never e) Placed (λ e. e.0) y))
  cases (part.Or ys) = unrolled (part.Or (firsts ys)) (λ h. good_truth (values_at rows session (firsts ys)) _ (none_overflows ys h))
  cases (part.And ys) = unrolled (part.And (firsts ys)) (λ h. good_truth (values_at rows session (firsts ys)) _ (none_overflows ys h))
  cases (part.Not a) = unrolled (part.Not a.0) (λ h. good_truth (at a.0 ∷ []) _ (none_overflows (a ∷ []) (or_false (can_overflow a.0) false h refl)))
  cases (part.Compare r a b) = unrolled (part.Compare r a.0 b.0) (λ h. good_truth (at a.0 ∷ at b.0 ∷ []) _ (none_overflows (a ∷ b ∷ []) h))
  cases (part.IsNull a n) = unrolled (part.IsNull a.0 n) (λ h. good_truth (at a.0 ∷ []) _ (none_overflows (a ∷ []) (or_false (can_overflow a.0) false h refl)))
  cases (part.Like a b n) = unrolled (part.Like a.0 b.0 n) (λ h. good_truth (at a.0 ∷ at b.0 ∷ []) _ (none_overflows (a ∷ b ∷ []) h))
  cases (part.In a ys n) = unrolled (part.In a.0 (firsts ys) n) (λ h. good_truth (at a.0 ∷ values_at rows session (firsts ys)) _ (none_overflows (a ∷ ys) h))
  cases (part.Between a b c n) = unrolled (part.Between a.0 b.0 c.0 n) (λ h. good_truth (at a.0 ∷ at b.0 ∷ at c.0 ∷ []) _ (none_overflows (a ∷ b ∷ c ∷ []) h))
  cases (part.Sum ys) = unrolled (part.Sum (map (λ y. (y.0, y.1.0)) ys)) (λ h. absurd (let e : true ≡ false = h in cc))
  cases (part.Product ys) = unrolled (part.Product (firsts ys)) (λ h. absurd (let e : true ≡ false = h in cc))
  cases (part.Negate a) = unrolled (part.Negate a.0) (λ h. good_sign (at a.0) (a.1 h))
  cases (part.Number n) = unrolled (part.Number n) (λ h. (refl, unnot (has_digits n) h))
    where
      unnot : (b : Bool) → not b ≡ false → b ≡ true
      unnot true e = refl
      unnot false e = sym e
  cases (part.Literal t) = unrolled (part.Literal t) (λ h. (refl, short_text t))
  cases part.Null = unrolled part.Null (λ h. (refl, refl))
  cases (part.Column place) = unrolled (part.Column place) (λ h. (refl, sound_at rows place.range place.column sound))
  cases part.User = unrolled part.User (λ h. (refl, refl))
  cases part.SessionNumber = unrolled part.SessionNumber (λ h. (refl, refl))
  cases part.Now = unrolled part.Now (λ h. (refl, refl))
  cases (part.Moment m) = unrolled (part.Moment m) (λ h. (refl, refl))

  pub never : (e : Placed) → Never e
  never = ind-Placed Never (λ x y is. subst (λ z. Never (roll-Placed z)) is (cases y))
