-- What isn't a condition gives no truth.
use Rattle.std.proofs.Common.{◌≡◌, ◌≢◌, ◌∙◌, refl, ap, subst, ℤ, pos, ◌+ℤ◌, ◌-ℤ◌, ◌*ℤ◌, Bool, true, false, List, [], ◌∷◌, map, if◌then◌else◌}
use Rattle.std.specs.List.{list_any}
use Rattle.au_base.specs.declared.cell.Cell.{Cell}
use Rattle.au_base.specs.declared.cell.Cell.TheVariants.{Null, Num, Text, Moment}
use Rattle.au_expr.specs.declared.kind.ExprKind.{ExprKind}
use Rattle.au_expr.specs.declared.kind.ExprKind.TheVariants.{Truth}
use Rattle.au_expr.specs.declared.placed.Placed.{Placed}
use Rattle.au_expr.specs.declared.placed.Placed.TheOpen as part
use Rattle.au_expr.specs.declared.placed.Placed.TheViews.{roll-Placed}
use Rattle.au_expr.specs.declared.placed.Placed.TheFolds.{fold-roll-Placed, ind-Placed, map-Placed}
use Rattle.au_expr.specs.Descent.{is_holds}
use Rattle.au_expr.specs.Kinds.{kind_at, placed_step}
use Rattle.au_expr.specs.Operators.{added, exact, has_digits, multiplied, number, plus, product_from, sum_from, times}
use Rattle.au_expr.specs.Placing.{signed_values_at, step, value_at, values_at}
use Rattle.au_expr.specs.Sessions.{Session}
use Rattle.au_expr.specs.Values.{Value, Is, Overflows, is_overflow, unless_overflow, cell_in}

unless_isnt : (operands : List Value) (otherwise : Value) → is_holds otherwise ≡ false → is_holds (unless_overflow operands otherwise) ≡ false
unless_isnt operands otherwise h = by_case (list_any is_overflow operands)
  where
    by_case : (b : Bool) → is_holds (if b then Overflows else otherwise) ≡ false
    by_case true = refl
    by_case false = h

exact_isnt : (n : ℤ) → is_holds (exact n) ≡ false
exact_isnt n = by_case (has_digits n)
  where
    by_case : (b : Bool) → is_holds (if b then Is (Num n) else Overflows) ≡ false
    by_case true = refl
    by_case false = refl

plus_isnt : (minus : Bool) (a b : Cell) → is_holds (plus minus a b) ≡ false
plus_isnt false (Num a) (Num b) = exact_isnt (a +ℤ b)
plus_isnt true (Num a) (Num b) = exact_isnt (a -ℤ b)
plus_isnt false (Num a) Null = refl
plus_isnt false (Num a) (Text b) = refl
plus_isnt false (Num a) (Moment b) = refl
plus_isnt true (Num a) Null = refl
plus_isnt true (Num a) (Text b) = refl
plus_isnt true (Num a) (Moment b) = refl
plus_isnt false Null b = refl
plus_isnt true Null b = refl
plus_isnt false (Text a) b = refl
plus_isnt true (Text a) b = refl
plus_isnt false (Moment a) b = refl
plus_isnt true (Moment a) b = refl

times_isnt : (a b : Cell) → is_holds (times a b) ≡ false
times_isnt (Num a) (Num b) = exact_isnt (a *ℤ b)
times_isnt (Num a) Null = refl
times_isnt (Num a) (Text b) = refl
times_isnt (Num a) (Moment b) = refl
times_isnt Null b = refl
times_isnt (Text a) b = refl
times_isnt (Moment a) b = refl

added_isnt : (minus : Bool) (a b : Value) → is_holds (added minus a b) ≡ false
added_isnt minus a b = unless_isnt (a ∷ b ∷ []) (plus minus (cell_in a) (cell_in b)) (plus_isnt minus (cell_in a) (cell_in b))

multiplied_isnt : (a b : Value) → is_holds (multiplied a b) ≡ false
multiplied_isnt a b = unless_isnt (a ∷ b ∷ []) (times (cell_in a) (cell_in b)) (times_isnt (cell_in a) (cell_in b))

sum_isnt : (before : Value) (parts : List (Bool × Value)) → is_holds before ≡ false → is_holds (sum_from before parts) ≡ false
sum_isnt before [] h = h
sum_isnt before (p ∷ parts) h = sum_isnt (added p.0 before p.1) parts (added_isnt p.0 before p.1)

product_isnt : (before : Value) (parts : List Value) → is_holds before ≡ false → is_holds (product_from before parts) ≡ false
product_isnt before [] h = h
product_isnt before (p ∷ parts) h = product_isnt (multiplied before p) parts (multiplied_isnt before p)

module _ (rows : List (List Cell)) (session : Session) where
  abbrev GivesNone : Placed → Type 0
  GivesNone tree = kind_at tree ≢ Truth → is_holds (value_at rows session tree) ≡ false

  unrolled : (x : part.Placed-F Placed)
      → (placed_step (map-Placed Placed ExprKind kind_at x) ≢ Truth → is_holds (step rows session (map-Placed Placed Value (value_at rows session) x)) ≡ false)
      → GivesNone (roll-Placed x)
  unrolled x f h = ap is_holds (fold-roll-Placed Value (step rows session) x) ∙ f (λ e. h (fold-roll-Placed ExprKind placed_step x ∙ e))

  cases : (y : part.Placed-F ((e : Placed) × GivesNone e)) → GivesNone (roll-Placed (map-Placed ((e : Placed) × GivesNone e) Placed (λ e. e.0) y))
  cases (part.Or ys) = unrolled (part.Or (map (λ y. y.0) ys)) (λ h. absurd (h refl))
  cases (part.And ys) = unrolled (part.And (map (λ y. y.0) ys)) (λ h. absurd (h refl))
  cases (part.Not a) = unrolled (part.Not a.0) (λ h. absurd (h refl))
  cases (part.Compare r a b) = unrolled (part.Compare r a.0 b.0) (λ h. absurd (h refl))
  cases (part.IsNull a n) = unrolled (part.IsNull a.0 n) (λ h. absurd (h refl))
  cases (part.Like a b n) = unrolled (part.Like a.0 b.0 n) (λ h. absurd (h refl))
  cases (part.In a ys n) = unrolled (part.In a.0 (map (λ y. y.0) ys) n) (λ h. absurd (h refl))
  cases (part.Between a b c n) = unrolled (part.Between a.0 b.0 c.0 n) (λ h. absurd (h refl))
  cases (part.Sum ys) = unrolled (part.Sum (map (λ y. (y.0, y.1.0)) ys)) (λ h. sum_isnt (number (pos 0)) (signed_values_at rows session (map (λ y. (y.0, y.1.0)) ys)) refl)
  cases (part.Product ys) = unrolled (part.Product (map (λ y. y.0) ys)) (λ h. product_isnt (number (pos 1)) (values_at rows session (map (λ y. y.0) ys)) refl)
  cases (part.Negate a) = unrolled (part.Negate a.0) (λ h. added_isnt true (number (pos 0)) (value_at rows session a.0))
  cases (part.Number n) = unrolled (part.Number n) (λ h. refl)
  cases (part.Literal t) = unrolled (part.Literal t) (λ h. refl)
  cases part.Null = unrolled part.Null (λ h. refl)
  cases (part.Column place) = unrolled (part.Column place) (λ h. refl)
  cases part.User = unrolled part.User (λ h. refl)
  cases part.SessionNumber = unrolled part.SessionNumber (λ h. refl)
  cases part.Now = unrolled part.Now (λ h. refl)
  cases (part.Moment m) = unrolled (part.Moment m) (λ h. refl)

  pub gives_no_truth : (tree : Placed) → GivesNone tree
  gives_no_truth = ind-Placed GivesNone (λ x y is. subst (λ z. GivesNone (roll-Placed z)) is (cases y))
