-- The value by places is the value by names.
use Rattle.std.proofs.Common.{◌≡◌, ◌∙◌, refl, sym, ap, subst, ℕ, Bool, true, false, List, [], ◌∷◌, map, if◌then◌else◌}
use Rattle.au_base.specs.declared.cell.Cell.{Cell}
use Rattle.au_base.specs.declared.cell.Cell.TheVariants.{Null}
use Rattle.sql_ast.specs.declared.expression.Expr.{Expr}
use Rattle.sql_ast.specs.declared.expression.Expr.TheOpen as part
use Rattle.sql_ast.specs.declared.expression.Expr.TheViews.{roll-Expr}
use Rattle.sql_ast.specs.declared.expression.Expr.TheFolds.{fold-roll-Expr, ind-Expr, map-Expr}
use Rattle.au_expr.specs.declared.placed.Place.{Place}
use Rattle.au_expr.specs.declared.placed.Placed.{Placed}
use Rattle.au_expr.specs.declared.placed.Placed.TheVariants as tree
use Rattle.au_expr.specs.declared.placed.Placed.TheOpen as placed_part
use Rattle.au_expr.specs.declared.placed.Placed.TheFolds.{fold-roll-Placed, map-Placed}
use Rattle.au_expr.specs.declared.placed.Placed.TheViews.{roll-Placed}
use Rattle.au_expr.specs.Expressions as by_name
use Rattle.au_expr.specs.Names.{places}
use Rattle.au_expr.specs.Operators.{and_value, or_value, not_value, compare_value, null_value, like_value, in_value, between_value, sum_value, product_value, sign_value}
use Rattle.au_expr.specs.Placing as by_place
use Rattle.au_expr.specs.Placing.{cell_at, value_at, values_at, signed_values_at}
use Rattle.au_expr.specs.Resolving.{placed, column_at, context_at}
use Rattle.au_expr.specs.Resolving as resolving
use Rattle.au_expr.specs.Rows.{FitsRanges, Range, named, only}
use Rattle.au_expr.specs.Sessions.{Session, context_cell, is_number, is_user, number_cell, user_cell}
use Rattle.au_expr.specs.Values.{Value, Is}
use Rattle.au_expr.proofs.Named.{cells_at_places}

module _ (ranges : List Range) (rows : List (List Cell)) (session : Session) (fits : FitsRanges ranges rows) where
  abbrev at : Placed → Value
  at = value_at rows session

  abbrev by : Expr → Value
  by = by_name.value (named ranges rows) session

  abbrev Same : Expr → Type 0
  Same e = at (placed ranges e) ≡ by e

  all_same : (ys : List ((e : Expr) × Same e)) → map at (map (placed ranges) (map (λ y. y.0) ys)) ≡ map by (map (λ y. y.0) ys)
  all_same [] = refl
  all_same (y ∷ ys) = ap (λ z. z ∷ map at (map (placed ranges) (map (λ x. x.0) ys))) y.1 ∙ ap (λ z. by y.0 ∷ z) (all_same ys)

  abbrev firsts : List (Bool × ((e : Expr) × Same e)) → List (Bool × Expr)
  firsts ys = map (λ y. (y.0, y.1.0)) ys

  abbrev tell : Bool × Placed → Bool × Value
  tell p = (p.0, at p.1)

  abbrev place : Bool × Expr → Bool × Placed
  place p = (p.0, placed ranges p.1)

  abbrev tell_named : Bool × Expr → Bool × Value
  tell_named p = (p.0, by p.1)

  signed_same : (ys : List (Bool × ((e : Expr) × Same e)))
      → map tell (map place (firsts ys)) ≡ map tell_named (firsts ys)
  signed_same [] = refl
  signed_same (y ∷ ys) =
      ap (λ z. (y.0, z) ∷ map tell (map place (firsts ys))) y.1.1
      ∙ ap (λ z. (y.0, by y.1.0) ∷ z) (signed_same ys)

  -- what a tree gives, by its outermost operator
  form : (x : placed_part.Placed-F Placed) (e : Placed) → roll-Placed x ≡ e → at e ≡ by_place.step rows session (map-Placed Placed Value at x)
  form x e h = ap at (sym h) ∙ fold-roll-Placed Value (by_place.step rows session) x

  at_column : (ps : List Place) → at (column_at ps) ≡ Is (only (map (cell_at rows) ps))
  at_column [] = form placed_part.Null tree.Null tree.rolls-Null
  at_column (p ∷ []) = form (placed_part.Column p) (tree.Column p) (tree.rolls-Column p)
  at_column (p ∷ q ∷ ps) = form placed_part.Null tree.Null tree.rolls-Null

  at_context : (attribute : List ℕ) → at (context_at attribute) ≡ Is (context_cell session attribute)
  at_context attribute = by_case (is_number attribute) (is_user attribute)
    where
      by_case : (a b : Bool) → at (if a then tree.SessionNumber else (if b then tree.User else tree.Null))
          ≡ Is (if a then number_cell session else (if b then user_cell session else Null))
      by_case true b = form placed_part.SessionNumber tree.SessionNumber tree.rolls-SessionNumber
      by_case false true = form placed_part.User tree.User tree.rolls-User
      by_case false false = form placed_part.Null tree.Null tree.rolls-Null

  unrolled : (x : part.Expr-F Expr)
      → at (resolving.step ranges (map-Expr Expr Placed (placed ranges) x)) ≡ by_name.step (named ranges rows) session (map-Expr Expr Value by x)
      → Same (roll-Expr x)
  unrolled x h = ap at (fold-roll-Expr Placed (resolving.step ranges) x) ∙ h ∙ sym (fold-roll-Expr Value (by_name.step (named ranges rows) session) x)

  abbrev their : List ((e : Expr) × Same e) → List Placed
  their ys = map (placed ranges) (map (λ y. y.0) ys)

  cases : (y : part.Expr-F ((e : Expr) × Same e)) → Same (roll-Expr (map-Expr ((e : Expr) × Same e) Expr (λ e. e.0) y))
  cases (part.Or ys) = unrolled (part.Or (map (λ y. y.0) ys)) (form (placed_part.Or (their ys)) (tree.Or (their ys)) (tree.rolls-Or (their ys)) ∙ ap or_value (all_same ys))
  cases (part.And ys) = unrolled (part.And (map (λ y. y.0) ys)) (form (placed_part.And (their ys)) (tree.And (their ys)) (tree.rolls-And (their ys)) ∙ ap and_value (all_same ys))
  cases (part.Not a) = let x = placed ranges a.0 in unrolled (part.Not a.0) (form (placed_part.Not x) (tree.Not x) (tree.rolls-Not x) ∙ ap not_value a.1)
  cases (part.Compare r a b) = let x = placed ranges a.0 in let y = placed ranges b.0 in unrolled (part.Compare r a.0 b.0)
      (form (placed_part.Compare r x y) (tree.Compare r x y) (tree.rolls-Compare r x y)
      ∙ ap (λ z. compare_value r z (at y)) a.1 ∙ ap (compare_value r (by a.0)) b.1)
  cases (part.IsNull a n) = let x = placed ranges a.0 in unrolled (part.IsNull a.0 n) (form (placed_part.IsNull x n) (tree.IsNull x n) (tree.rolls-IsNull x n) ∙ ap (null_value n) a.1)
  cases (part.Like a b n) = let x = placed ranges a.0 in let y = placed ranges b.0 in unrolled (part.Like a.0 b.0 n)
      (form (placed_part.Like x y n) (tree.Like x y n) (tree.rolls-Like x y n)
      ∙ ap (λ z. like_value n z (at y)) a.1 ∙ ap (like_value n (by a.0)) b.1)
  cases (part.In a ys n) = let x = placed ranges a.0 in unrolled (part.In a.0 (map (λ y. y.0) ys) n)
      (form (placed_part.In x (their ys) n) (tree.In x (their ys) n) (tree.rolls-In x (their ys) n)
      ∙ ap (λ z. in_value n z (map at (their ys))) a.1 ∙ ap (in_value n (by a.0)) (all_same ys))
  cases (part.Between a b c n) = let x = placed ranges a.0 in let y = placed ranges b.0 in let w = placed ranges c.0 in unrolled (part.Between a.0 b.0 c.0 n)
      (form (placed_part.Between x y w n) (tree.Between x y w n) (tree.rolls-Between x y w n)
      ∙ ap (λ z. between_value n z (at y) (at w)) a.1 ∙ ap (λ z. between_value n (by a.0) z (at w)) b.1 ∙ ap (between_value n (by a.0) (by b.0)) c.1)
  cases (part.Sum ys) = let xs = map place (firsts ys) in unrolled (part.Sum (firsts ys)) (form (placed_part.Sum xs) (tree.Sum xs) (tree.rolls-Sum xs) ∙ ap sum_value (signed_same ys))
  cases (part.Product ys) = unrolled (part.Product (map (λ y. y.0) ys)) (form (placed_part.Product (their ys)) (tree.Product (their ys)) (tree.rolls-Product (their ys)) ∙ ap product_value (all_same ys))
  cases (part.Negate a) = let x = placed ranges a.0 in unrolled (part.Negate a.0) (form (placed_part.Negate x) (tree.Negate x) (tree.rolls-Negate x) ∙ ap sign_value a.1)
  cases (part.Number n) = unrolled (part.Number n) (form (placed_part.Number n) (tree.Number n) (tree.rolls-Number n))
  cases (part.Literal t) = unrolled (part.Literal t) (form (placed_part.Literal t) (tree.Literal t) (tree.rolls-Literal t))
  cases part.Null = unrolled part.Null (form placed_part.Null tree.Null tree.rolls-Null)
  cases (part.Column written name) = unrolled (part.Column written name)
      (at_column (places ranges written name) ∙ ap (λ cells. Is (only cells)) (cells_at_places written name ranges rows fits))
  cases part.User = unrolled part.User (form placed_part.User tree.User tree.rolls-User)
  cases part.Now = unrolled part.Now (form placed_part.Now tree.Now tree.rolls-Now)
  cases (part.Moment m) = unrolled (part.Moment m) (form (placed_part.Moment m) (tree.Moment m) (tree.rolls-Moment m))
  cases (part.Context attribute) = unrolled (part.Context attribute) (at_context attribute)

  pub same : (e : Expr) → Same e
  same = ind-Expr Same (λ x y is. subst (λ z. Same (roll-Expr z)) is (cases y))
