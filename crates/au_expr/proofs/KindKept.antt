-- The kind of an expression is that of its tree with places.
use Rattle.std.proofs.Common.{◌≢◌, Ok, ◌≡◌, ◌∙◌, refl, sym, ap, subst, ℕ, Bool, true, false, List, [], ◌∷◌, map, Option, Some, None, if◌then◌else◌}
use Rattle.std.specs.List.{list_all}
use Rattle.au_base.specs.declared.table.ColumnKind.TheVariants.{Number, Text}
use Rattle.sql_ast.specs.declared.expression.Expr.{Expr}
use Rattle.sql_ast.specs.declared.expression.Expr.TheOpen as part
use Rattle.sql_ast.specs.declared.expression.Expr.TheViews.{roll-Expr}
use Rattle.sql_ast.specs.declared.expression.Expr.TheFolds.{fold-roll-Expr, ind-Expr, map-Expr}
use Rattle.au_expr.specs.declared.kind.ExprKind.{ExprKind}
use Rattle.au_expr.specs.declared.kind.ExprKind.TheVariants.{Any, Truth, Of}
use Rattle.au_expr.specs.declared.placed.Place.{Place}
use Rattle.au_expr.specs.declared.placed.Placed.{Placed}
use Rattle.au_expr.specs.declared.placed.Placed.TheVariants as tree
use Rattle.au_expr.specs.declared.placed.Placed.TheOpen as placed_part
use Rattle.au_expr.specs.declared.placed.Placed.TheViews.{roll-Placed}
use Rattle.au_expr.specs.declared.placed.Placed.TheFolds.{fold-roll-Placed, map-Placed}
use Rattle.au_expr.specs.Kinds.{given_where, goes_with, is_one_kind, is_truth, kind, kind_at, kind_of_context, kind_of_places, placed_step, step}
use Rattle.au_expr.specs.Names.{name_code, or_code, places}
use Rattle.au_base.specs.declared.code.Code.{Code}
use Rattle.au_base.specs.declared.table.ColumnKind.{ColumnKind}
use Rattle.au_base.specs.Codes.{WRONG_KIND}
use Rattle.au_expr.specs.Resolving.{IsResolved, ResolvesAsCondition, ResolvesAsValue, column_at, condition_code, context_at, is_value, kind_code, placed, refusal, value_code}
use Rattle.au_expr.specs.Resolving as resolving
use Rattle.au_expr.specs.Rows.{Range}
use Rattle.au_expr.specs.Sessions.{is_number, is_user}

given_is : (k other : ExprKind) (b : Bool) → given_where k b ≡ Some other → k ≡ other
given_is k other true h = cc
given_is k other false h = absurd (cc)

some_is : (k other : ExprKind) → Some k ≡ Some other → k ≡ other
some_is k other h = cc

-- what a tree is, by its outermost operator
form : (x : placed_part.Placed-F Placed) (e : Placed) → roll-Placed x ≡ e → kind_at e ≡ placed_step (map-Placed Placed ExprKind kind_at x)
form x e h = ap kind_at (sym h) ∙ fold-roll-Placed ExprKind placed_step x

at_column : (ps : List Place) (k : ExprKind) → kind_of_places ps ≡ Some k → kind_at (column_at ps) ≡ k
at_column [] k h = absurd (cc)
at_column (p ∷ []) k h = form (placed_part.Column p) (tree.Column p) (tree.rolls-Column p) ∙ some_is (Of p.kind) k h
at_column (p ∷ q ∷ ps) k h = absurd (cc)

at_context : (attribute : List ℕ) → kind_at (context_at attribute) ≡ kind_of_context attribute
at_context attribute = by_case (is_number attribute) (is_user attribute)
  where
    by_case : (a b : Bool) → kind_at (if a then tree.SessionNumber else (if b then tree.User else tree.Null)) ≡ (if a then Of Text else (if b then Of Text else Any))
    by_case true b = form placed_part.SessionNumber tree.SessionNumber tree.rolls-SessionNumber
    by_case false true = form placed_part.User tree.User tree.rolls-User
    by_case false false = form placed_part.Null tree.Null tree.rolls-Null

module _ (ranges : List Range) where
  abbrev Kept : Expr → Type 0
  Kept e = (k : ExprKind) → kind ranges e ≡ Some k → kind_at (placed ranges e) ≡ k

  unrolled : (x : part.Expr-F Expr)
      → ((k : ExprKind) → step ranges (map-Expr Expr (Option ExprKind) (kind ranges) x) ≡ Some k → kind_at (resolving.step ranges (map-Expr Expr Placed (placed ranges) x)) ≡ k)
      → Kept (roll-Expr x)
  unrolled x f k h = ap kind_at (fold-roll-Expr Placed (resolving.step ranges) x) ∙ f k (sym (fold-roll-Expr (Option ExprKind) (step ranges) x) ∙ h)

  abbrev firsts : List ((e : Expr) × Kept e) → List Expr
  firsts ys = map (λ y. y.0) ys

  abbrev their : List ((e : Expr) × Kept e) → List Placed
  their ys = map (placed ranges) (firsts ys)

  abbrev kinds : List ((e : Expr) × Kept e) → List (Option ExprKind)
  kinds ys = map (kind ranges) (firsts ys)

  abbrev summands : List (Bool × ((e : Expr) × Kept e)) → List (Bool × Expr)
  summands ys = map (λ y. (y.0, y.1.0)) ys

  abbrev place : Bool × Expr → Bool × Placed
  place p = (p.0, placed ranges p.1)

  abbrev second : Bool × Option ExprKind → Option ExprKind
  second p = p.1

  abbrev with_kind : Bool × Expr → Bool × Option ExprKind
  with_kind p = (p.0, kind ranges p.1)

  cases : (y : part.Expr-F ((e : Expr) × Kept e)) → Kept (roll-Expr (map-Expr ((e : Expr) × Kept e) Expr (λ e. e.0) y))
  cases (part.Or ys) = unrolled (part.Or (firsts ys)) (λ k h. form (placed_part.Or (their ys)) (tree.Or (their ys)) (tree.rolls-Or (their ys)) ∙ given_is Truth k (list_all is_truth (kinds ys)) h)
  cases (part.And ys) = unrolled (part.And (firsts ys)) (λ k h. form (placed_part.And (their ys)) (tree.And (their ys)) (tree.rolls-And (their ys)) ∙ given_is Truth k (list_all is_truth (kinds ys)) h)
  cases (part.Not a) = let x = placed ranges a.0 in unrolled (part.Not a.0) (λ k h. form (placed_part.Not x) (tree.Not x) (tree.rolls-Not x) ∙ given_is Truth k (is_truth (kind ranges a.0)) h)
  cases (part.Compare r a b) = let x = placed ranges a.0 in let y = placed ranges b.0 in unrolled (part.Compare r a.0 b.0)
      (λ k h. form (placed_part.Compare r x y) (tree.Compare r x y) (tree.rolls-Compare r x y) ∙ given_is Truth k (is_one_kind (kind ranges a.0 ∷ kind ranges b.0 ∷ [])) h)
  cases (part.IsNull a n) = let x = placed ranges a.0 in unrolled (part.IsNull a.0 n)
      (λ k h. form (placed_part.IsNull x n) (tree.IsNull x n) (tree.rolls-IsNull x n) ∙ given_is Truth k (is_one_kind (kind ranges a.0 ∷ [])) h)
  cases (part.Like a b n) = let x = placed ranges a.0 in let y = placed ranges b.0 in unrolled (part.Like a.0 b.0 n)
      (λ k h. form (placed_part.Like x y n) (tree.Like x y n) (tree.rolls-Like x y n) ∙ given_is Truth k (list_all (goes_with Text) (kind ranges a.0 ∷ kind ranges b.0 ∷ [])) h)
  cases (part.In a ys n) = let x = placed ranges a.0 in unrolled (part.In a.0 (firsts ys) n)
      (λ k h. form (placed_part.In x (their ys) n) (tree.In x (their ys) n) (tree.rolls-In x (their ys) n) ∙ given_is Truth k (is_one_kind (kind ranges a.0 ∷ kinds ys)) h)
  cases (part.Between a b c n) = let x = placed ranges a.0 in let y = placed ranges b.0 in let w = placed ranges c.0 in unrolled (part.Between a.0 b.0 c.0 n)
      (λ k h. form (placed_part.Between x y w n) (tree.Between x y w n) (tree.rolls-Between x y w n)
      ∙ given_is Truth k (is_one_kind (kind ranges a.0 ∷ kind ranges b.0 ∷ kind ranges c.0 ∷ [])) h)
  cases (part.Sum ys) = let xs = map place (summands ys) in unrolled (part.Sum (summands ys))
      (λ k h. form (placed_part.Sum xs) (tree.Sum xs) (tree.rolls-Sum xs) ∙ given_is (Of Number) k (list_all (goes_with Number) (map second (map with_kind (summands ys)))) h)
  cases (part.Product ys) = unrolled (part.Product (firsts ys))
      (λ k h. form (placed_part.Product (their ys)) (tree.Product (their ys)) (tree.rolls-Product (their ys)) ∙ given_is (Of Number) k (list_all (goes_with Number) (kinds ys)) h)
  cases (part.Negate a) = let x = placed ranges a.0 in unrolled (part.Negate a.0)
      (λ k h. form (placed_part.Negate x) (tree.Negate x) (tree.rolls-Negate x) ∙ given_is (Of Number) k (goes_with Number (kind ranges a.0)) h)
  cases (part.Number n) = unrolled (part.Number n) (λ k h. form (placed_part.Number n) (tree.Number n) (tree.rolls-Number n) ∙ some_is _ k h)
  cases (part.Literal t) = unrolled (part.Literal t) (λ k h. form (placed_part.Literal t) (tree.Literal t) (tree.rolls-Literal t) ∙ some_is _ k h)
  cases part.Null = unrolled part.Null (λ k h. form placed_part.Null tree.Null tree.rolls-Null ∙ some_is _ k h)
  cases (part.Column written name) = unrolled (part.Column written name) (λ k h. at_column (places ranges written name) k h)
  cases part.User = unrolled part.User (λ k h. form placed_part.User tree.User tree.rolls-User ∙ some_is _ k h)
  cases part.Now = unrolled part.Now (λ k h. form placed_part.Now tree.Now tree.rolls-Now ∙ some_is _ k h)
  cases (part.Moment m) = unrolled (part.Moment m) (λ k h. form (placed_part.Moment m) (tree.Moment m) (tree.rolls-Moment m) ∙ some_is _ k h)
  cases (part.Context attribute) = unrolled (part.Context attribute) (λ k h. at_context attribute ∙ some_is _ k h)

  pub kept : (e : Expr) → Kept e
  kept = ind-Expr Kept (λ x y is. subst (λ z. Kept (roll-Expr z)) is (cases y))

pub resolved_from : (ranges : List Range) (x : Expr) (tree : Placed) (k : ExprKind) → refusal ranges x ≡ None → kind ranges x ≡ Some k → tree ≡ placed ranges x → IsResolved ranges x tree
resolved_from ranges x tree k unrefused is places = record {
  unrefused = unrefused;
  places = places;
  kind = is ∙ ap Some (sym (ap kind_at places ∙ kept ranges x k is));
}

-- nothing refuses what the first of two tests doesn't refuse, and the second passes
first_none : (earlier : Option Code) (b : Bool) (code : Code) → None ≡ or_code earlier (if b then None else Some code) → earlier ≡ None
first_none None b code h = refl
first_none (Some other) b code h = absurd (cc)

then_passes : (earlier : Option Code) (b : Bool) (code : Code) → None ≡ or_code earlier (if b then None else Some code) → b ≡ true
then_passes (Some other) b code h = absurd (cc)
then_passes None true code h = refl
then_passes None false code h = absurd (cc)

-- what passes a test that nothing fails has a kind
some_passes : (test : Option ExprKind → Bool) → test None ≡ false → (k : Option ExprKind) → test k ≡ true → (is : ExprKind) × (k ≡ Some is) × (test (Some is) ≡ true)
some_passes test fails None h = absurd (let e : true ≡ false = sym h ∙ fails in cc)
some_passes test fails (Some k) h = (k, refl, h)

passes_at : (test : Option ExprKind → Bool) (k other : ExprKind) → other ≡ k → test (Some k) ≡ true → test (Some other) ≡ true
passes_at test k other e h = subst (λ x. test (Some x) ≡ true) (sym e) h

pub as_condition : (ranges : List Range) (x : Expr) (tree : Placed) → None ≡ condition_code ranges x → tree ≡ placed ranges x → ResolvesAsCondition ranges x (Ok tree)
as_condition ranges x tree none places =
    let unnamed : name_code ranges x ≡ None = first_none (name_code ranges x) (is_truth (kind ranges x)) WRONG_KIND none in
    let found = some_passes is_truth refl (kind ranges x) (then_passes (name_code ranges x) (is_truth (kind ranges x)) WRONG_KIND none) in
    let unrefused : refusal ranges x ≡ None = ap (λ c. or_code c (kind_code (kind ranges x))) unnamed ∙ ap kind_code found.1 in
    (resolved_from ranges x tree found.0 unrefused found.1 places, passes_at is_truth found.0 (kind_at tree) (ap kind_at places ∙ kept ranges x found.0 found.1) found.2)

value_isnt_truth : (wanted : Option ColumnKind) (k : ExprKind) → is_value wanted (Some k) ≡ true → k ≢ Truth
value_isnt_truth None k h is = let e : false ≡ true = subst (λ x. is_value None (Some x) ≡ true) is h in absurd (cc)
value_isnt_truth (Some w) k h is = let e : false ≡ true = subst (λ x. is_value (Some w) (Some x) ≡ true) is h in absurd (cc)

no_value : (wanted : Option ColumnKind) → is_value wanted None ≡ false
no_value None = refl
no_value (Some w) = refl

pub as_value : (wanted : Option ColumnKind) (ranges : List Range) (x : Expr) (tree : Placed) → None ≡ value_code wanted ranges x → tree ≡ placed ranges x → ResolvesAsValue wanted ranges x (Ok tree)
as_value wanted ranges x tree none places =
    let unnamed : name_code ranges x ≡ None = first_none (name_code ranges x) (is_value wanted (kind ranges x)) WRONG_KIND none in
    let found = some_passes (is_value wanted) (no_value wanted) (kind ranges x) (then_passes (name_code ranges x) (is_value wanted (kind ranges x)) WRONG_KIND none) in
    let unrefused : refusal ranges x ≡ None = ap (λ c. or_code c (kind_code (kind ranges x))) unnamed ∙ ap kind_code found.1 in
    let passes : is_value wanted (Some (kind_at tree)) ≡ true = passes_at (is_value wanted) found.0 (kind_at tree) (ap kind_at places ∙ kept ranges x found.0 found.1) found.2 in
    (resolved_from ranges x tree found.0 unrefused found.1 places, passes, value_isnt_truth wanted (kind_at tree) passes)
