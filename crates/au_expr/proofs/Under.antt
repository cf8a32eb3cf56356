-- A resolved expression names ranges of its scope alone.
use Rattle.std.proofs.Common.{◌≡◌, ◌∙◌, refl, sym, ap, subst, ℕ, zero, suc, ◌+◌, ◌<◌, ◌≤◌, Bool, true, false, ◌||◌, ◌⊎◌, inl, inr, cond, List, [], ◌∷◌, ◌++◌, map, length, Option, if◌then◌else◌, arith}
use Rattle.std.specs.List.{AllByRecursion, enumerate_from, filter, flat_map, slice_get}
use Rattle.std.specs.Str.{bytes_eq}
use Rattle.std.proofs.lemmas.Bool.{eqb-true}
use Rattle.au_base.specs.declared.cell.Cell.{Cell}
use Rattle.au_base.specs.declared.table.Column.{Column}
use Rattle.sql_ast.specs.declared.expression.Expr.{Expr}
use Rattle.sql_ast.specs.declared.expression.Expr.TheOpen as part
use Rattle.sql_ast.specs.declared.expression.Expr.TheViews.{roll-Expr}
use Rattle.sql_ast.specs.declared.expression.Expr.TheFolds.{fold-roll-Expr, ind-Expr, map-Expr}
use Rattle.au_expr.specs.declared.placed.Place.{Place}
use Rattle.au_expr.specs.declared.placed.Placed.{Placed}
use Rattle.au_expr.specs.declared.placed.Placed.TheVariants as tree
use Rattle.au_expr.specs.declared.placed.Placed.TheOpen as placed_part
use Rattle.au_expr.specs.declared.placed.Placed.TheFolds.{fold-roll-Placed, map-Placed}
use Rattle.au_expr.specs.declared.placed.Placed.TheViews.{roll-Placed}
use Rattle.au_expr.specs.declared.ranges.Asked.TheVariants.{Range}
use Rattle.au_expr.specs.Descent.{names, names_step}
use Rattle.au_expr.specs.Names.{place_of, places, places_in, places_of}
use Rattle.au_expr.specs.Overflows.{any_holds}
use Rattle.au_expr.specs.Placing.{value_at}
use Rattle.au_expr.specs.Ranges.{names_range}
use Rattle.au_expr.specs.Resolving.{placed, column_at, context_at}
use Rattle.au_expr.specs.Resolving as resolving
use Rattle.au_expr.specs.Rows.{is_range}
use Rattle.au_expr.specs.Rows as rows
use Rattle.au_expr.specs.Sessions.{Session, is_number, is_user}
use Rattle.au_expr.proofs.Columns.{names_are}
use Rattle.au_expr.proofs.Sufficing.{suffices}

or_parts : (a b : Bool) → (a || b) ≡ true → (a ≡ true) ⊎ (b ≡ true)
or_parts true b h = inl refl
or_parts false b h = inr h

-- the places of a name
module _ (written : Option (List ℕ)) (name : List ℕ) (bound : ℕ) where
  abbrev AllUnder : List Place → Type 0
  AllUnder ps = AllByRecursion (λ (p : Place). p.range < bound) ps

  both_under : (xs ys : List Place) → AllUnder xs → AllUnder ys → AllUnder (xs ++ ys)
  both_under [] ys h k = k
  both_under (x ∷ xs) ys h k = (h.0, both_under xs ys h.1 k)

  of_range : (number : ℕ) → number < bound → (ps : List (ℕ × Column)) → AllUnder (map (place_of number) ps)
  of_range number h [] = tt
  of_range number h (p ∷ ps) = (h, of_range number h ps)

  in_range : (number : ℕ) (range : rows.Range) → number < bound → AllUnder (places_of written name (number, range))
  in_range number range h = by_case (is_range written range.0)
    where
      by_case : (b : Bool) → AllUnder (cond b (places_in number name range.1) [])
      by_case true = of_range number h (filter (λ (p : ℕ × Column). bytes_eq p.1.name name) (enumerate_from 0 range.1))
      by_case false = tt

  in_ranges : (number : ℕ) (ranges : List rows.Range) → number + length ranges ≡ bound → AllUnder (flat_map (places_of written name) (enumerate_from number ranges))
  in_ranges number [] h = tt
  in_ranges number (range ∷ ranges) h =
      both_under (places_of written name (number, range)) (flat_map (places_of written name) (enumerate_from (number + 1) ranges))
      (in_range number range (omega (arith, h)))
      (in_ranges (number + 1) ranges (omega (arith, h)))

module _ (ranges : List rows.Range) (n : ℕ) where
  abbrev named : Placed → Bool
  named = names (Range n)

  abbrev Under : Expr → Type 0
  Under e = named (placed ranges e) ≡ true → n < length ranges

  abbrev firsts : List ((e : Expr) × Under e) → List Expr
  firsts ys = map (λ y. y.0) ys

  abbrev their : List ((e : Expr) × Under e) → List Placed
  their ys = map (placed ranges) (firsts ys)

  all_under : (ys : List ((e : Expr) × Under e)) → any_holds (map named (their ys)) ≡ true → n < length ranges
  all_under [] h = absurd (cc)
  all_under (y ∷ ys) h = elim (or_parts (named (placed ranges y.0)) (any_holds (map named (their ys))) h) [ inl here ↦ y.1 here | inr later ↦ all_under ys later ]

  abbrev place : Bool × Expr → Bool × Placed
  place p = (p.0, placed ranges p.1)

  abbrev name_in : Bool × Placed → Bool × Bool
  name_in p = (p.0, named p.1)

  abbrev second : Bool × Bool → Bool
  second p = p.1

  abbrev summands : List (Bool × ((e : Expr) × Under e)) → List (Bool × Expr)
  summands ys = map (λ y. (y.0, y.1.0)) ys

  summands_under : (ys : List (Bool × ((e : Expr) × Under e))) → any_holds (map second (map name_in (map place (summands ys)))) ≡ true → n < length ranges
  summands_under [] h = absurd (cc)
  summands_under (y ∷ ys) h = elim (or_parts (named (placed ranges y.1.0)) (any_holds (map second (map name_in (map place (summands ys))))) h)
      [ inl here ↦ y.1.1 here | inr later ↦ summands_under ys later ]

  form : (x : placed_part.Placed-F Placed) (t : Placed) → roll-Placed x ≡ t → named t ≡ true → names_step (Range n) (map-Placed Placed Bool named x) ≡ true
  form x t is h = sym (ap named (sym is) ∙ fold-roll-Placed Bool (names_step (Range n)) x) ∙ h

  none_named : named tree.Null ≡ true → n < length ranges
  none_named h = let e : false ≡ true = form placed_part.Null tree.Null tree.rolls-Null h in absurd (cc)

  at_column : (ps : List Place) → AllByRecursion (λ (p : Place). p.range < length ranges) ps → named (column_at ps) ≡ true → n < length ranges
  at_column [] under h = none_named h
  at_column (p ∷ []) under h = subst (λ r. r < length ranges) (eqb-true p.range n (form (placed_part.Column p) (tree.Column p) (tree.rolls-Column p) h)) under.0
  at_column (p ∷ q ∷ ps) under h = none_named h

  at_context : (attribute : List ℕ) → named (context_at attribute) ≡ true → n < length ranges
  at_context attribute = by_case (is_number attribute) (is_user attribute)
    where
      by_case : (a b : Bool) → named (if a then tree.SessionNumber else (if b then tree.User else tree.Null)) ≡ true → n < length ranges
      by_case true b h = let e : false ≡ true = form placed_part.SessionNumber tree.SessionNumber tree.rolls-SessionNumber h in absurd (cc)
      by_case false true h = let e : false ≡ true = form placed_part.User tree.User tree.rolls-User h in absurd (cc)
      by_case false false h = none_named h

  unrolled : (x : part.Expr-F Expr) → (named (resolving.step ranges (map-Expr Expr Placed (placed ranges) x)) ≡ true → n < length ranges) → Under (roll-Expr x)
  unrolled x f h = f (sym (ap named (fold-roll-Expr Placed (resolving.step ranges) x)) ∙ h)

  cases : (y : part.Expr-F ((e : Expr) × Under e)) → Under (roll-Expr (map-Expr ((e : Expr) × Under e) Expr (λ e. e.0) y))
  cases (part.Or ys) = unrolled (part.Or (firsts ys)) (λ h. all_under ys (form (placed_part.Or (their ys)) (tree.Or (their ys)) (tree.rolls-Or (their ys)) h))
  cases (part.And ys) = unrolled (part.And (firsts ys)) (λ h. all_under ys (form (placed_part.And (their ys)) (tree.And (their ys)) (tree.rolls-And (their ys)) h))
  cases (part.Not a) = let x = placed ranges a.0 in unrolled (part.Not a.0) (λ h. a.1 (form (placed_part.Not x) (tree.Not x) (tree.rolls-Not x) h))
  cases (part.Compare r a b) = let x = placed ranges a.0 in let y = placed ranges b.0 in unrolled (part.Compare r a.0 b.0)
      (λ h. all_under (a ∷ b ∷ []) (form (placed_part.Compare r x y) (tree.Compare r x y) (tree.rolls-Compare r x y) h))
  cases (part.IsNull a m) = let x = placed ranges a.0 in unrolled (part.IsNull a.0 m) (λ h. a.1 (form (placed_part.IsNull x m) (tree.IsNull x m) (tree.rolls-IsNull x m) h))
  cases (part.Like a b m) = let x = placed ranges a.0 in let y = placed ranges b.0 in unrolled (part.Like a.0 b.0 m)
      (λ h. all_under (a ∷ b ∷ []) (form (placed_part.Like x y m) (tree.Like x y m) (tree.rolls-Like x y m) h))
  cases (part.In a ys m) = let x = placed ranges a.0 in unrolled (part.In a.0 (firsts ys) m)
      (λ h. all_under (a ∷ ys) (form (placed_part.In x (their ys) m) (tree.In x (their ys) m) (tree.rolls-In x (their ys) m) h))
  cases (part.Between a b c m) = let x = placed ranges a.0 in let y = placed ranges b.0 in let w = placed ranges c.0 in unrolled (part.Between a.0 b.0 c.0 m)
      (λ h. all_under (a ∷ b ∷ c ∷ []) (form (placed_part.Between x y w m) (tree.Between x y w m) (tree.rolls-Between x y w m) h))
  cases (part.Sum ys) = let xs = map place (summands ys) in unrolled (part.Sum (summands ys)) (λ h. summands_under ys (form (placed_part.Sum xs) (tree.Sum xs) (tree.rolls-Sum xs) h))
  cases (part.Product ys) = unrolled (part.Product (firsts ys)) (λ h. all_under ys (form (placed_part.Product (their ys)) (tree.Product (their ys)) (tree.rolls-Product (their ys)) h))
  cases (part.Negate a) = let x = placed ranges a.0 in unrolled (part.Negate a.0) (λ h. a.1 (form (placed_part.Negate x) (tree.Negate x) (tree.rolls-Negate x) h))
  cases (part.Number m) = unrolled (part.Number m) (λ h. let e : false ≡ true = form (placed_part.Number m) (tree.Number m) (tree.rolls-Number m) h in absurd (cc))
  cases (part.Literal t) = unrolled (part.Literal t) (λ h. let e : false ≡ true = form (placed_part.Literal t) (tree.Literal t) (tree.rolls-Literal t) h in absurd (cc))
  cases part.Null = unrolled part.Null none_named
  cases (part.Column written name) = unrolled (part.Column written name)
      (at_column (places ranges written name) (in_ranges written name (length ranges) 0 ranges (let z : 0 + length ranges ≡ length ranges = omega arith in z)))
  cases part.User = unrolled part.User (λ h. let e : false ≡ true = form placed_part.User tree.User tree.rolls-User h in absurd (cc))
  cases part.Now = unrolled part.Now (λ h. let e : false ≡ true = form placed_part.Now tree.Now tree.rolls-Now h in absurd (cc))
  cases (part.Moment m) = unrolled (part.Moment m) (λ h. let e : false ≡ true = form (placed_part.Moment m) (tree.Moment m) (tree.rolls-Moment m) h in absurd (cc))
  cases (part.Context attribute) = unrolled (part.Context attribute) (at_context attribute)

  under : (e : Expr) → Under e
  under = ind-Expr Under (λ x y is. subst (λ z. Under (roll-Expr z)) is (cases y))

pub names_there : (ranges : List rows.Range) (n : ℕ) (x : Expr) → names_range n (placed ranges x) ≡ true → n < length ranges
names_there ranges n x h = under ranges n x (names_are (Range n) (placed ranges x) ∙ h)

get_front : {X : Type 0} (xs more : List X) (i : ℕ) → i < length xs → slice_get xs i ≡ slice_get (xs ++ more) i
get_front [] more i h = absurd (omega (arith, h))
get_front (x ∷ xs) more zero h = refl
get_front (x ∷ xs) more (suc i) h = get_front xs more i (omega (arith, h))

pub front_suffices : (ranges : List rows.Range) (front more : List (List Cell)) (session : Session) (x : Expr) → length ranges ≤ length front
    → value_at (front ++ more) session (placed ranges x) ≡ value_at front session (placed ranges x)
front_suffices ranges front more session x h =
    sym (suffices session front (front ++ more) (placed ranges x) (λ r named. let lt : r < length ranges = under ranges r x named in get_front front more r (omega (arith, lt, h))))
