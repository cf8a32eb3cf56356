-- A front over which a condition isn't Yes that names none of the further tables begins no combination that passes.
use Rattle.std.proofs.Common.{◌≡◌, ◌≢◌, ◌∙◌, refl, sym, ap, ap₂, eqb-true, Bool, true, false, not, ◌&&◌, ◌||◌, ◌==◌, ◌≤◌, ◌<◌, ◌+◌, ℕ, zero, suc, List, [], ◌∷◌, ◌++◌, length, map, take, get_or, arith, Option, Some, None}
use Rattle.std.specs.Prelude.{filter, IfSome, IsTrue, if◌then◌else◌}
use Rattle.std.specs.List.{AllByRecursion, flat_map, list_all, list_any, slice_get}
use Rattle.std.proofs.lemmas.List.{length_push, map-append}
use Rattle.std.proofs.lemmas.List.Folds.{list_all-append, list_all_more}
use Rattle.au_base.specs.Limits.{FROM_TABLES}
use Rattle.au_base.specs.declared.cell.Cell.{Cell}
use Rattle.sql_ast.specs.declared.expression.Expr.{Expr}
use Rattle.sql_ast.specs.declared.expression.Expr.TheVariants as expr
use Rattle.sql_ast.specs.declared.expression.Expr.TheOpen as expr_part
use Rattle.sql_ast.specs.declared.expression.Expr.TheFolds.{fold-roll-Expr}
use Rattle.au_expr.specs.declared.placed.Placed.{Placed}
use Rattle.au_expr.specs.declared.placed.Placed.TheVariants as tree
use Rattle.au_expr.specs.Placing.{value_at}
use Rattle.au_expr.specs.Ranges.{AgreeWhereNamed, names_range}
use Rattle.au_expr.specs.Resolving.{placed, step}
use Rattle.au_expr.specs.Rows.{Range}
use Rattle.au_expr.specs.Sessions.{Session}
use Rattle.au_expr.specs.Values.{is_met}
use Rattle.au_query.specs.Combos.{Line, cells_of, combos, passes, product, views}
use Rattle.au_query.specs.declared.cutting.Test.{Test}
use Rattle.au_query.specs.declared.source.Source.{Source}
use Rattle.au_query.specs.descent.Inside.{AreMetTogether, IsReach, gathered, refuses, trees_in_tests}

differs : true ≡ false → ⊥
differs e = cc

further : {X : Type 0} (rows : List X) (x : X) (range : ℕ) → range ≢ length rows → slice_get (rows ++ x ∷ []) range ≡ slice_get rows range
further [] x zero ne = absurd (ne refl)
further [] x (suc range) ne = refl
further (row ∷ rows) x zero ne = refl
further (row ∷ rows) x (suc range) ne = further rows x range (λ e. ne (omega (arith, e)))

-- one more row, of a table that the tree doesn't name, changes nothing of what it gives
module _ (suffice : (tree : Placed) (session : Session) (one other : List (List Cell)) → AgreeWhereNamed tree one other → value_at one session tree ≡ value_at other session tree) where
  same_value : (session : Session) (tree : Placed) (rows : List (List Cell)) (cells : List Cell) → names_range (length rows) tree ≡ false
      → value_at (rows ++ cells ∷ []) session tree ≡ value_at rows session tree
  same_value session tree rows cells off = suffice tree session (rows ++ cells ∷ []) rows (λ range yes. further rows cells range (λ e. absurd (differs (sym yes ∙ ap (λ n. names_range n tree) e ∙ off))))

  none_of : {X Y : Type 0} (f : X → List Y) → ((x : X) → f x ≡ []) → (xs : List X) → flat_map f xs ≡ []
  none_of f e [] = refl
  none_of f e (x ∷ xs) = ap (λ z. z ++ flat_map f xs) (e x) ∙ none_of f e xs

  cells_behind : (front : List Line) (line : Line) → cells_of (front ++ line ∷ []) ≡ cells_of front ++ line.1 ∷ []
  cells_behind front line = map-append (λ (line : Line). line.1) front (line ∷ [])

  count_of : (front : List Line) → length (cells_of front) ≡ length front
  count_of [] = refl
  count_of (line ∷ front) = ap suc (count_of front)

  -- a tree that names none of the further tables and isn't Yes over a front lets nothing through
  stopped : (session : Session) (trees : List Placed) (tree : Placed)
      → ((test : Placed → Bool) → test tree ≡ false → list_all test trees ≡ false)
      → (views : List (List Line)) (front : List Line)
      → is_met (value_at (cells_of front) session tree) ≡ false
      → ((range : ℕ) → length front ≤ range → range < length front + length views → names_range range tree ≡ false)
      → gathered (passes session trees) front views ≡ []
  stopped session trees tree among [] front unmet off =
      ap (λ b. if b then front ∷ [] else []) (among (λ (other : Placed). is_met (value_at (cells_of front) session other)) unmet)
  stopped session trees tree among (view ∷ views) front unmet off =
      none_of (λ line. gathered (passes session trees) (front ++ line ∷ []) views)
      (λ line.
      let n = length_push front line in
      let here = ap (λ k. names_range k tree) (count_of front) ∙ off (length front) (omega arith) (omega arith) in
      stopped session trees tree among views (front ++ line ∷ [])
      (ap is_met (ap (λ rows. value_at rows session tree) (cells_behind front line) ∙ same_value session tree (cells_of front) line.1 here) ∙ unmet)
      (λ range above below. off range (omega (arith, n, above)) (omega (arith, n, below))))
      view

  and_true : (a b : Bool) → IsTrue (a && b) → IsTrue a × IsTrue b
  and_true true true e = (e, e)
  and_true true false e = absurd (differs (sym e))
  and_true false b e = absurd (differs (sym e))

  not_true : (a : Bool) → IsTrue (not a) → a ≡ false
  not_true true e = absurd (differs (sym e))
  not_true false e = refl

  behind : (a b : Bool) → b ≡ false → (a && b) ≡ false
  behind true b off = off
  behind false b off = refl

  -- the condition at hand lets nothing through
  first_stops : (session : Session) (trees : List Placed) (test : Test) (rows : List (List Cell)) (front : List Line) (views : List (List Line))
      → ((p : Placed → Bool) → p test.condition.now ≡ false → list_all p trees ≡ false)
      → IsReach test → length rows + length views ≤ FROM_TABLES → rows ≡ cells_of front → IsTrue (refuses session rows test)
      → gathered (passes session trees) front views ≡ []
  first_stops session trees test rows front views among reach few cells refused =
      let both = and_true (test.reach == length rows) (not (is_met (value_at rows session test.condition.now))) refused in
      let exact : test.reach ≡ length rows = eqb-true test.reach (length rows) both.0 in
      let unmet = not_true (is_met (value_at rows session test.condition.now)) both.1 in
      let lengths : length rows ≡ length front = ap length cells ∙ count_of front in
      stopped session trees test.condition.now among views front
      (ap (λ z. is_met (value_at z session test.condition.now)) (sym cells) ∙ unmet)
      (λ range above below. reach range (omega (arith, exact, lengths, above)) (omega (arith, lengths, below, few)))

  one_or_other : (b rest : Bool) (Stops : Type 0) → IsTrue (b || rest) → (IsTrue b → Stops) → (IsTrue rest → Stops) → Stops
  one_or_other true rest Stops e first others = first refl
  one_or_other false rest Stops e first others = others e

  -- one of the conditions lets nothing through
  cut_among : (session : Session) (trees : List Placed) (tests : List Test) (rows : List (List Cell)) (front : List Line) (views : List (List Line))
      → ((p : Placed → Bool) → list_all p (trees_in_tests tests) ≡ false → list_all p trees ≡ false)
      → AllByRecursion IsReach tests → length rows + length views ≤ FROM_TABLES → rows ≡ cells_of front
      → IsTrue (list_any (refuses session rows) tests)
      → gathered (passes session trees) front views ≡ []
  cut_among session trees [] rows front views among reach few cells e = absurd (differs (sym e))
  cut_among session trees (test ∷ tests) rows front views among reach few cells e =
      one_or_other (refuses session rows test) (list_any (refuses session rows) tests) (gathered (passes session trees) front views ≡ []) e
      (λ is. first_stops session trees test rows front views (λ p off. among p (ap (λ b. b && list_all p (trees_in_tests tests)) off)) reach.0 few cells is)
      (λ is. cut_among session trees tests rows front views (λ p off. among p (behind (p test.condition.now) (list_all p (trees_in_tests tests)) off)) reach.1 few cells is)

  pub cut_off : (session : Session) (tests : List Test) (rows : List (List Cell)) (front : List Line) (views : List (List Line))
      → AllByRecursion IsReach tests → length rows + length views ≤ FROM_TABLES → rows ≡ cells_of front
      → IsTrue (list_any (refuses session rows) tests)
      → gathered (passes session (trees_in_tests tests)) front views ≡ []
  cut_off session tests rows front views reach few cells e = cut_among session (trees_in_tests tests) tests rows front views (λ p off. off) reach few cells e

pub views_count : (sources : List Source) → length (views sources) ≡ length sources
views_count [] = refl
views_count (source ∷ sources) = ap suc (views_count sources)

-- an AND is placed by its parts
pub placed_and : (ranges : List Range) (parts : List Expr) → placed ranges (expr.And parts) ≡ tree.And (map (placed ranges) parts)
placed_and ranges parts = ap (placed ranges) (sym (expr.rolls-And parts)) ∙ fold-roll-Expr Placed (step ranges) (expr_part.And parts)

pub and_itself : (b : Bool) → (b && true) ≡ b
and_itself true = refl
and_itself false = refl

-- the parts of one more condition
pub one_parted : (old parts new conditions : List Placed) (i : ℕ) (condition : Placed) → i < length conditions → condition ≡ get_or conditions i condition
    → new ≡ old ++ parts → AreMetTogether parts (condition ∷ []) → AreMetTogether old (take i conditions) → AreMetTogether new (take (i + 1) conditions)
one_parted old parts new conditions i condition within is added together so_far session rows =
    let met = λ (tree : Placed). is_met (value_at rows session tree) in
    ap (list_all met) added ∙ list_all-append met old parts
    ∙ ap₂ (λ a b. a && b) (so_far session rows) (together session rows ∙ and_itself (met condition) ∙ ap met is)
    ∙ sym (list_all_more met conditions i condition within)

pub some_other : {X : Type 0} (P Q : X → Type 0) → ((x : X) → P x → Q x) → (found : Option X) → IfSome found P → IfSome found Q
some_other P Q f None e = e
some_other P Q f (Some x) e = f x e

pub filter_same : {X : Type 0} (p q : X → Bool) → ((x : X) → p x ≡ q x) → (xs : List X) → filter p xs ≡ filter q xs
filter_same p q e [] = refl
filter_same p q e (x ∷ xs) = ap (λ b. if b then x ∷ filter p xs else filter p xs) (e x) ∙ ap (λ z. if q x then x ∷ z else z) (filter_same p q e xs)

-- conditions that are Yes together let the same combinations through
pub same_combos : (session : Session) (some others : List Placed) → AreMetTogether some others → (views : List (List Line)) → combos session some views ≡ combos session others views
same_combos session some others together views = filter_same (passes session some) (passes session others) (λ combo. together session (cells_of combo)) (product views)
