-- The codes of expressions, and of a condition that is refused, are a few.
use Rattle.std.proofs.Common.{◌≡◌, ◌<◌, ◌^◌, ℕ, Bool, true, false, List, [], ◌∷◌, map, Option, Some, None, sym, subst, arith}
use Rattle.std.specs.Prelude.{⊤, if◌then◌else◌}
use Rattle.au_base.specs.Codes.{WRONG_KIND}
use Rattle.au_base.specs.declared.code.Code.{Code}
use Rattle.au_base.specs.declared.table.ColumnKind.{ColumnKind}
use Rattle.au_calls.specs.Reading.{wrong_code}
use Rattle.au_condition.specs.Reading.{by_code, condition_in, condition_read, is_short, read_as, read_text, read_tree, read_where}
use Rattle.au_entries.specs.declared.decision.ReadCondition.{ReadCondition}
use Rattle.au_entries.specs.declared.decision.ReadCondition.TheVariants.{Bad}
use Rattle.au_entries.specs.declared.table.Table.{Table}
use Rattle.au_expr.specs.declared.placed.Place.{Place}
use Rattle.au_expr.specs.Conditions.{is_plain}
use Rattle.au_expr.specs.Kinds.{is_truth, kind}
use Rattle.au_expr.specs.Names.{code_of, first, name_code, or_code, places, step}
use Rattle.au_expr.specs.Resolving.{condition_code, is_value, value_code}
use Rattle.au_expr.specs.Rows.{Range}
use Rattle.au_replay.specs.Reading.{ranges_of}
use Rattle.sql_ast.specs.declared.expression.Expr.{Expr}
use Rattle.sql_ast.specs.declared.expression.Expr.TheOpen as part
use Rattle.sql_ast.specs.declared.expression.Expr.TheViews.{roll-Expr}
use Rattle.sql_ast.specs.declared.expression.Expr.TheFolds.{fold-roll-Expr, ind-Expr, map-Expr}
use Rattle.sql_ast.specs.declared.statement.Statement.{Statement}
use Rattle.sql_parse.specs.Trees.{tree_of}

-- a code, where there is one, is small
abbrev Fits : Option Code → Type 0
Fits None = ⊤
Fits (Some code) = code.0 < 2 ^ 32

-- ---- the names of an expression

or_fits : (a b : Option Code) → Fits a → Fits b → Fits (or_code a b)
or_fits None b left right = right
or_fits (Some code) b left right = left

places_fit : (found : List Place) → Fits (code_of found)
places_fit [] = omega arith
places_fit (place ∷ []) = tt
places_fit (place ∷ other ∷ found) = omega arith

module _ (ranges : List Range) where
  abbrev Named : Expr → Type 0
  Named e = Fits (name_code ranges e)

  abbrev firsts : List ((e : Expr) × Named e) → List Expr
  firsts ys = map (λ y. y.0) ys

  all_fit : (ys : List ((e : Expr) × Named e)) → Fits (first (map (name_code ranges) (firsts ys)))
  all_fit [] = tt
  all_fit (y ∷ ys) = or_fits (name_code ranges y.0) (first (map (name_code ranges) (firsts ys))) y.1 (all_fit ys)

  abbrev summands : List (Bool × ((e : Expr) × Named e)) → List (Bool × Expr)
  summands ys = map (λ y. (y.0, y.1.0)) ys

  abbrev coded : Bool × Expr → Bool × Option Code
  coded p = (p.0, name_code ranges p.1)

  abbrev second : Bool × Option Code → Option Code
  second p = p.1

  summands_fit : (ys : List (Bool × ((e : Expr) × Named e))) → Fits (first (map second (map coded (summands ys))))
  summands_fit [] = tt
  summands_fit (y ∷ ys) = or_fits (name_code ranges y.1.0) (first (map second (map coded (summands ys)))) y.1.1 (summands_fit ys)

  unrolled : (x : part.Expr-F Expr) → Fits (step ranges (map-Expr Expr (Option Code) (name_code ranges) x)) → Named (roll-Expr x)
  unrolled x fits = subst Fits (sym (fold-roll-Expr (Option Code) (step ranges) x)) fits

  cases : (y : part.Expr-F ((e : Expr) × Named e)) → Named (roll-Expr (map-Expr ((e : Expr) × Named e) Expr (λ e. e.0) y))
  cases (part.Or ys) = unrolled (part.Or (firsts ys)) (all_fit ys)
  cases (part.And ys) = unrolled (part.And (firsts ys)) (all_fit ys)
  cases (part.Not a) = unrolled (part.Not a.0) a.1
  cases (part.Compare asked a b) = unrolled (part.Compare asked a.0 b.0) (all_fit (a ∷ b ∷ []))
  cases (part.IsNull a negated) = unrolled (part.IsNull a.0 negated) a.1
  cases (part.Like a b negated) = unrolled (part.Like a.0 b.0 negated) (all_fit (a ∷ b ∷ []))
  cases (part.In a ys negated) = unrolled (part.In a.0 (firsts ys) negated) (all_fit (a ∷ ys))
  cases (part.Between a b c negated) = unrolled (part.Between a.0 b.0 c.0 negated) (all_fit (a ∷ b ∷ c ∷ []))
  cases (part.Sum ys) = unrolled (part.Sum (summands ys)) (summands_fit ys)
  cases (part.Product ys) = unrolled (part.Product (firsts ys)) (all_fit ys)
  cases (part.Negate a) = unrolled (part.Negate a.0) a.1
  cases (part.Number n) = unrolled (part.Number n) tt
  cases (part.Literal text) = unrolled (part.Literal text) tt
  cases part.Null = unrolled part.Null tt
  cases (part.Column written name) = unrolled (part.Column written name) (places_fit (places ranges written name))
  cases part.User = unrolled part.User tt
  cases part.Now = unrolled part.Now tt
  cases (part.Moment m) = unrolled (part.Moment m) tt
  cases (part.Context attribute) = unrolled (part.Context attribute) tt

  names_fit : (e : Expr) → Named e
  names_fit = ind-Expr Named (λ x y is. subst (λ z. Named (roll-Expr z)) is (cases y))

  -- ---- a condition

  kind_fits : (truth : Bool) → Fits (if truth then None else Some WRONG_KIND)
  kind_fits true = tt
  kind_fits false = omega arith

  condition_fits : (e : Expr) → Fits (condition_code ranges e)
  condition_fits e = or_fits (name_code ranges e) (if is_truth (kind ranges e) then None else Some WRONG_KIND) (names_fit e) (kind_fits (is_truth (kind ranges e)))

  value_fits : (wanted : Option ColumnKind) (e : Expr) → Fits (value_code wanted ranges e)
  value_fits wanted e = or_fits (name_code ranges e) (if is_value wanted (kind ranges e) then None else Some WRONG_KIND) (names_fit e) (kind_fits (is_value wanted (kind ranges e)))

-- what fits is small where it is there
small : (found : Option Code) (code : Code) → Fits found → found ≡ Some code → code.0 < 2 ^ 32
small found code fits is = subst Fits is fits

pub names : (ranges : List Range) (e : Expr) (code : Code) → name_code ranges e ≡ Some code → code.0 < 2 ^ 32
names ranges e code = small (name_code ranges e) code (names_fit ranges e)

pub conditions : (ranges : List Range) (e : Expr) (code : Code) → condition_code ranges e ≡ Some code → code.0 < 2 ^ 32
conditions ranges e code = small (condition_code ranges e) code (condition_fits ranges e)

pub values : (wanted : Option ColumnKind) (ranges : List Range) (e : Expr) (code : Code) → value_code wanted ranges e ≡ Some code → code.0 < 2 ^ 32
values wanted ranges e code = small (value_code wanted ranges e) code (value_fits ranges wanted e)

-- ---- what became of a condition

abbrev IsTold : ReadCondition → Type 0
IsTold read = (wrong_code read).0 < 2 ^ 32

bad_told : IsTold Bad
bad_told = omega arith

code_told : (text : List ℕ) (tree : Expr) (code : Option Code) → Fits code → IsTold (by_code text tree code)
code_told text tree (Some code) fits = fits
code_told text tree None fits = omega arith

where_told : (test : Bool) (read : ReadCondition) → IsTold read → IsTold (if test then read else Bad)
where_told true read told = told
where_told false read told = bad_told

tree_told : (ranges : List Range) (text : List ℕ) (tree : Expr) → IsTold (read_tree ranges text tree)
tree_told ranges text tree =
    where_told (is_plain tree) (by_code text tree (condition_code ranges tree)) (code_told text tree (condition_code ranges tree) (condition_fits ranges tree))

as_told : (ranges : List Range) (text : List ℕ) (reading : Option Expr) → IsTold (read_as ranges text reading)
as_told ranges text None = bad_told
as_told ranges text (Some tree) = tree_told ranges text tree

text_told : (ranges : List Range) (text : List ℕ) → IsTold (read_text ranges text)
text_told ranges text = where_told (is_short text) (read_as ranges text (tree_of text)) (as_told ranges text (tree_of text))

asked_told : (condition : Option (Option Table × List ℕ)) → IsTold (read_where condition)
asked_told None = omega arith
asked_told (Some condition) = text_told (ranges_of condition.0) condition.1

pub told : (tables : List Table) (user : List ℕ) (statement : Statement) → (wrong_code (condition_read tables user statement)).0 < 2 ^ 32
told tables user statement = asked_told (condition_in tables user statement)
