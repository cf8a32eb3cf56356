-- What the code holds midway. No promise of the crate rests on these.
use Rattle.std.specs.Prelude.{ℕ, ◌+◌, ℤ, Bool, true, false, ◌&&◌, ◌||◌, ◌==◌, List, [], ◌∷◌, map, Option, Some, None}
use Rattle.au_base.specs.declared.cell.Cell.TheVariants as cell
use Rattle.au_base.specs.declared.code.Code.{Code}
use Rattle.au_base.specs.declared.table.ColumnKind.TheVariants as columns
use Rattle.au_base.specs.Codes.{UNKNOWN_COLUMN, AMBIGUOUS_COLUMN}
use Rattle.au_base.specs.declared.truth.Truth.{Truth}
use Rattle.au_base.specs.Truths.{conjunction, disjunction}
use Rattle.sql_ast.specs.declared.expression.Expr.{Expr}
use Rattle.sql_ast.specs.declared.expression.Relation.TheVariants as relation
use Rattle.au_expr.specs.declared.found.Found.{Found}
use Rattle.au_expr.specs.declared.found.Found.TheVariants as found
use Rattle.au_expr.specs.declared.kind.ExprKind.{ExprKind}
use Rattle.au_expr.specs.declared.kind.ExprKind.TheVariants.{Of}
use Rattle.au_expr.specs.declared.agreed.Agreed.{Agreed}
use Rattle.au_expr.specs.declared.lookup.Meant.{Meant}
use Rattle.au_expr.specs.declared.lookup.Meant.TheVariants as looked
use Rattle.au_expr.specs.declared.placed.Place.{Place}
use Rattle.au_expr.specs.declared.placed.Placed.{Placed}
use Rattle.au_expr.specs.declared.placed.Placed.TheVariants as tree
use Rattle.au_expr.specs.declared.ranges.Asked.{Asked}
use Rattle.au_expr.specs.declared.ranges.Asked.TheVariants as asked
use Rattle.au_expr.specs.declared.conditions.Plainness.{Plainness}
use Rattle.au_expr.specs.declared.conditions.Plainness.TheVariants as plainness
use Rattle.au_expr.specs.declared.placed.Placed.TheOpen as form
use Rattle.au_expr.specs.declared.placed.Placed.TheFolds.{fold-Placed}
use Rattle.au_expr.specs.Conditions as conditions
use Rattle.au_expr.specs.Overflows.{any_holds}
use Rattle.au_expr.specs.Kinds.{goes_with, kind}
use Rattle.au_expr.specs.Names.{name_code, places_of}
use Rattle.au_expr.specs.Rows.{Range}
use Rattle.au_expr.specs.Operators.{compare_value, turned}
use Rattle.au_expr.specs.Values.{Value, Is, Holds, Overflows, truth_in, unless_overflow}

-- the value that is held
abbrev pub told : Found → Value
told found.Null = Is cell.Null
told (found.Num n) = Is (cell.Num n)
told (found.Text t) = Is (cell.Text t.now)
told (found.Moment m) = Is (cell.Moment m)
told (found.Truth t) = Holds t
told found.Overflow = Overflows

-- two truths joined
abbrev pub joined : (Truth → Truth → Truth) → Value → Value → Value
joined f a b = unless_overflow (a ∷ b ∷ []) (Holds (f (truth_in a) (truth_in b)))

-- from the left
abbrev pub all_from : Value → List Value → Value
all_from before [] = before
all_from before (part ∷ parts) = all_from (joined conjunction before part) parts

abbrev pub any_from : Value → List Value → Value
any_from before [] = before
any_from before (part ∷ parts) = any_from (joined disjunction before part) parts

abbrev pub among_from : Value → Value → List Value → Value
among_from wanted before [] = before
among_from wanted before (part ∷ parts) = among_from wanted (joined disjunction before (compare_value relation.Equal wanted part)) parts

abbrev pub is_holds : Value → Bool
is_holds (Is c) = false
is_holds (Holds t) = true
is_holds Overflows = false

abbrev pub turned_value : Bool → Value → Value
turned_value negated (Is c) = Is c
turned_value negated (Holds t) = Holds (turned negated t)
turned_value negated Overflows = Overflows

abbrev pub number_or_overflow : Option ℤ → Value
number_or_overflow None = Overflows
number_or_overflow (Some n) = Is (cell.Num n)

-- what a name means, by its places
abbrev pub meant : List Place → Meant
meant [] = looked.Nothing
meant (place ∷ []) = looked.One place
meant (place ∷ _ ∷ _) = looked.Several

abbrev pub with_place : Meant → Place → Meant
with_place looked.Nothing place = looked.One place
with_place (looked.One _) place = looked.Several
with_place looked.Several place = looked.Several

abbrev pub meant_from : Meant → List Place → Meant
meant_from before [] = before
meant_from before (place ∷ places) = meant_from (with_place before place) places

-- the ranges from this number on
abbrev pub meant_in_ranges : Option (List ℕ) → List ℕ → Meant → ℕ → List Range → Meant
meant_in_ranges written name before number [] = before
meant_in_ranges written name before number (range ∷ ranges) =
    meant_in_ranges written name (meant_from before (places_of written name (number, range))) (number + 1) ranges

abbrev pub code_of_meant : Meant → Option Code
code_of_meant looked.Nothing = Some UNKNOWN_COLUMN
code_of_meant (looked.One place) = None
code_of_meant looked.Several = Some AMBIGUOUS_COLUMN

abbrev pub kind_of_meant : Meant → Option ExprKind
kind_of_meant looked.Nothing = None
kind_of_meant (looked.One place) = Some (Of place.kind)
kind_of_meant looked.Several = None

-- with which kinds all operands so far go
abbrev pub with_operand : Agreed → Option ExprKind → Agreed
with_operand before operand = record {
  number = before.number && goes_with columns.Number operand;
  text = before.text && goes_with columns.Text operand;
  moment = before.moment && goes_with columns.Moment operand;
}

abbrev pub agreed_from : Agreed → List (Option ExprKind) → Agreed
agreed_from before [] = before
agreed_from before (operand ∷ operands) = agreed_from (with_operand before operand) operands

abbrev pub everything : Agreed
everything = record { number = true; text = true; moment = true }

abbrev pub is_agreed : Agreed → Bool
is_agreed agreed = agreed.number || (agreed.text || agreed.moment)

abbrev pub column_of_meant : Meant → Placed
column_of_meant looked.Nothing = tree.Null
column_of_meant (looked.One place) = tree.Column place
column_of_meant looked.Several = tree.Null

-- the codes and the kinds of summands
abbrev pub codes_in_sum : List Range → List (Bool × Expr) → List (Option Code)
codes_in_sum ranges parts = map (λ (p : Bool × Option Code). p.1) (map (λ (part : Bool × Expr). (part.0, name_code ranges part.1)) parts)

abbrev pub kinds_in_sum : List Range → List (Bool × Expr) → List (Option ExprKind)
kinds_in_sum ranges parts = map (λ (p : Bool × Option ExprKind). p.1) (map (λ (part : Bool × Expr). (part.0, kind ranges part.1)) parts)

-- whether the place is one that is asked for
abbrev pub is_asked : Asked → Place → Bool
is_asked (asked.Range range) place = place.range == range
is_asked (asked.Column range column) place = place.range == range && place.column == column

abbrev pub names_step : Asked → form.Placed-F Bool → Bool
names_step wanted (form.Or parts) = any_holds parts
names_step wanted (form.And parts) = any_holds parts
names_step wanted (form.Not a) = a
names_step wanted (form.Compare relation a b) = any_holds (a ∷ b ∷ [])
names_step wanted (form.IsNull a negated) = a
names_step wanted (form.Like text pattern negated) = any_holds (text ∷ pattern ∷ [])
names_step wanted (form.In a choices negated) = any_holds (a ∷ choices)
names_step wanted (form.Between a low high negated) = any_holds (a ∷ low ∷ high ∷ [])
names_step wanted (form.Sum parts) = any_holds (map (λ p. p.1) parts)
names_step wanted (form.Product parts) = any_holds parts
names_step wanted (form.Negate a) = a
names_step wanted (form.Column place) = is_asked wanted place
names_step wanted _ = false

-- whether a column of the expression is asked for
abbrev pub names : Asked → Placed → Bool
names wanted = fold-Placed Bool (names_step wanted)

abbrev pub names_in_sum : Asked → List (Bool × Placed) → List Bool
names_in_sum wanted parts = map (λ (p : Bool × Bool). p.1) (map (λ (part : Bool × Placed). (part.0, names wanted part.1)) parts)

-- how plain a tree is, as the code holds it
abbrev pub told_plainness : Plainness → conditions.Plainness
told_plainness plainness.Digits = conditions.Digits
told_plainness plainness.Plain = conditions.Plain
told_plainness plainness.Refused = conditions.Refused
