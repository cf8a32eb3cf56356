-- What each operator gives of the values of its operands (SQL Language Reference, "Arithmetic Operators", "Comparison
-- Conditions", "Logical Conditions", "Null Conditions", "LIKE Condition", "IN Condition" and "BETWEEN Condition";
-- numbers of at most 18 digits are this project's profile).
use Rattle.std.specs.Prelude.{ℤ, pos, ◌+ℤ◌, ◌-ℤ◌, ◌*ℤ◌, Bool, true, false, ◌&&◌, List, [], ◌∷◌, map, Option, Some, None, if◌then◌else◌}
use Rattle.std.specs.Int.Signed.{le_z}
use Rattle.std.specs.Ordering.{is_eq, is_ne, is_lt, is_le, is_gt, is_ge}
use Rattle.std.specs.Str.{chars}
use Rattle.std.specs.declared.cmp.Ordering.{Ordering}
use Rattle.au_base.specs.declared.cell.Cell.{Cell}
use Rattle.au_base.specs.declared.cell.Cell.TheVariants.{Null, Num, Text, Moment}
use Rattle.au_base.specs.declared.truth.Truth.{Truth}
use Rattle.au_base.specs.declared.truth.Truth.TheVariants.{No, Unknown, Yes}
use Rattle.au_base.specs.Cells.{comparison}
use Rattle.au_base.specs.Limits.{LARGEST}
use Rattle.au_base.specs.Truths.{conjunction, disjunction, negation, truth_of}
use Rattle.sql_ast.specs.declared.expression.Relation.{Relation}
use Rattle.sql_ast.specs.declared.expression.Relation.TheVariants as relation
use Rattle.au_expr.specs.Likes.{likes}
use Rattle.au_expr.specs.Values.{Value, Is, Holds, Overflows, truth_in, cell_in, unless_overflow}

-- Truths

-- the least of the truths, in the order No, Unknown, Yes
abbrev pub least : List Truth → Truth
least [] = Yes
least (t ∷ truths) = conjunction t (least truths)

-- the greatest of the truths
abbrev pub greatest : List Truth → Truth
greatest [] = No
greatest (t ∷ truths) = disjunction t (greatest truths)

-- the truth, or its opposite where NOT stands inside the test
abbrev pub turned : Bool → Truth → Truth
turned false t = t
turned true t = negation t

abbrev pub and_value : List Value → Value
and_value parts = unless_overflow parts (Holds (least (map truth_in parts)))

abbrev pub or_value : List Value → Value
or_value parts = unless_overflow parts (Holds (greatest (map truth_in parts)))

abbrev pub not_value : Value → Value
not_value part = unless_overflow (part ∷ []) (Holds (negation (truth_in part)))

-- Tests

-- whether the order is one that the comparison asks for
abbrev pub is_asked : Relation → Ordering → Bool
is_asked relation.Equal order = is_eq order
is_asked relation.Unequal order = is_ne order
is_asked relation.Less order = is_lt order
is_asked relation.LessEqual order = is_le order
is_asked relation.Greater order = is_gt order
is_asked relation.GreaterEqual order = is_ge order

-- what two cells that don't compare leave is unknown
abbrev pub truth_of_order : Relation → Option Ordering → Truth
truth_of_order asked None = Unknown
truth_of_order asked (Some order) = truth_of (is_asked asked order)

abbrev pub compared : Relation → Cell → Cell → Truth
compared asked a b = truth_of_order asked (comparison a b)

abbrev pub compare_value : Relation → Value → Value → Value
compare_value asked a b = unless_overflow (a ∷ b ∷ []) (Holds (compared asked (cell_in a) (cell_in b)))

abbrev pub is_null : Cell → Bool
is_null Null = true
is_null (Num n) = false
is_null (Text t) = false
is_null (Moment m) = false

abbrev pub null_value : Bool → Value → Value
null_value negated part = unless_overflow (part ∷ []) (Holds (turned negated (truth_of (is_null (cell_in part)))))

-- a text against a pattern, by characters
abbrev pub like_test : Cell → Cell → Truth
like_test (Text text) (Text pattern) = truth_of (likes (chars pattern) (chars text))
like_test _ _ = Unknown

abbrev pub like_value : Bool → Value → Value → Value
like_value negated text pattern = unless_overflow (text ∷ pattern ∷ []) (Holds (turned negated (like_test (cell_in text) (cell_in pattern))))

-- the OR of the equalities
abbrev pub among : Cell → List Cell → Truth
among part cells = greatest (map (compared relation.Equal part) cells)

abbrev pub in_value : Bool → Value → List Value → Value
in_value negated part choices = unless_overflow (part ∷ choices) (Holds (turned negated (among (cell_in part) (map cell_in choices))))

-- the AND of both comparisons
abbrev pub within : Cell → Cell → Cell → Truth
within part low high = conjunction (compared relation.GreaterEqual part low) (compared relation.LessEqual part high)

abbrev pub between_value : Bool → Value → Value → Value → Value
between_value negated part low high =
    unless_overflow (part ∷ low ∷ high ∷ []) (Holds (turned negated (within (cell_in part) (cell_in low) (cell_in high))))

-- Numbers

-- at most 18 digits, with a sign or without
abbrev pub has_digits : ℤ → Bool
has_digits n = le_z (pos 0 -ℤ LARGEST) n && le_z n LARGEST

-- the number, and an overflow where it has over 18 digits
abbrev pub exact : ℤ → Value
exact n = if has_digits n then Is (Num n) else Overflows

abbrev pub number : ℤ → Value
number n = Is (Num n)

-- the sum of two cells, or their difference; with NULL it is NULL
abbrev pub plus : Bool → Cell → Cell → Value
plus false (Num a) (Num b) = exact (a +ℤ b)
plus true (Num a) (Num b) = exact (a -ℤ b)
plus _ _ _ = Is Null

abbrev pub added : Bool → Value → Value → Value
added minus a b = unless_overflow (a ∷ b ∷ []) (plus minus (cell_in a) (cell_in b))

-- what stands before and these summands, step by step from the left
abbrev pub sum_from : Value → List (Bool × Value) → Value
sum_from before [] = before
sum_from before (part ∷ parts) = sum_from (added part.0 before part.1) parts

-- from the left, beginning at 0; `true` says that `-` stands before the summand
abbrev pub sum_value : List (Bool × Value) → Value
sum_value parts = sum_from (number (pos 0)) parts

-- the product of two cells; with NULL it is NULL
abbrev pub times : Cell → Cell → Value
times (Num a) (Num b) = exact (a *ℤ b)
times _ _ = Is Null

abbrev pub multiplied : Value → Value → Value
multiplied a b = unless_overflow (a ∷ b ∷ []) (times (cell_in a) (cell_in b))

-- what stands before and these factors, step by step from the left
abbrev pub product_from : Value → List Value → Value
product_from before [] = before
product_from before (part ∷ parts) = product_from (multiplied before part) parts

-- from the left, beginning at 1
abbrev pub product_value : List Value → Value
product_value parts = product_from (number (pos 1)) parts

-- the sign `-`
abbrev pub sign_value : Value → Value
sign_value part = added true (number (pos 0)) part
