-- Which cells there are, and how they compare (SQL Language Reference, "Nulls", "Data Type Comparison Rules" and
-- "Nulls in Comparison Conditions"; the bounds of numbers and moments are this project's profile).
use Rattle.std.specs.Prelude.{◌≢◌, ◌≤◌, ℕ, List, [], ◌∷◌, Option, Some, None, ⊤}
use Rattle.std.specs.declared.cmp.Ordering.{Ordering}
use Rattle.std.specs.Ordering.{nat_cmp, int_cmp}
use Rattle.std.specs.Cmp.Lexicographic.{slice_cmp}
use Rattle.au_base.specs.declared.cell.Cell.{Cell}
use Rattle.au_base.specs.declared.cell.Cell.TheVariants.{Null, Num, Text, Moment}
use Rattle.au_base.specs.Limits.{LAST_MOMENT}
use Rattle.au_base.specs.Numbers.{FitsDigits}

-- a number has at most 18 digits, a text isn't empty, and a moment isn't over the last one
abbrev pub IsSoundCell : Cell → Type 0
IsSoundCell Null = ⊤
IsSoundCell (Num number) = FitsDigits number
IsSoundCell (Text text) = text ≢ []
IsSoundCell (Moment moment) = moment ≤ LAST_MOMENT

-- the cell of a text: the empty text is NULL
abbrev pub text_cell : List ℕ → Cell
text_cell [] = Null
text_cell (byte ∷ bytes) = Text (byte ∷ bytes)

-- numbers and moments as numbers, texts by their bytes; nothing where one is NULL or the kinds differ
abbrev pub comparison : Cell → Cell → Option Ordering
comparison (Num a) (Num b) = Some (int_cmp a b)
comparison (Text a) (Text b) = Some (slice_cmp nat_cmp a b)
comparison (Moment a) (Moment b) = Some (nat_cmp a b)
comparison _ _ = None
