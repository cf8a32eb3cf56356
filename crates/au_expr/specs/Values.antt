-- What an expression gives over a row: a cell, a truth, or that an operand overflowed (SQL Language Reference,
-- "Expressions" and "Conditions"; that every operand is evaluated is this project's profile).
use Rattle.std.specs.Prelude.{◌≡◌, ◌≢◌, Bool, true, false, List, Result, Ok, Err, if◌then◌else◌}
use Rattle.std.specs.List.{list_any}
use Rattle.au_base.specs.declared.cell.Cell.{Cell}
use Rattle.au_base.specs.declared.cell.Cell.TheVariants as cell
use Rattle.au_base.specs.declared.code.Code.{Code}
use Rattle.au_base.specs.declared.truth.Truth.{Truth}
use Rattle.au_base.specs.declared.truth.Truth.TheVariants as truth
use Rattle.au_base.specs.Codes.{OVERFLOW}

pub data Value : Type 0 where
  Is : Cell → Value
  Holds : Truth → Value
  Overflows : Value

-- whether it is an overflow
abbrev pub is_overflow : Value → Bool
is_overflow (Is c) = false
is_overflow (Holds t) = false
is_overflow Overflows = true

-- its truth; a cell, such as NULL, is unknown as one
abbrev pub truth_in : Value → Truth
truth_in (Is c) = truth.Unknown
truth_in (Holds t) = t
truth_in Overflows = truth.Unknown

-- its cell; a truth has none
abbrev pub cell_in : Value → Cell
cell_in (Is c) = c
cell_in (Holds t) = cell.Null
cell_in Overflows = cell.Null

-- an overflow where some operand is one, and else this
abbrev pub unless_overflow : List Value → Value → Value
unless_overflow operands otherwise = if list_any is_overflow operands then Overflows else otherwise

-- what a call answers of an expression that is no truth: its cell, or 1426 exactly at an overflow
abbrev pub GivesCell : Result Cell Code → Value → Type 0
GivesCell (Ok c) given = given ≡ Is c
GivesCell (Err code) given = (given ≡ Overflows) × (code ≡ OVERFLOW)

-- what a call answers of an expression that is a truth: it, or 1426 exactly at an overflow
abbrev pub GivesTruth : Result Truth Code → Value → Type 0
GivesTruth (Ok t) given = (given ≢ Overflows) × (t ≡ truth_in given)
GivesTruth (Err code) given = (given ≡ Overflows) × (code ≡ OVERFLOW)

-- whether it is Yes
abbrev pub is_met : Value → Bool
is_met (Is c) = false
is_met (Holds truth.No) = false
is_met (Holds truth.Unknown) = false
is_met (Holds truth.Yes) = true
is_met Overflows = false
