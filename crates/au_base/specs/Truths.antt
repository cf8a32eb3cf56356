-- Three-valued logic (SQL Language Reference, "Logical Conditions").
use Rattle.std.specs.Prelude.{ℕ, Bool, true, false, nat_le, if◌then◌else◌}
use Rattle.au_base.specs.declared.truth.Truth.{Truth}
use Rattle.au_base.specs.declared.truth.Truth.TheVariants.{No, Unknown, Yes}

-- the place in the order No, Unknown, Yes
abbrev pub rank : Truth → ℕ
rank No = 0
rank Unknown = 1
rank Yes = 2

-- AND is the lesser
abbrev pub conjunction : Truth → Truth → Truth
conjunction a b = if nat_le (rank a) (rank b) then a else b

-- OR is the greater
abbrev pub disjunction : Truth → Truth → Truth
disjunction a b = if nat_le (rank a) (rank b) then b else a

-- NOT exchanges Yes and No
abbrev pub negation : Truth → Truth
negation No = Yes
negation Unknown = Unknown
negation Yes = No

-- a test's answer
abbrev pub truth_of : Bool → Truth
truth_of true = Yes
truth_of false = No
