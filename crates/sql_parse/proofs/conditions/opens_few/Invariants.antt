use Rattle.std.proofs.Common.{◌≡◌, length}
use Rattle.sql_parse.specs.Symbols.{kinds}
use Rattle.sql_parse.specs.Conditions.{opens_few}
use Rattle.sql_parse.proofs.conditions.opens_few.Given as goal

abbrev pub invariant-loop-tokens : goal.invariant-loop-tokens
invariant-loop-tokens l = opens_few 0 (kinds l.initial.tokens) ≡ opens_few l.«open» (kinds l.tokens)

abbrev pub decreases-loop-tokens : goal.decreases-loop-tokens
decreases-loop-tokens l = length l.tokens
