use Rattle.std.proofs.Common.{◌≡◌, length}
use Rattle.sql_parse.specs.CallStatements as call
use Rattle.sql_parse_calls.proofs.procedures.is_among.Given as goal

abbrev pub invariant-loop-parameters : goal.invariant-loop-parameters
invariant-loop-parameters l = call.is_given l.initial.parameters l.parameter ≡ call.is_given l.parameters l.parameter

abbrev pub decreases-loop-parameters : goal.decreases-loop-parameters
decreases-loop-parameters l = length l.parameters
