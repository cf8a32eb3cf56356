use Rattle.std.proofs.Common.{◌≡◌, map, length}
use Rattle.sql_parse.specs.CallStatements as call
use Rattle.sql_parse_calls.proofs.procedures.is_given.Given as goal

abbrev pub invariant-loop-arguments : goal.invariant-loop-arguments
invariant-loop-arguments l = call.is_given (map (λ a. a.parameter) l.initial.arguments) l.parameter ≡ call.is_given (map (λ a. a.parameter) l.arguments) l.parameter

abbrev pub decreases-loop-arguments : goal.decreases-loop-arguments
decreases-loop-arguments l = length l.arguments
