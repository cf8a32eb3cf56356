use Rattle.std.proofs.Common.{◌≡◌, map, length}
use Rattle.sql_parse.specs.CallStatements as call
use Rattle.sql_parse_calls.proofs.procedures.are_different.Given as goal

abbrev pub invariant-loop-arguments : goal.invariant-loop-arguments
invariant-loop-arguments l = call.are_different (map (λ a. a.parameter) l.initial.arguments) ≡ call.are_different (map (λ a. a.parameter) l.arguments)

abbrev pub decreases-loop-arguments : goal.decreases-loop-arguments
decreases-loop-arguments l = length l.arguments
