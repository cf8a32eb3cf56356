use Rattle.std.proofs.Common.{◌≡◌, map, length}
use Rattle.std.specs.List.{list_all}
use Rattle.sql_parse.specs.CallStatements as call
use Rattle.sql_parse_calls.proofs.procedures.are_given.Given as goal

abbrev pub invariant-loop-parameters : goal.invariant-loop-parameters
invariant-loop-parameters l = list_all (call.is_given (map (λ a. a.parameter) l.arguments)) l.initial.parameters ≡ list_all (call.is_given (map (λ a. a.parameter) l.arguments)) l.parameters

abbrev pub decreases-loop-parameters : goal.decreases-loop-parameters
decreases-loop-parameters l = length l.parameters
