use Rattle.std.proofs.Common.{◌≡◌, ◌++◌, map, length}
use Rattle.std.specs.List.{list_all}
use Rattle.sql_parse.specs.CallStatements as call
use Rattle.sql_parse_calls.proofs.procedures.are_own.Given as goal

abbrev pub invariant-loop-arguments : goal.invariant-loop-arguments
invariant-loop-arguments l = list_all (call.is_given (call.needed_by l.procedure ++ call.optional_of l.procedure)) (map (λ a. a.parameter) l.initial.arguments) ≡ list_all (call.is_given (call.needed_by l.procedure ++ call.optional_of l.procedure)) (map (λ a. a.parameter) l.arguments)

abbrev pub decreases-loop-arguments : goal.decreases-loop-arguments
decreases-loop-arguments l = length l.arguments
