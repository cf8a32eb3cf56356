-- What the parameters of a package call are given (PL/SQL Packages and Types Reference, "DBMS_FGA" and "DBMS_AUDIT_MGMT";
-- which values are of a wrong kind is this project's profile).
use Rattle.std.specs.Prelude.{◌==◌, ℕ, Bool, true, false, List, Option, Some, None, find, option_map}
use Rattle.sql_ast.specs.declared.call.Argument.{Argument}
use Rattle.sql_ast.specs.declared.call.Parameter.{Parameter}
use Rattle.sql_ast.specs.declared.call.Parameter.TheVariants as parameter
use Rattle.sql_ast.specs.declared.call.Value.{Value}
use Rattle.sql_ast.specs.declared.call.Value.TheVariants.{True, False}

-- a number for each parameter
abbrev pub number_of : Parameter → ℕ
number_of parameter.ObjectSchema = 0
number_of parameter.ObjectName = 1
number_of parameter.PolicyName = 2
number_of parameter.AuditCondition = 3
number_of parameter.AuditColumn = 4
number_of parameter.HandlerSchema = 5
number_of parameter.HandlerModule = 6
number_of parameter.Enable = 7
number_of parameter.StatementTypes = 8
number_of parameter.AuditColumnOpts = 9
number_of parameter.AuditTrailType = 10
number_of parameter.LastArchiveTime = 11
number_of parameter.UseLastArchTimestamp = 12

-- two parameters are the same
abbrev pub same_parameter : Parameter → Parameter → Bool
same_parameter a b = number_of a == number_of b

-- what the parameter is given, where it is
abbrev pub given : List Argument → Parameter → Option Value
given arguments name = option_map (λ argument. argument.value) (find (λ argument. same_parameter argument.parameter name) arguments)

-- TRUE or FALSE, or TRUE where the parameter isn't given; another value, NULL too, is of a wrong kind
abbrev pub truth_in : Option Value → Option Bool
truth_in None = Some true
truth_in (Some True) = Some true
truth_in (Some False) = Some false
truth_in _ = None
