-- Procedures of packages, and what they can be given (PL/SQL Packages and Types Reference, "DBMS_FGA" and
-- "DBMS_AUDIT_MGMT"; which procedures and parameters there are is this project's profile).
use Rattle.std.specs.Prelude.{ℕ, List, [], ◌∷◌, codes}
use Rattle.sql_ast.specs.declared.call.Parameter.{Parameter}
use Rattle.sql_ast.specs.declared.call.Parameter.TheVariants as parameter
use Rattle.sql_ast.specs.declared.call.Procedure.{Procedure}
use Rattle.sql_ast.specs.declared.call.Procedure.TheVariants as procedure

-- all procedures
abbrev pub each_procedure : List Procedure
each_procedure =
    procedure.AddPolicy ∷ procedure.DropPolicy ∷ procedure.EnablePolicy ∷ procedure.DisablePolicy ∷ procedure.SetLastArchiveTimestamp ∷ procedure.ClearLastArchiveTimestamp
    ∷ procedure.CleanAuditTrail ∷ []

-- all parameters
abbrev pub each_parameter : List Parameter
each_parameter =
    parameter.ObjectSchema ∷ parameter.ObjectName ∷ parameter.PolicyName ∷ parameter.AuditCondition ∷ parameter.AuditColumn ∷ parameter.HandlerSchema ∷ parameter.HandlerModule
    ∷ parameter.Enable ∷ parameter.StatementTypes ∷ parameter.AuditColumnOpts ∷ parameter.AuditTrailType ∷ parameter.LastArchiveTime ∷ parameter.UseLastArchTimestamp ∷ []

-- the name of the procedure's package
abbrev pub package_of : Procedure → List ℕ
package_of procedure.AddPolicy = codes "DBMS_FGA"
package_of procedure.DropPolicy = codes "DBMS_FGA"
package_of procedure.EnablePolicy = codes "DBMS_FGA"
package_of procedure.DisablePolicy = codes "DBMS_FGA"
package_of procedure.SetLastArchiveTimestamp = codes "DBMS_AUDIT_MGMT"
package_of procedure.ClearLastArchiveTimestamp = codes "DBMS_AUDIT_MGMT"
package_of procedure.CleanAuditTrail = codes "DBMS_AUDIT_MGMT"

-- the name of the procedure in its package
abbrev pub procedure_name : Procedure → List ℕ
procedure_name procedure.AddPolicy = codes "ADD_POLICY"
procedure_name procedure.DropPolicy = codes "DROP_POLICY"
procedure_name procedure.EnablePolicy = codes "ENABLE_POLICY"
procedure_name procedure.DisablePolicy = codes "DISABLE_POLICY"
procedure_name procedure.SetLastArchiveTimestamp = codes "SET_LAST_ARCHIVE_TIMESTAMP"
procedure_name procedure.ClearLastArchiveTimestamp = codes "CLEAR_LAST_ARCHIVE_TIMESTAMP"
procedure_name procedure.CleanAuditTrail = codes "CLEAN_AUDIT_TRAIL"

-- the name of the parameter
abbrev pub parameter_name : Parameter → List ℕ
parameter_name parameter.ObjectSchema = codes "OBJECT_SCHEMA"
parameter_name parameter.ObjectName = codes "OBJECT_NAME"
parameter_name parameter.PolicyName = codes "POLICY_NAME"
parameter_name parameter.AuditCondition = codes "AUDIT_CONDITION"
parameter_name parameter.AuditColumn = codes "AUDIT_COLUMN"
parameter_name parameter.HandlerSchema = codes "HANDLER_SCHEMA"
parameter_name parameter.HandlerModule = codes "HANDLER_MODULE"
parameter_name parameter.Enable = codes "ENABLE"
parameter_name parameter.StatementTypes = codes "STATEMENT_TYPES"
parameter_name parameter.AuditColumnOpts = codes "AUDIT_COLUMN_OPTS"
parameter_name parameter.AuditTrailType = codes "AUDIT_TRAIL_TYPE"
parameter_name parameter.LastArchiveTime = codes "LAST_ARCHIVE_TIME"
parameter_name parameter.UseLastArchTimestamp = codes "USE_LAST_ARCH_TIMESTAMP"

-- the parameters that have no default, and must be given
abbrev pub needed_by : Procedure → List Parameter
needed_by procedure.AddPolicy = parameter.ObjectName ∷ parameter.PolicyName ∷ []
needed_by procedure.DropPolicy = parameter.ObjectName ∷ parameter.PolicyName ∷ []
needed_by procedure.EnablePolicy = parameter.ObjectName ∷ parameter.PolicyName ∷ []
needed_by procedure.DisablePolicy = parameter.ObjectName ∷ parameter.PolicyName ∷ []
needed_by procedure.SetLastArchiveTimestamp = parameter.AuditTrailType ∷ parameter.LastArchiveTime ∷ []
needed_by procedure.ClearLastArchiveTimestamp = parameter.AuditTrailType ∷ []
needed_by procedure.CleanAuditTrail = parameter.AuditTrailType ∷ []

-- the parameters that have a default, and may be given
abbrev pub optional_of : Procedure → List Parameter
optional_of procedure.AddPolicy =
    parameter.ObjectSchema ∷ parameter.AuditCondition ∷ parameter.AuditColumn ∷ parameter.HandlerSchema ∷ parameter.HandlerModule ∷ parameter.Enable ∷ parameter.StatementTypes
    ∷ parameter.AuditColumnOpts ∷ []
optional_of procedure.DropPolicy = parameter.ObjectSchema ∷ []
optional_of procedure.EnablePolicy = parameter.ObjectSchema ∷ parameter.Enable ∷ []
optional_of procedure.DisablePolicy = parameter.ObjectSchema ∷ []
optional_of procedure.SetLastArchiveTimestamp = []
optional_of procedure.ClearLastArchiveTimestamp = []
optional_of procedure.CleanAuditTrail = parameter.UseLastArchTimestamp ∷ []
