-- The names of packages are as long as names may be.
use Rattle.std.proofs.Common.{arith}
use Rattle.au_base.specs.Naming.{IsNameLong}
use Rattle.sql_ast.specs.Procedures.{package_of}
use Rattle.sql_ast.specs.declared.call.Procedure.{Procedure}
use Rattle.sql_ast.specs.declared.call.Procedure.TheVariants as procedure

pub package_long : (called : Procedure) → IsNameLong (package_of called)
package_long procedure.AddPolicy = record { some = omega arith; capped = omega arith }
package_long procedure.DropPolicy = record { some = omega arith; capped = omega arith }
package_long procedure.EnablePolicy = record { some = omega arith; capped = omega arith }
package_long procedure.DisablePolicy = record { some = omega arith; capped = omega arith }
package_long procedure.SetLastArchiveTimestamp = record { some = omega arith; capped = omega arith }
package_long procedure.ClearLastArchiveTimestamp = record { some = omega arith; capped = omega arith }
package_long procedure.CleanAuditTrail = record { some = omega arith; capped = omega arith }
