-- What a call of a package's procedure is (PL/SQL Packages and Types Reference, "DBMS_FGA" and "DBMS_AUDIT_MGMT"; which
-- procedures and parameters there are is this project's profile).
use Rattle.std.specs.Prelude.{◌≡◌, ℕ, Bool, true, not, ◌&&◌, ◌==◌, List, [], ◌∷◌, ◌++◌, map, codes}
use Rattle.std.specs.List.{list_any, list_all}
use Rattle.sql_lex.specs.declared.token.Kind.{Kind}
use Rattle.sql_lex.specs.declared.token.Kind.TheVariants.{Word, Number, Text, Mark}
use Rattle.sql_lex.specs.declared.token.Mark.TheVariants as mark
use Rattle.sql_ast.specs.declared.call.Argument.{Argument}
use Rattle.sql_ast.specs.declared.call.Call.{Call}
use Rattle.sql_ast.specs.declared.call.Parameter.{Parameter}
use Rattle.sql_ast.specs.declared.call.Parameter.TheVariants as parameter
use Rattle.sql_ast.specs.declared.call.Procedure.{Procedure}
use Rattle.sql_ast.specs.declared.call.Value.{Value}
use Rattle.sql_ast.specs.declared.call.Value.TheVariants as value
use Rattle.sql_ast.specs.declared.statement.Statement.{Statement}
use Rattle.sql_ast.specs.declared.statement.Statement.TheVariants as statement
pub use Rattle.sql_ast.specs.Procedures.{needed_by, optional_of, package_of, parameter_name, procedure_name}
use Rattle.au_base.specs.Moments.{TellsMoment}
use Rattle.sql_parse.specs.Symbols.{opening, closing, comma, dot, semicolon}
use Rattle.sql_parse.specs.Rules.{Parted}
use Rattle.sql_parse.specs.Tables.{Name}
use Rattle.sql_parse.specs.Whole.{WholeOf}

-- one number a parameter
abbrev pub parameter_number : Parameter → ℕ
parameter_number parameter.ObjectSchema = 0
parameter_number parameter.ObjectName = 1
parameter_number parameter.PolicyName = 2
parameter_number parameter.AuditCondition = 3
parameter_number parameter.AuditColumn = 4
parameter_number parameter.HandlerSchema = 5
parameter_number parameter.HandlerModule = 6
parameter_number parameter.Enable = 7
parameter_number parameter.StatementTypes = 8
parameter_number parameter.AuditColumnOpts = 9
parameter_number parameter.AuditTrailType = 10
parameter_number parameter.LastArchiveTime = 11
parameter_number parameter.UseLastArchTimestamp = 12

-- whether the parameter is among these
abbrev pub is_given : List Parameter → Parameter → Bool
is_given ps p = list_any (λ q. parameter_number q == parameter_number p) ps

-- whether no parameter is given twice
abbrev pub are_different : List Parameter → Bool
are_different [] = true
are_different (p ∷ ps) = not (is_given ps p) && are_different ps

-- whether a procedure can be given these: each at most once and each one of its own, and all that are needed among them
abbrev pub are_taken : Procedure → List Parameter → Bool
are_taken f ps = are_different ps && (list_all (is_given (needed_by f ++ optional_of f)) ps && list_all (is_given ps) (needed_by f))

-- value = literal | number | NULL | TRUE | FALSE | name . name | SYSTIMESTAMP | TIMESTAMP literal
pub data IsValue : List Kind → Value → List Kind → Type 0 where
  literal : {t : List ℕ} {o : List Kind} → IsValue (Text t ∷ o) (value.Literal t) o
  number : {n : _} {o : List Kind} → IsValue (Number n ∷ o) (value.Number n) o
  null : {o : List Kind} → IsValue (Word (codes "NULL") ∷ o) value.Null o
  true_ : {o : List Kind} → IsValue (Word (codes "TRUE") ∷ o) value.True o
  false_ : {o : List Kind} → IsValue (Word (codes "FALSE") ∷ o) value.False o
  constant : {i m o : List Kind} {p c : List ℕ} → Name i p (dot ∷ m) → Name m c o → IsValue i (value.Constant p c) o
  now : {o : List Kind} → IsValue (Word (codes "SYSTIMESTAMP") ∷ o) value.Now o
  moment : {t : List ℕ} {m : ℕ} {o : List Kind} → TellsMoment t m → IsValue (Word (codes "TIMESTAMP") ∷ Text t ∷ o) (value.Moment m) o

-- arg = name => value, the name of a parameter
pub data IsArgument : List Kind → Argument → List Kind → Type 0 where
  argument : {i m o : List Kind} {p : Parameter} {v : Value} → Name i (parameter_name p) (Mark mark.Arrow ∷ m) → IsValue m v o → IsArgument i (record { parameter = p; value = v }) o

-- [SYS .]
pub data Owner : List Kind → List Kind → Type 0 where
  unqualified : {o : List Kind} → Owner o o
  sys : {o : List Kind} → Owner (Word (codes "SYS") ∷ dot ∷ o) o

-- call = [SYS .] name . name ( arg {, arg} ), the names of a package and of its procedure
pub data IsCall : List Kind → Call → List Kind → Type 0 where
  calls : {i j m n o : List Kind} {f : Procedure} {given : List Argument} → Owner i j → Name j (package_of f) (dot ∷ m) → Name m (procedure_name f) (opening ∷ n) → Parted comma IsArgument n given (closing ∷ o)
      → are_taken f (map (λ a. a.parameter) given) ≡ true → IsCall i (record { procedure = f; arguments = given }) o

-- Call = BEGIN call ; END | CALL call
pub data CallStatement : List Kind → Statement → List Kind → Type 0 where
  block : {i o : List Kind} {x : Call} → IsCall i x (semicolon ∷ Word (codes "END") ∷ o) → CallStatement (Word (codes "BEGIN") ∷ i) (statement.Call x) o
  calls : {i o : List Kind} {x : Call} → IsCall i x o → CallStatement (Word (codes "CALL") ∷ i) (statement.Call x) o

-- the tokens are this statement, with `;` behind it or without
abbrev pub IsCallStatement : List Kind → Statement → Type 0
IsCallStatement = WholeOf CallStatement
