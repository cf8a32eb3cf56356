-- Reading calls of procedures by descent: what each function of the code answers.
use Rattle.std.specs.Prelude.{ℕ, Bool, ◌&&◌, if◌then◌else◌, List, [], ◌∷◌, map, find, Option, Some, None, codes}
use Rattle.std.specs.Str.{bytes_eq}
use Rattle.sql_lex.specs.declared.token.Kind.{Kind}
use Rattle.sql_lex.specs.declared.token.Kind.TheVariants.{Word, Quoted, Number, Text, Mark}
use Rattle.sql_lex.specs.declared.token.Mark.TheVariants as mark
use Rattle.sql_ast.specs.declared.call.Argument.{Argument}
use Rattle.sql_ast.specs.declared.call.Call.{Call}
use Rattle.sql_ast.specs.declared.call.Parameter.{Parameter}
use Rattle.sql_ast.specs.declared.call.Procedure.{Procedure}
use Rattle.sql_ast.specs.declared.call.Value.{Value}
use Rattle.sql_ast.specs.declared.call.Value.TheVariants as values
use Rattle.sql_ast.specs.declared.statement.Statement.{Statement}
use Rattle.sql_ast.specs.declared.statement.Statement.TheVariants as statement
use Rattle.sql_ast.specs.Procedures.{each_parameter, each_procedure, package_of, parameter_name, procedure_name}
use Rattle.sql_parse.specs.Symbols.{sees, opening, closing, comma, dot, semicolon}
use Rattle.sql_parse.specs.descent.Reading.{Reader, ◌>>=◌, under, behind, expect, parted, name, literal}
use Rattle.sql_parse.specs.descent.MomentReading.{moment_read}
use Rattle.sql_parse.specs.CallStatements.{are_taken}

-- ---- names

-- whether the procedure is called by these names of a package and a procedure
abbrev pub is_called : List ℕ → List ℕ → Procedure → Bool
is_called qualifier n f = bytes_eq qualifier (package_of f) && bytes_eq n (procedure_name f)

-- the procedure of these names
unfoldable pub procedure_of : List ℕ → List ℕ → Option Procedure
procedure_of qualifier n = find (is_called qualifier n) each_procedure

-- whether the parameter has this name
unfoldable pub is_named : List ℕ → Parameter → Bool
is_named n p = bytes_eq n (parameter_name p)

-- the parameter of this name
unfoldable pub parameter_of : List ℕ → Option Parameter
parameter_of n = find (is_named n) each_parameter

-- the bytes of a word, reserved or not, or of a quoted name
abbrev pub spelling : Kind → Option (List ℕ)
spelling (Word w) = Some w
spelling (Quoted n) = Some n
spelling _ = None

unfoldable pub spelled : Reader (List ℕ)
spelled [] = None
spelled (k ∷ o) = spelling k >>= λ n. Some (n, o)

-- name . name
unfoldable pub dotted : Reader (List ℕ × List ℕ)
dotted i = name i >>= λ p. expect dot p.1 >>= λ j. under (λ n. (p.0, n)) (name j)

-- past SYS and its dot, if they come next
abbrev pub past_owner : List Kind → List Kind
past_owner i = if sees (Word (codes "SYS")) i && sees dot (behind i) then behind (behind i) else i

-- [SYS .] name . name, none of which is a reserved word
unfoldable pub procedure : Reader Procedure
procedure i = spelled (past_owner i) >>= λ q. expect dot q.1 >>= λ j. spelled j >>= λ n. procedure_of q.0 n.0 >>= λ f. Some (f, n.1)

-- a name, which is no reserved word
unfoldable pub parameter : Reader Parameter
parameter i = spelled i >>= λ n. parameter_of n.0 >>= λ p. Some (p, n.1)

-- ---- arguments

-- behind TIMESTAMP
unfoldable pub moment : Reader Value
moment i = literal i >>= λ t. moment_read t.0 >>= λ m. Some (values.Moment m, t.1)

-- name . name, a package and its constant
unfoldable pub constant : Reader Value
constant i = under (λ n. values.Constant n.0 n.1) (dotted i)

-- what a word or a quoted name begins
unfoldable pub worded_value : Reader Value
worded_value i =
    if sees (Word (codes "NULL")) i then Some (values.Null, behind i) else (if sees (Word (codes "TRUE")) i then Some (values.True, behind i)
    else (if sees (Word (codes "FALSE")) i then Some (values.False, behind i) else (if sees (Word (codes "SYSTIMESTAMP")) i then Some (values.Now, behind i)
    else (if sees (Word (codes "TIMESTAMP")) i then moment (behind i) else constant i))))

unfoldable pub value : Reader Value
value [] = None
value (Number n ∷ o) = Some (values.Number n, o)
value (Text t ∷ o) = Some (values.Literal t, o)
value (k ∷ o) = worded_value (k ∷ o)

unfoldable pub argument : Reader Argument
argument i = parameter i >>= λ p. expect (Mark mark.Arrow) p.1 >>= λ j. under (λ v. record { parameter = p.0; value = v }) (value j)

unfoldable pub arguments : Reader (List Argument)
arguments = parted comma argument

-- ---- statements

-- the call, if the procedure can be given these
abbrev pub called : Procedure → List Argument → Reader Call
called f given o = if are_taken f (map (λ a. a.parameter) given) then Some (record { procedure = f; arguments = given }, o) else None

unfoldable pub call : Reader Call
call i = procedure i >>= λ f. expect opening f.1 >>= λ j. arguments j >>= λ given. expect closing given.1 >>= λ o. called f.0 given.0 o

-- behind BEGIN
unfoldable pub block : Reader Statement
block i = call i >>= λ x. expect semicolon x.1 >>= λ j. expect (Word (codes "END")) j >>= λ o. Some (statement.Call x.0, o)

unfoldable pub call_statement : Reader Statement
call_statement i = if sees (Word (codes "BEGIN")) i then block (behind i) else (expect (Word (codes "CALL")) i >>= λ j. under statement.Call (call j))
