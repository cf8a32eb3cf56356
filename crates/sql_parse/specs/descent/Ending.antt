-- The end of a statement that was read: what the code answers of all tokens.
use Rattle.std.specs.Prelude.{◌≡◌, List, Option, Some, None, Result, Ok, Err, IsErr}
use Rattle.au_base.specs.declared.memory.Memory.{Memory}
use Rattle.sql_lex.specs.declared.token.Kind.{Kind}
use Rattle.sql_ast.specs.declared.statement.Statement.{Statement}
use Rattle.sql_parse.specs.declared.stop.Stop.{Stop}
use Rattle.sql_parse.specs.declared.stop.Stop.TheVariants as stop
use Rattle.sql_parse.specs.descent.Reading.{whole}
use Rattle.sql_parse.specs.descent.ReadStatements.{past_end}

-- what was read, where at most a `;` follows
abbrev pub ended : {T : Type 0} → (List T → List Kind) → Option (Statement × List T) → Option Statement
ended seen None = None
ended seen (Some x) = whole (past_end (Some (x.0, seen x.1)))

-- the same of what a function returned
abbrev pub Ends : {X : Type 0} → (X → Statement × List Kind) → Result X Stop → Result (Option Statement) Memory → Type 0
Ends view (Ok x) found = found ≡ Ok (whole (past_end (Some (view x))))
Ends view (Err stop.Unread) found = found ≡ Ok None
Ends view (Err stop.Memory) found = IsErr found
