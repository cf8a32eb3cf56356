use Rattle.std.specs.Prelude.{Ok, Err, Result, Option, List, ℕ}
use Rattle.au_base.specs.declared.memory.Memory.{Memory}
use Rattle.sql_ast.specs.declared.statement.Statement.{Statement}
use Rattle.sql_lex.specs.declared.token.Token.{Token}
use Rattle.sql_parse.specs.Symbols.{kinds}
use Rattle.sql_parse.specs.Statements.{IsStatement}
use Rattle.sql_parse.specs.Whole.{Finds}
use Rattle.sql_parse_admin.specs.descent.Families.{IsOf, family_of}
use Rattle.sql_parse_admin.proofs.FamilyLaws.{found_of_all}
use Rattle.sql_parse_admin.proofs.statements.statement.Goals as goal

go : (text : List ℕ) (ts : List Token) (result : Result (Option Statement) Memory) → Finds (IsOf (family_of (kinds ts)) text ts) result → Finds (IsStatement text ts) result
go text ts (Ok found) h = found_of_all text ts found h
go text ts (Err e) h = tt

pub returns : goal.returns
returns c = λ few. go c.args.text.now c.args.tokens.now c.statement_of.result ((rw c.family_of.ensures at c.statement_of.ensures) few)
