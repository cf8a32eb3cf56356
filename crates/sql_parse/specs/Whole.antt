-- What a whole statement is, whatever its rule.
use Rattle.std.specs.Prelude.{◌≡◌, ℕ, true, List, [], Option, Result, IfOk, MatchOption}
use Rattle.au_base.specs.declared.memory.Memory.{Memory}
use Rattle.sql_lex.specs.declared.token.Kind.{Kind}
use Rattle.sql_ast.specs.declared.statement.Statement.{Statement}
use Rattle.sql_parse.specs.Symbols.{semicolon}
use Rattle.sql_parse.specs.Rules.{Maybe}
use Rattle.sql_parse.specs.Conditions.{opens_few}

-- A rule derives the statement from the tokens, all of them or all but a `;`, however deep it nests, and no more than the
-- limit of parentheses are open at once. A token may be seen with its place, or as its kind alone.
pub record Whole {T : Type 0} (seen : List T → List Kind) (derives : ℕ → List T → Statement → List T → Type 0) (ts : List T) (x : Statement) : Type 0 where
  pub few : opens_few 0 (seen ts) ≡ true
  pub depth : ℕ
  pub behind : List T
  pub derived : derives depth ts x behind
  pub ends : Maybe semicolon (seen behind) []

-- the same of kinds alone, by a rule that doesn't nest
abbrev pub WholeOf : (List Kind → Statement → List Kind → Type 0) → List Kind → Statement → Type 0
WholeOf derives = Whole (λ ks. ks) (λ depth. derives)

-- a call finds the statement that this says, or that there is none, unless memory ran out
abbrev pub Finds : (Statement → Type 0) → Result (Option Statement) Memory → Type 0
Finds Is found = IfOk found (λ f. MatchOption f ((x : Statement) → ¬ (Is x)) Is)
