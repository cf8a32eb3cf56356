-- Where a statement's password stands in its text.
use Rattle.std.specs.Prelude.{◌≡◌, ◌<◌, ◌≤◌, ◌++◌, ◌⊎◌, ⊤, ℕ, List, codes, drop, length, take, IsUtf8}
use Rattle.sql_ast.specs.declared.administration.Password.{Password}
use Rattle.sql_ast.specs.declared.statement.Statement.{Statement}
use Rattle.sql_ast.specs.declared.statement.Statement.TheVariants.{CreateUser, AlterUser}
use Rattle.sql_parse.specs.UserStatements.{part}

-- The bytes between the password's places are its token: the password as it is written, or between two `"`. What stands
-- before them and behind them is text.
pub record StandsIn (text : List ℕ) (password : Password) : Type 0 where
  pub some : password.from < password.to
  pub within : password.to ≤ length text
  pub before : IsUtf8 (take password.from text)
  pub behind : IsUtf8 (drop password.to text)
  pub token : (part text password.from password.to ≡ password.text) ⊎ (part text password.from password.to ≡ codes "\"" ++ (password.text ++ codes "\""))

-- the password that the statement has stands in the text
abbrev pub IsPlaced : List ℕ → Statement → Type 0
IsPlaced text (CreateUser user password) = StandsIn text password
IsPlaced text (AlterUser user password) = StandsIn text password
IsPlaced text _ = ⊤
