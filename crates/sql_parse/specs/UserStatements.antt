-- What a statement CREATE USER or ALTER USER is (SQL Language Reference, "CREATE USER" and "ALTER USER"; the choice of
-- rules is this project's profile). It speaks of tokens with their places, since a word is a password as it is written.
use Rattle.std.specs.Prelude.{◌≡◌, ℕ, ◌-◌, ◌≤◌, List, ◌∷◌, drop, length, take, codes, IsUtf8}
use Rattle.sql_lex.specs.declared.token.Kind.TheVariants.{Word, Quoted}
use Rattle.sql_lex.specs.declared.token.Token.{Token}
use Rattle.sql_ast.specs.declared.administration.Password.{Password}
use Rattle.sql_ast.specs.declared.statement.Statement.{Statement}
use Rattle.sql_ast.specs.declared.statement.Statement.TheVariants as statement
use Rattle.sql_parse.specs.Symbols.{kinds}
use Rattle.sql_parse.specs.Expressions.{IsName}
use Rattle.sql_parse.specs.Whole.{Whole}

-- the bytes of a text from a place on, before another
abbrev pub part : List ℕ → ℕ → ℕ → List ℕ
part text from to = take (to - from) (drop from text)

-- password = a word, taken as it is written in the text, or a quoted name; with the places of its token
pub data IsPassword (text : List ℕ) : Token → Password → Type 0 where
  word : {w : List ℕ} {from to : ℕ} → from ≤ to → to ≤ length text → IsUtf8 (part text from to)
      → IsPassword text (record { kind = Word w; from = from; to = to }) (record { text = part text from to; from = from; to = to })
  quoted : {n : List ℕ} {from to : ℕ} → IsPassword text (record { kind = Quoted n; from = from; to = to }) (record { text = n; from = from; to = to })

-- CreateUser = CREATE USER name IDENTIFIED BY password
-- AlterUser = ALTER USER name IDENTIFIED BY password
pub data UserStatement (text : List ℕ) : List Token → Statement → List Token → Type 0 where
  creates : {a b c d e t : Token} {o : List Token} {n : List ℕ} {p : Password}
      → a.kind ≡ Word (codes "CREATE") → b.kind ≡ Word (codes "USER") → IsName c.kind n → d.kind ≡ Word (codes "IDENTIFIED") → e.kind ≡ Word (codes "BY") → IsPassword text t p
      → UserStatement text (a ∷ b ∷ c ∷ d ∷ e ∷ t ∷ o) (statement.CreateUser n p) o
  alters : {a b c d e t : Token} {o : List Token} {n : List ℕ} {p : Password}
      → a.kind ≡ Word (codes "ALTER") → b.kind ≡ Word (codes "USER") → IsName c.kind n → d.kind ≡ Word (codes "IDENTIFIED") → e.kind ≡ Word (codes "BY") → IsPassword text t p
      → UserStatement text (a ∷ b ∷ c ∷ d ∷ e ∷ t ∷ o) (statement.AlterUser n p) o

-- the tokens of the text are this statement, with `;` behind it or without
abbrev pub IsUserStatement : List ℕ → List Token → Statement → Type 0
IsUserStatement text = Whole kinds (λ depth. UserStatement text)
