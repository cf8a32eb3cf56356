-- Reading CREATE USER and ALTER USER by descent: what each function of the code answers.
use Rattle.std.specs.Prelude.{ℕ, ◌&&◌, nat_le, if◌then◌else◌, List, [], ◌∷◌, drop, length, Option, Some, None, codes}
use Rattle.std.specs.Str.{is_utf8}
use Rattle.sql_lex.specs.declared.token.Kind.{Kind}
use Rattle.sql_lex.specs.declared.token.Kind.TheVariants.{Word, Quoted}
use Rattle.sql_lex.specs.declared.token.Token.{Token}
use Rattle.sql_ast.specs.declared.administration.Password.{Password}
use Rattle.sql_ast.specs.declared.statement.Statement.{Statement}
use Rattle.sql_ast.specs.declared.statement.Statement.TheVariants as statement
use Rattle.sql_parse.specs.Symbols.{kinds, sees}
use Rattle.sql_parse.specs.descent.Reading.{Reader, ◌>>=◌, expect, name}
use Rattle.sql_parse.specs.UserStatements.{part}

-- the word, USER, a name, IDENTIFIED and BY
unfoldable pub heading : List ℕ → Reader (List ℕ)
heading w i =
    expect (Word w) i >>= λ j. expect (Word (codes "USER")) j >>= λ k. name k >>= λ n. expect (Word (codes "IDENTIFIED")) n.1 >>= λ m. expect (Word (codes "BY")) m >>= λ o. Some (n.0, o)

abbrev pub written : List ℕ → ℕ → ℕ → Option Password
written text from to =
    if nat_le from to && (nat_le to (length text) && is_utf8 (part text from to)) then Some (record { text = part text from to; from = from; to = to }) else None

abbrev pub password_of : List ℕ → Kind → ℕ → ℕ → Option Password
password_of text (Word w) from to = written text from to
password_of text (Quoted n) from to = Some (record { text = n; from = from; to = to })
password_of text _ from to = None

-- behind BY
abbrev pub password : List ℕ → List Token → Option (Password × List Token)
password text [] = None
password text (t ∷ ts) = password_of text t.kind t.from t.to >>= λ p. Some (p, ts)

unfoldable pub user : List ℕ → List Token → Option (Statement × List Token)
user text ts =
    if sees (Word (codes "CREATE")) (kinds ts) then (heading (codes "CREATE") (kinds ts) >>= λ n. password text (drop 5 ts) >>= λ p. Some (statement.CreateUser n.0 p.0, p.1))
    else (heading (codes "ALTER") (kinds ts) >>= λ n. password text (drop 5 ts) >>= λ p. Some (statement.AlterUser n.0 p.0, p.1))
