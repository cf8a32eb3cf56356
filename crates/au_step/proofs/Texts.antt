-- The texts of statements: a password stands in its text, and the text of a record can be written.
use Rattle.std.proofs.Common.{◌≢◌, ℕ, ◌≤◌, List, [], ◌∷◌, length, take, drop, arith}
use Rattle.std.specs.Prelude.{IsAscii, IsUtf8}
use Rattle.std.proofs.lemmas.Str.{IsUtf8-append, IsUtf8-from_ascii}
use Rattle.std.proofs.lemmas.Str.Ascii.{IsAscii-cons, IsAscii-nil}
use Rattle.au_audit.specs.Statements as audited
use Rattle.au_audit.specs.Statements.{IsPasswordIn, recorded_text, without_password}
use Rattle.sql_ast.specs.declared.administration.Password.{Password}
use Rattle.sql_ast.specs.declared.statement.Statement.{Statement}
use Rattle.sql_ast.specs.declared.statement.Statement.TheVariants.{Select, Count, Insert, Update, Delete, Commit, Rollback, CreateTable, DropTable, CreateUser, AlterUser, DropUser, CreateRole, DropRole, Grant, CreatePolicy, DropPolicy, Audit, Noaudit, Call}
use Rattle.sql_lex.specs.declared.token.Token.{Token}
use Rattle.sql_lex.specs.Tokens.{AreTokens}
use Rattle.sql_parse.specs.Statements.{IsStatement, Reads}
use Rattle.sql_parse_admin.specs.Passwords as read
use Rattle.sql_parse_admin.specs.Passwords.{StandsIn}
use Rattle.au_step.proofs.Given.{OfTexts}
use Rattle.au_step.proofs.Tokens.{no_statement, tokens_some}

-- a text that is a statement has a byte at least
some_bytes : (text : List ℕ) (ts : List Token) (x : Statement) → IsStatement text ts x → AreTokens text ts → 1 ≤ length text
some_bytes text [] x s h = absurd (no_statement text x s)
some_bytes text (t ∷ ts) x s h = tokens_some 0 text t ts (length text) [] h

read_some : (text : List ℕ) (x : Statement) → Reads text x → 1 ≤ length text
read_some text x r = some_bytes text r.tokens x r.statement r.cut

none_short : (text : List ℕ) → 1 ≤ length text → text ≢ []
none_short [] some same = omega arith
none_short (b ∷ text) some same = cc

-- where a password stands
stands : (text : List ℕ) (password : Password) → StandsIn text password → IsPasswordIn text password
stands text password h = record { some = h.some; within = h.within; before = h.before; behind = h.behind }

-- the password that the statement has stands in the text
pub placed : (text : List ℕ) (x : Statement) → read.IsPlaced text x → audited.IsPlaced text x
placed text (Select select) h = tt
placed text (Count count) h = tt
placed text (Insert insert) h = tt
placed text (Update update) h = tt
placed text (Delete delete) h = tt
placed text Commit h = tt
placed text Rollback h = tt
placed text (CreateTable create) h = tt
placed text (DropTable table) h = tt
placed text (CreateUser user password) h = stands text password h
placed text (AlterUser user password) h = stands text password h
placed text (DropUser user) h = tt
placed text (CreateRole role) h = tt
placed text (DropRole role) h = tt
placed text (Grant grant) h = tt
placed text (CreatePolicy create) h = tt
placed text (DropPolicy policy) h = tt
placed text (Audit audit) h = tt
placed text (Noaudit policy users) h = tt
placed text (Call call) h = tt

-- the text without a password is UTF-8
star : IsAscii (42 ∷ [])
star = IsAscii-cons 42 [] (omega arith) IsAscii-nil

without_utf8 : (text : List ℕ) (password : Password) → IsPasswordIn text password → IsUtf8 (without_password text password)
without_utf8 text password h =
    IsUtf8-append (take password.from text) (42 ∷ drop password.to text) h.before
    (IsUtf8-append (42 ∷ []) (drop password.to text) (IsUtf8-from_ascii (42 ∷ []) star) h.behind)

recorded_utf8 : (text : List ℕ) (x : Statement) → IsUtf8 text → audited.IsPlaced text x → IsUtf8 (recorded_text text x)
recorded_utf8 text (Select select) utf8 h = utf8
recorded_utf8 text (Count count) utf8 h = utf8
recorded_utf8 text (Insert insert) utf8 h = utf8
recorded_utf8 text (Update update) utf8 h = utf8
recorded_utf8 text (Delete delete) utf8 h = utf8
recorded_utf8 text Commit utf8 h = utf8
recorded_utf8 text Rollback utf8 h = utf8
recorded_utf8 text (CreateTable create) utf8 h = utf8
recorded_utf8 text (DropTable table) utf8 h = utf8
recorded_utf8 text (CreateUser user password) utf8 h = without_utf8 text password h
recorded_utf8 text (AlterUser user password) utf8 h = without_utf8 text password h
recorded_utf8 text (DropUser user) utf8 h = utf8
recorded_utf8 text (CreateRole role) utf8 h = utf8
recorded_utf8 text (DropRole role) utf8 h = utf8
recorded_utf8 text (Grant grant) utf8 h = utf8
recorded_utf8 text (CreatePolicy create) utf8 h = utf8
recorded_utf8 text (DropPolicy policy) utf8 h = utf8
recorded_utf8 text (Audit audit) utf8 h = utf8
recorded_utf8 text (Noaudit policy users) utf8 h = utf8
recorded_utf8 text (Call call) utf8 h = utf8

-- the text of a statement's record can be written
pub recorded_written : OfTexts → (text : List ℕ) (x : Statement) → IsUtf8 text → Reads text x → audited.IsPlaced text x
    → (1 ≤ length (recorded_text text x)) × (length (recorded_text text x) ≤ 32_767) × IsUtf8 (recorded_text text x)
recorded_written texts text x utf8 r h =
    let fits = texts.fits text x h in
    let short = r.short in
    (texts.some text x h (none_short text (read_some text x r)), omega arith, recorded_utf8 text x utf8 h)
