-- Words and marks as tokens, and the words that are reserved (SQL Language Reference, "Oracle SQL Reserved Words and
-- Keywords"; the list is this project's profile).
use Rattle.std.specs.Prelude.{ℕ, Bool, false, not, ◌&&◌, ◌==◌, nat_le, if◌then◌else◌, List, [], ◌∷◌, length, map, codes}
use Rattle.std.specs.Str.{bytes_eq}
use Rattle.std.specs.List.{list_any}
use Rattle.au_base.specs.Limits.{NAME_BYTES}
use Rattle.sql_lex.specs.declared.token.Kind.{Kind}
use Rattle.sql_lex.specs.declared.token.Kind.TheVariants.{Word, Mark}
use Rattle.sql_lex.specs.declared.token.Mark.{Mark as MarkName}
use Rattle.sql_lex.specs.declared.token.Mark.TheVariants as mark
use Rattle.sql_lex.specs.declared.token.Token.{Token}

-- what the tokens are, whatever their places
abbrev pub kinds : List Token → List Kind
kinds ts = map (λ t. t.kind) ts

-- the words that can't be names without quotes
abbrev pub reserved : List (List ℕ)
reserved = codes "ACTIONS" ∷ codes "ALL" ∷ codes "ALTER" ∷ codes "AND" ∷ codes "AS" ∷ codes "ASC" ∷ codes "AUDIT" ∷ codes "BEGIN" ∷ codes "BETWEEN" ∷ codes "BY" ∷ codes "CALL" ∷ codes "COMMIT"
    ∷ codes "CREATE" ∷ codes "DELETE" ∷ codes "DESC" ∷ codes "DROP" ∷ codes "END" ∷ codes "EXCEPT" ∷ codes "FALSE" ∷ codes "FROM" ∷ codes "GRANT" ∷ codes "IDENTIFIED" ∷ codes "IN" ∷ codes "INNER"
    ∷ codes "INSERT" ∷ codes "INTO" ∷ codes "IS" ∷ codes "JOIN" ∷ codes "LIKE" ∷ codes "NOAUDIT" ∷ codes "NOT" ∷ codes "NULL" ∷ codes "NUMBER" ∷ codes "ON" ∷ codes "OR" ∷ codes "ORDER" ∷ codes "PRIMARY"
    ∷ codes "PRIVILEGES" ∷ codes "REVOKE" ∷ codes "ROLES" ∷ codes "ROLLBACK" ∷ codes "SELECT" ∷ codes "SET" ∷ codes "SYSTIMESTAMP" ∷ codes "TABLE" ∷ codes "TIMESTAMP" ∷ codes "TO" ∷ codes "TRUE"
    ∷ codes "UPDATE" ∷ codes "USER" ∷ codes "VALUES" ∷ codes "VARCHAR2" ∷ codes "WHEN" ∷ codes "WHENEVER" ∷ codes "WHERE" ∷ codes "WITH" ∷ []

-- whether the word is one of them
unfoldable pub is_reserved : List ℕ → Bool
is_reserved word = list_any (bytes_eq word) reserved

-- a word that can be a name without quotes
abbrev pub is_free : List ℕ → Bool
is_free word = not (is_reserved word) && (nat_le 1 (length word) && nat_le (length word) NAME_BYTES)

-- one number a mark
abbrev pub mark_number : MarkName → ℕ
mark_number mark.OpenParenthesis = 0
mark_number mark.CloseParenthesis = 1
mark_number mark.Comma = 2
mark_number mark.Period = 3
mark_number mark.Semicolon = 4
mark_number mark.Asterisk = 5
mark_number mark.Plus = 6
mark_number mark.Minus = 7
mark_number mark.Equal = 8
mark_number mark.Less = 9
mark_number mark.Greater = 10
mark_number mark.LessGreater = 11
mark_number mark.NotEqual = 12
mark_number mark.LessEqual = 13
mark_number mark.GreaterEqual = 14
mark_number mark.Arrow = 15

-- whether two words or two marks are the same
abbrev pub same : Kind → Kind → Bool
same (Word a) (Word b) = bytes_eq a b
same (Mark a) (Mark b) = mark_number a == mark_number b
same _ _ = false

-- whether this word or mark comes next
abbrev pub sees : Kind → List Kind → Bool
sees k [] = false
sees k (t ∷ ts) = same k t

-- `(`
abbrev pub opening : Kind
opening = Mark mark.OpenParenthesis

-- `)`
abbrev pub closing : Kind
closing = Mark mark.CloseParenthesis

-- `*`
abbrev pub star : Kind
star = Mark mark.Asterisk

-- `+`
abbrev pub plus : Kind
plus = Mark mark.Plus

-- `,`
abbrev pub comma : Kind
comma = Mark mark.Comma

-- `-`
abbrev pub minus : Kind
minus = Mark mark.Minus

-- `.`
abbrev pub dot : Kind
dot = Mark mark.Period

-- `=`
abbrev pub equal : Kind
equal = Mark mark.Equal

-- `;`
abbrev pub semicolon : Kind
semicolon = Mark mark.Semicolon

-- How far up a token goes on with what stands before it: 1 an atom, 2 a term, 3 a sum, 4 a test, 5 a run of ANDs, 6 one
-- of ORs. At 7 it goes on with none of them.
abbrev pub level_of_mark : MarkName → ℕ
level_of_mark mark.OpenParenthesis = 1
level_of_mark mark.Period = 1
level_of_mark mark.Asterisk = 2
level_of_mark mark.Plus = 3
level_of_mark mark.Minus = 3
level_of_mark mark.Equal = 4
level_of_mark mark.Less = 4
level_of_mark mark.Greater = 4
level_of_mark mark.LessGreater = 4
level_of_mark mark.NotEqual = 4
level_of_mark mark.LessEqual = 4
level_of_mark mark.GreaterEqual = 4
level_of_mark mark.CloseParenthesis = 7
level_of_mark mark.Comma = 7
level_of_mark mark.Semicolon = 7
level_of_mark mark.Arrow = 7

-- the words that go on with a sum to a test
abbrev pub test_words : List (List ℕ)
test_words = codes "IS" ∷ codes "NOT" ∷ codes "LIKE" ∷ codes "IN" ∷ codes "BETWEEN" ∷ []

-- the same of a word
abbrev pub level_of_word : List ℕ → ℕ
level_of_word w = if bytes_eq w (codes "AND") then 5 else (if bytes_eq w (codes "OR") then 6 else (if list_any (bytes_eq w) test_words then 4 else 7))

-- the same of a token
abbrev pub level : Kind → ℕ
level (Word w) = level_of_word w
level (Mark m) = level_of_mark m
level _ = 7

-- The same of what comes next. At the end nothing goes on.
abbrev pub level_at : List Kind → ℕ
level_at [] = 7
level_at (t ∷ ts) = level t
