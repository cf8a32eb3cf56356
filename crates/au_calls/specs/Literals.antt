-- What the values of a package call mean as names, texts, columns, kinds of statements and options (PL/SQL Packages and Types
-- Reference, "DBMS_FGA"; SQL Language Reference, "Database Object Naming Rules"; what can't be read is this project's profile).
use Rattle.std.specs.Prelude.{◌&&◌, ◌||◌, ◌==◌, ◌+◌, ◌-◌, ℕ, nat_le, Bool, true, false, if◌then◌else◌, List, [], ◌∷◌, length, map, take, drop, codes, Option, Some, None}
use Rattle.std.specs.List.{list_all, list_any, prefix_len, slice_split, suffix_len}
use Rattle.std.specs.Str.{bytes_eq, is_utf8, str_eq_ignore_ascii_case}
use Rattle.au_calls.specs.Once.{once}
use Rattle.au_base.specs.Naming.{identifier_of}
use Rattle.sql_ast.specs.declared.call.Value.{Value}
use Rattle.sql_ast.specs.declared.call.Value.TheVariants.{Constant, Literal, Null}

-- ---- names

-- the text is UTF-8, and so is what it names, which has 1 to 128 bytes
abbrev pub is_name : List ℕ → Bool
is_name text = is_utf8 text && (is_utf8 (identifier_of text) && (nat_le 1 (length (identifier_of text)) && nat_le (length (identifier_of text)) 128))

-- the name that the text is read as
abbrev pub name_of : List ℕ → Option (List ℕ)
name_of text = if is_name text then Some (identifier_of text) else None

-- a name that must be there: another value, NULL too, is of a wrong kind
abbrev pub name_in : Option Value → Option (List ℕ)
name_in (Some (Literal text)) = name_of text
name_in _ = None

-- ---- texts

-- a text, where there is one: NULL and the empty text, which is NULL, are none, and so is a parameter that isn't given; another
-- value is of a wrong kind
abbrev pub text_in : Option Value → Option (Option (List ℕ))
text_in None = Some None
text_in (Some Null) = Some None
text_in (Some (Literal [])) = Some None
text_in (Some (Literal (byte ∷ bytes))) = Some (Some (byte ∷ bytes))
text_in _ = None

-- the value is NULL, or the parameter isn't given
abbrev pub is_null : Option Value → Bool
is_null None = true
is_null (Some Null) = true
is_null (Some (Literal [])) = true
is_null _ = false

-- the owner of the table: the user where the schema is NULL
abbrev pub owner_by : List ℕ → Option (Option (List ℕ)) → Option (List ℕ)
owner_by user None = None
owner_by user (Some None) = Some user
owner_by user (Some (Some text)) = name_of text

-- ---- lists with commas

-- the pieces of a text between its commas (44)
abbrev pub pieces : List ℕ → List (List ℕ)
pieces text = slice_split (λ byte. byte == 44) text

abbrev pub is_space : ℕ → Bool
is_space byte = byte == 32

-- the piece without the spaces (32) before it and behind it
abbrev pub before_spaces : List ℕ → List ℕ
before_spaces piece = take (length piece - suffix_len is_space piece) piece

abbrev pub trimmed : List ℕ → List ℕ
trimmed piece = before_spaces (drop (prefix_len is_space piece) piece)

-- the piece names a column: what is left of it without spaces is a name
abbrev pub is_column : List ℕ → Bool
is_column piece = is_name (trimmed piece)

-- the column that it names
abbrev pub column_of : List ℕ → List ℕ
column_of piece = identifier_of (trimmed piece)

-- the columns that the pieces name, each once, where all of them name one
abbrev pub columns_in : List (List ℕ) → Option (List (List ℕ))
columns_in texts = if list_all is_column texts then Some (once bytes_eq (map column_of texts)) else None

-- the relevant columns, between commas: none where it is NULL
abbrev pub columns_by : Option (Option (List ℕ)) → Option (List (List ℕ))
columns_by None = None
columns_by (Some None) = Some []
columns_by (Some (Some text)) = columns_in (pieces text)

-- ---- kinds of statements

-- the piece is the word, in any case
abbrev pub is_word : List ℕ → List ℕ → Bool
is_word word piece = str_eq_ignore_ascii_case piece word

-- the piece is a kind of statement
abbrev pub is_kind : List ℕ → Bool
is_kind piece =
    is_word (codes "SELECT") piece || (is_word (codes "INSERT") piece || (is_word (codes "UPDATE") piece || is_word (codes "DELETE") piece))

-- the number of a kind that is among the pieces, else 0
abbrev pub kind_number : List ℕ → ℕ → List (List ℕ) → ℕ
kind_number word number texts = if list_any (is_word word) texts then number else 0

-- the kinds among the pieces: 1 for SELECT, 2 for INSERT, 4 for UPDATE and 8 for DELETE, summed
abbrev pub kinds_named : List (List ℕ) → ℕ
kinds_named texts =
    kind_number (codes "SELECT") 1 texts + kind_number (codes "INSERT") 2 texts + kind_number (codes "UPDATE") 4 texts
    + kind_number (codes "DELETE") 8 texts

-- the kinds that stand between the commas, where all of them are kinds
abbrev pub kinds_in : List (List ℕ) → Option ℕ
kinds_in texts = if list_all is_kind texts then Some (kinds_named texts) else None

-- the kinds of statements: SELECT where it is NULL
abbrev pub kinds_by : Option (Option (List ℕ)) → Option ℕ
kinds_by None = None
kinds_by (Some None) = Some 1
kinds_by (Some (Some text)) = kinds_in (pieces text)

-- ---- the option on columns

-- ANY_COLUMNS asks for one of the columns, ALL_COLUMNS for all of them
abbrev pub option_named : List ℕ → Option Bool
option_named name =
    if bytes_eq name (codes "ANY_COLUMNS") then Some false else (if bytes_eq name (codes "ALL_COLUMNS") then Some true else None)

-- whether all columns are asked for: a constant of DBMS_FGA, or ANY_COLUMNS where the parameter isn't given
abbrev pub option_in : Option Value → Option Bool
option_in None = Some false
option_in (Some (Constant home name)) = if bytes_eq home (codes "DBMS_FGA") then option_named name else None
option_in _ = None
