-- Scanning from the front: what each function of the code answers.
use Rattle.std.specs.Prelude.{ℕ, ◌+◌, ◌^◌, Bool, true, false, ◌&&◌, ◌==◌, nat_le, nat_lt, if◌then◌else◌, List, [], ◌∷◌, ◌++◌, length, map, take, drop, pos, Option, Some, None}
use Rattle.std.specs.List.{prefix_len}
use Rattle.std.specs.Char.{to_ascii_uppercase}
use Rattle.std.specs.Str.{is_utf8}
use Rattle.std.specs.Str.Parse.{digits_value}
use Rattle.sql_lex.specs.declared.token.Kind.{Kind}
use Rattle.sql_lex.specs.declared.token.Kind.TheVariants as kind
use Rattle.sql_lex.specs.declared.token.Mark.{Mark}
use Rattle.sql_lex.specs.declared.token.Mark.TheVariants as mark
use Rattle.sql_lex.specs.Bytes.{is_blank, is_digit, is_letter, is_line_byte, is_quotable, is_word_byte, begins, begins_with}

-- the bytes behind the first
abbrev pub behind : List ℕ → List ℕ
behind [] = []
behind (b ∷ i) = i

-- the bytes of the front that pass the test
abbrev pub front : (ℕ → Bool) → List ℕ → List ℕ
front p i = take (prefix_len p i) i

-- the bytes from the first on that doesn't pass the test
abbrev pub past : (ℕ → Bool) → List ℕ → List ℕ
past p i = drop (prefix_len p i) i

-- how many bytes stand before the first `*/`, and as many again as the number says
unfoldable pub comment_len : ℕ → List ℕ → Option ℕ
comment_len n [] = None
comment_len n (b ∷ i) = if b == 42 && begins_with 47 i then Some n else comment_len (n + 1) i

abbrev pub block_of_len : List ℕ → Option ℕ → Option (List ℕ)
block_of_len i None = None
block_of_len i (Some n) = if is_utf8 (take n i) then Some (drop (n + 2) i) else None

-- behind the comment that `/*` begins
unfoldable pub block : List ℕ → Option (List ℕ)
block i = block_of_len i (comment_len 0 i)

-- behind the comment that `--` begins
unfoldable pub line : List ℕ → Option (List ℕ)
line i = if is_utf8 (front is_line_byte i) then Some (past is_line_byte i) else None

unfoldable pub gap : List ℕ → Option (List ℕ)
gap [] = None
gap (b ∷ i) =
    if is_blank b then Some i else (if b == 45 && begins_with 45 i then line (behind i)
    else (if b == 47 && begins_with 42 i then block (behind i) else None))

unfoldable pub word : List ℕ → Option (Kind × List ℕ)
word i = if nat_le (length (front is_word_byte i)) 128 then Some (kind.Word (map to_ascii_uppercase (front is_word_byte i)), past is_word_byte i) else None

unfoldable pub number : List ℕ → Option (Kind × List ℕ)
number i =
    if begins is_word_byte (past is_digit i) then None
    else (if nat_lt (digits_value 10 (front is_digit i)) (10 ^ 18) then Some (kind.Number (pos (digits_value 10 (front is_digit i))), past is_digit i) else None)

-- 1 to 128 bytes of UTF-8
abbrev pub is_name : List ℕ → Bool
is_name name = nat_le 1 (length name) && (nat_le (length name) 128 && is_utf8 name)

-- behind the first `"`
unfoldable pub quoted : List ℕ → Option (Kind × List ℕ)
quoted i =
    if begins_with 34 (past is_quotable i) then (if is_name (front is_quotable i) then Some (kind.Quoted (front is_quotable i), behind (past is_quotable i)) else None)
    else None

-- the flag says that the byte before was a quote, which closes unless another follows it
unfoldable pub quoting : Bool → List ℕ → List ℕ → Option (List ℕ × List ℕ)
quoting false found [] = None
quoting true found [] = Some (found, [])
quoting false found (b ∷ i) = if b == 39 then quoting true found i else quoting false (found ++ b ∷ []) i
quoting true found (b ∷ i) = if b == 39 then quoting false (found ++ 39 ∷ []) i else Some (found, b ∷ i)

abbrev pub text_before : List ℕ → List ℕ → Option (Kind × List ℕ)
text_before text i = if is_utf8 text then Some (kind.Text text, i) else None

abbrev pub text_of : Option (List ℕ × List ℕ) → Option (Kind × List ℕ)
text_of None = None
text_of (Some x) = text_before x.0 x.1

-- behind the first quote
unfoldable pub literal : List ℕ → Option (Kind × List ℕ)
literal i = text_of (quoting false [] i)

-- the mark that two bytes are
unfoldable pub double_mark : ℕ → ℕ → Option Mark
double_mark a b =
    if a == 60 && b == 62 then Some mark.LessGreater else (if a == 33 && b == 61 then Some mark.NotEqual else (if a == 60 && b == 61 then Some mark.LessEqual
    else (if a == 62 && b == 61 then Some mark.GreaterEqual else (if a == 61 && b == 62 then Some mark.Arrow else None))))

-- the mark that one byte is
unfoldable pub single_mark : ℕ → Option Mark
single_mark b =
    if b == 40 then Some mark.OpenParenthesis else (if b == 41 then Some mark.CloseParenthesis else (if b == 44 then Some mark.Comma
    else (if b == 46 then Some mark.Period else (if b == 59 then Some mark.Semicolon else (if b == 42 then Some mark.Asterisk
    else (if b == 43 then Some mark.Plus else (if b == 45 then Some mark.Minus else (if b == 61 then Some mark.Equal
    else (if b == 60 then Some mark.Less else (if b == 62 then Some mark.Greater else None))))))))))

abbrev pub with_rest : List ℕ → Option Mark → Option (Kind × List ℕ)
with_rest i None = None
with_rest i (Some m) = Some (kind.Mark m, i)

abbrev pub first_mark : List ℕ → Option Mark → Option Mark → Option (Kind × List ℕ)
first_mark i (Some m) other = Some (kind.Mark m, behind i)
first_mark i None other = with_rest i other

abbrev pub double_at : ℕ → List ℕ → Option Mark
double_at b [] = None
double_at b (c ∷ i) = double_mark b c

-- the longest mark of a byte and those behind it
unfoldable pub mark_at : ℕ → List ℕ → Option (Kind × List ℕ)
mark_at b i = if b == 45 && begins_with 45 i then None else first_mark i (double_at b i) (single_mark b)

unfoldable pub lexeme : List ℕ → Option (Kind × List ℕ)
lexeme [] = None
lexeme (b ∷ i) =
    if is_letter b then word (b ∷ i) else (if is_digit b then number (b ∷ i) else (if b == 34 then quoted i
    else (if b == 39 then literal i else mark_at b i)))
