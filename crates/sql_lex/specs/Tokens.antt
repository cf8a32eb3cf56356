-- The tokens of a text (SQL Language Reference, "Lexical Conventions", "Comments", "Literals" and "Database Object
-- Naming Rules"; the lengths, the marks and where UTF-8 is asked for are this project's profile).
use Rattle.std.specs.Prelude.{◌≡◌, ℕ, ◌+◌, ◌^◌, ◌<◌, ◌≤◌, Bool, true, false, not, ◌&&◌, ◌||◌, ◌==◌, if◌then◌else◌, List, [], ◌∷◌, ◌++◌, length, map, codes, pos, IsUtf8}
use Rattle.std.specs.List.{list_all}
use Rattle.std.specs.Char.{to_ascii_uppercase}
use Rattle.std.specs.Str.Parse.{digits_value}
use Rattle.au_base.specs.Naming.{IsName}
use Rattle.sql_lex.specs.declared.token.Kind.{Kind}
use Rattle.sql_lex.specs.declared.token.Kind.TheVariants as kind
use Rattle.sql_lex.specs.declared.token.Mark.{Mark}
use Rattle.sql_lex.specs.declared.token.Mark.TheVariants as mark
use Rattle.sql_lex.specs.declared.token.Token.{Token}
use Rattle.sql_lex.specs.Bytes.{is_blank, is_digit, is_letter, is_line_byte, is_quotable, is_word_byte, begins, begins_with}

-- bytes that pass the test, as many as stand there
pub record IsRun (p : ℕ → Bool) (text behind : List ℕ) : Type 0 where
  pub passes : list_all p text ≡ true
  pub stops : begins p behind ≡ false

-- no `*/` stands in the bytes
abbrev pub has_no_end : List ℕ → Bool
has_no_end [] = true
has_no_end (b ∷ text) = not (b == 42 && begins_with 47 text) && has_no_end text

-- These bytes, before those behind them, are a blank or a comment in UTF-8: from `--` up to the next LF or the end, or
-- from `/*` to the next `*/`.
pub data IsGap : List ℕ → List ℕ → Type 0 where
  blank : {b : ℕ} {behind : List ℕ} → is_blank b ≡ true → IsGap (b ∷ []) behind
  line_comment : {text behind : List ℕ} → IsRun is_line_byte text behind → IsUtf8 text → IsGap (codes "--" ++ text) behind
  block_comment : {text behind : List ℕ} → has_no_end text ≡ true → IsUtf8 text → IsGap (codes "/*" ++ (text ++ codes "*/")) behind

-- the text with each quote written twice
abbrev pub doubled : List ℕ → List ℕ
doubled [] = []
doubled (b ∷ text) = if b == 39 then 39 ∷ 39 ∷ doubled text else b ∷ doubled text

-- how a mark is written
abbrev pub spelling : Mark → List ℕ
spelling mark.OpenParenthesis = codes "("
spelling mark.CloseParenthesis = codes ")"
spelling mark.Comma = codes ","
spelling mark.Period = codes "."
spelling mark.Semicolon = codes ";"
spelling mark.Asterisk = codes "*"
spelling mark.Plus = codes "+"
spelling mark.Minus = codes "-"
spelling mark.Equal = codes "="
spelling mark.Less = codes "<"
spelling mark.Greater = codes ">"
spelling mark.LessGreater = codes "<>"
spelling mark.NotEqual = codes "!="
spelling mark.LessEqual = codes "<="
spelling mark.GreaterEqual = codes ">="
spelling mark.Arrow = codes "=>"

-- the byte makes a longer mark of this one, `=>`, `<>`, `<=` or `>=`, or the comment `--`
abbrev pub lengthens : Mark → ℕ → Bool
lengthens mark.Minus b = b == 45
lengthens mark.Equal b = b == 62
lengthens mark.Less b = b == 62 || b == 61
lengthens mark.Greater b = b == 61
lengthens _ b = false

-- These bytes, before those behind them, are a token of this kind: a word of at most 128 bytes, which is taken in upper
-- case; a name between two `"`, which is taken as written; a number below 10^18, which no letter, `_`, `$` or `#`
-- follows; a text between two quotes, each quote in it written twice; or the longest mark that stands there, where `--` is none. Words and
-- numbers are as long as they can be, and a text is closed by the first quote that no other follows.
pub data Spells : List ℕ → List ℕ → Kind → Type 0 where
  word : {text behind : List ℕ} → begins is_letter text ≡ true → IsRun is_word_byte text behind → length text ≤ 128
      → Spells text behind (kind.Word (map to_ascii_uppercase text))
  quoted_name : {name behind : List ℕ} → list_all is_quotable name ≡ true → IsName name
      → Spells (codes "\"" ++ (name ++ codes "\"")) behind (kind.Quoted name)
  number : {text behind : List ℕ} → begins is_digit text ≡ true → IsRun is_digit text behind → begins is_word_byte behind ≡ false
      → digits_value 10 text < 10 ^ 18 → Spells text behind (kind.Number (pos (digits_value 10 text)))
  text_literal : {text behind : List ℕ} → begins_with 39 behind ≡ false → IsUtf8 text
      → Spells (codes "'" ++ (doubled text ++ codes "'")) behind (kind.Text text)
  longest_mark : {m : Mark} {behind : List ℕ} → begins (lengthens m) behind ≡ false → Spells (spelling m) behind (kind.Mark m)

-- a blank or a comment stands at the front, and then these bytes
abbrev pub StartsGap : List ℕ → List ℕ → Type 0
StartsGap bytes behind = (text : List ℕ) × (bytes ≡ text ++ behind) × IsGap text behind

-- no blank and no comment stands at the front
abbrev pub StartsNoGap : List ℕ → Type 0
StartsNoGap bytes = (behind : List ℕ) → ¬ (StartsGap bytes behind)

-- a token of this kind stands at the front, and then these bytes
abbrev pub StartsToken : List ℕ → Kind → List ℕ → Type 0
StartsToken bytes k behind = (text : List ℕ) × (bytes ≡ text ++ behind) × Spells text behind k

-- no token stands at the front
abbrev pub StartsNoToken : List ℕ → Type 0
StartsNoToken bytes = (k : Kind) (behind : List ℕ) → ¬ (StartsToken bytes k behind)

-- The bytes from this place on are these tokens, with blanks and comments before them, up to a place and the bytes from
-- there on. A token stands only where no blank or comment does.
pub data LeadsTo : ℕ → List ℕ → List Token → ℕ → List ℕ → Type 0 where
  here : {at : ℕ} {bytes : List ℕ} → LeadsTo at bytes [] at bytes
  past_gap : {at place : ℕ} {text behind rest : List ℕ} {tokens : List Token}
      → IsGap text behind → LeadsTo (at + length text) behind tokens place rest → LeadsTo at (text ++ behind) tokens place rest
  past_token : {at place : ℕ} {text behind rest : List ℕ} {token : Token} {tokens : List Token}
      → StartsNoGap (text ++ behind) → Spells text behind token.kind → token.from ≡ at → token.to ≡ at + length text
      → LeadsTo token.to behind tokens place rest → LeadsTo at (text ++ behind) (token ∷ tokens) place rest

-- the text is these tokens, with blanks and comments between them
abbrev pub AreTokens : List ℕ → List Token → Type 0
AreTokens text tokens = LeadsTo 0 text tokens (length text) []

-- tokens lead to this place, where something stands that is no blank, no comment and no token
pub record IsStuckAt (text : List ℕ) (place : ℕ) : Type 0 where
  pub tokens : List Token
  pub first : ℕ
  pub rest : List ℕ
  pub leads : LeadsTo 0 text tokens place (first ∷ rest)
  pub no_gap : StartsNoGap (first ∷ rest)
  pub no_token : StartsNoToken (first ∷ rest)

-- the tokens stand in order within these places, each over a byte at least
abbrev pub StandInOrder : ℕ → List Token → ℕ → Type 0
StandInOrder start [] end = start ≤ end
StandInOrder start (token ∷ tokens) end = (start ≤ token.from) × (token.from < token.to) × StandInOrder token.to tokens end
