-- What the lines of scripts say (this project's own format; UTF-8 is that of RFC 3629).
use Rattle.std.specs.Prelude.{◌≡◌, ◌≢◌, ◌⊎◌, ◌<◌, ◌≤◌, ℕ, Bool, false, ◌&&◌, ◌||◌, ◌==◌, nat_le, List, [], ◌∷◌, ◌++◌, length, slice_index, codes, EachIndex, IsTrue, IsUtf8}
use Rattle.std.specs.List.{list_all}
use Rattle.au_base.specs.declared.ask.Ask.{Ask}
use Rattle.au_base.specs.declared.ask.Ask.TheVariants as ask
use Rattle.au_script.specs.declared.lines.ScriptLine.{ScriptLine}
use Rattle.au_script.specs.declared.lines.ScriptLine.TheVariants as line

abbrev pub space : ℕ
space = 32

abbrev pub carriage_return : ℕ
carriage_return = 13

abbrev pub number_sign : ℕ
number_sign = 35

-- ---- the content of a line

-- the last byte, if there is one, is no CR
abbrev pub EndsInNoReturn : List ℕ → Type 0
EndsInNoReturn bytes = (front : List ℕ) → bytes ≢ front ++ carriage_return ∷ []

-- what stands before the CR that ends the bytes, or all of them where none ends them
abbrev pub IsContent : List ℕ → List ℕ → Type 0
IsContent bytes content = (bytes ≡ content ++ carriage_return ∷ []) ⊎ (EndsInNoReturn bytes × (content ≡ bytes))

-- the most bytes of a content
abbrev pub line_limit : ℕ
line_limit = 65_536

-- ---- lines that are skipped

-- it begins with #
abbrev pub is_comment : List ℕ → Bool
is_comment [] = false
is_comment (b ∷ rest) = b == number_sign

-- it has no bytes but spaces
abbrev pub is_blank : List ℕ → Bool
is_blank content = list_all (λ b. b == space) content

abbrev pub is_skipped : List ℕ → Bool
is_skipped content = is_comment content || is_blank content

-- ---- lines that ask

-- a to z
abbrev pub is_letter : ℕ → Bool
is_letter b = nat_le 97 b && nat_le b 122

-- 0 to 9
abbrev pub is_digit : ℕ → Bool
is_digit b = nat_le 48 b && nat_le b 57

abbrev pub is_label_byte : ℕ → Bool
is_label_byte b = is_letter b || is_digit b

-- at most 15 letters and digits
abbrev pub is_label_rest : List ℕ → Bool
is_label_rest bytes = nat_le (length bytes) 15 && list_all is_label_byte bytes

-- a letter, and then at most 15 letters and digits
abbrev pub is_label : List ℕ → Bool
is_label [] = false
is_label (first ∷ rest) = is_letter first && is_label_rest rest

-- no byte is a space
abbrev pub HasNoSpace : List ℕ → Type 0
HasNoSpace bytes = EachIndex bytes (λ k. slice_index bytes k ≢ space)

-- the most bytes of a password
abbrev pub password_limit : ℕ
password_limit = 128

-- a user without a space, a space, and all that follows as the password
pub record NamesUser (bytes user password : List ℕ) : Type 0 where
  pub bytes_are : bytes ≡ user ++ space ∷ password
  pub user_given : 0 < length user
  pub user_whole : HasNoSpace user
  pub password_given : 0 < length password
  pub password_fits : length password ≤ password_limit

-- the bytes behind a label and its space ask for this
abbrev pub SpellsAsk : List ℕ → Ask → Type 0
SpellsAsk bytes ask.Local = bytes ≡ codes "local"
SpellsAsk bytes (ask.Logon user password) = (rest : List ℕ) × (bytes ≡ codes "logon " ++ rest) × NamesUser rest user password
SpellsAsk bytes (ask.Sql text) = (bytes ≡ codes "sql " ++ text) × (0 < length text)
SpellsAsk bytes ask.Logoff = bytes ≡ codes "logoff"

-- the bytes ask for nothing
abbrev pub SpellsNoAsk : List ℕ → Type 0
SpellsNoAsk bytes = (a : Ask) → ¬ (SpellsAsk bytes a)

-- UTF-8: a label, a space, and what the client with this label asks for
pub record Asks (content label : List ℕ) (a : Ask) : Type 0 where
  pub text : IsUtf8 content
  pub asked : List ℕ
  pub content_is : content ≡ label ++ space ∷ asked
  pub labelled : IsTrue (is_label label)
  pub spelled : SpellsAsk asked a

-- ---- what a line says

abbrev pub ContentSays : List ℕ → ScriptLine → Type 0
ContentSays content line.Skip = IsTrue (is_skipped content)
ContentSays content (line.Ask label a) = Asks content label a

-- a line, given without its LF, says this
pub record Says (bytes : List ℕ) (said : ScriptLine) : Type 0 where
  pub content : List ℕ
  pub content_is : IsContent bytes content
  pub fits : length content ≤ line_limit
  pub means : ContentSays content said

-- it is no script line
abbrev pub SaysNothing : List ℕ → Type 0
SaysNothing bytes = (said : ScriptLine) → ¬ (Says bytes said)

-- it says one thing at most
abbrev pub SaysOneThing : List ℕ → Type 0
SaysOneThing bytes = (a b : ScriptLine) → Says bytes a → Says bytes b → a ≡ b

-- ---- for private clauses

-- the front stands before the first space of the bytes, and this behind it
pub record IsSplit (bytes front behind : List ℕ) : Type 0 where
  pub bytes_are : bytes ≡ front ++ space ∷ behind
  pub whole : HasNoSpace front

-- the content asks for nothing
abbrev pub AsksNothing : List ℕ → Type 0
AsksNothing content = (label : List ℕ) (a : Ask) → ¬ (Asks content label a)

-- the content asks for this
abbrev pub AsksLine : List ℕ → ScriptLine → Type 0
AsksLine content line.Skip = ⊥
AsksLine content (line.Ask label a) = Asks content label a

-- an ask of the client with this label for what the bytes spell
abbrev pub IsAskLine : List ℕ → List ℕ → ScriptLine → Type 0
IsAskLine label asked line.Skip = ⊥
IsAskLine label asked (line.Ask l a) = (l ≡ label) × SpellsAsk asked a

-- the bytes name no user
abbrev pub NamesNoUser : List ℕ → Type 0
NamesNoUser bytes = (user password : List ℕ) → ¬ (NamesUser bytes user password)

-- a logon as the user that the bytes name
abbrev pub LogsOn : List ℕ → Ask → Type 0
LogsOn bytes (ask.Logon user password) = NamesUser bytes user password
LogsOn bytes ask.Local = ⊥
LogsOn bytes (ask.Sql text) = ⊥
LogsOn bytes ask.Logoff = ⊥
