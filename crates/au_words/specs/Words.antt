-- The words after the program's name.
use Rattle.std.specs.Prelude.{◌≡◌, ◌≢◌, ◌⊎◌, ◌<◌, ◌≤◌, ℕ, ◌^◌, List, [], ◌∷◌, ◌++◌, length, codes, Option, Some, None, IsPermutation}
use Rattle.std.specs.Str.Parse.{IsNumeral, digits_value, without_leading_plus}
use Rattle.au_base.specs.Limits.{JOURNAL_LIMIT_DEFAULT, JOURNAL_LIMIT_MAX, JOURNAL_LIMIT_MIN, PASSWORD_BYTES, SAMPLE_ROWS, WORKERS}
use Rattle.au_words.specs.declared.command.Command.{Command}
use Rattle.au_words.specs.declared.command.Command.TheVariants as command

-- the one word `run`
abbrev pub IsRun : List (List ℕ) → Type 0
IsRun words = words ≡ codes "run" ∷ []

-- the one word `trail`
abbrev pub IsTrail : List (List ℕ) → Type 0
IsTrail words = words ≡ codes "trail" ∷ []

-- the one word `check`
abbrev pub IsCheck : List (List ℕ) → Type 0
IsCheck words = words ≡ codes "check" ∷ []

-- ---- options

-- the value of an option that stands in a word of its own: it isn't empty and doesn't begin with `-`
abbrev pub IsOwnWord : List ℕ → Type 0
IsOwnWord [] = ⊥
IsOwnWord (b ∷ rest) = b ≢ 45

-- the word that names an option: `--` and the name
abbrev pub dashed : List ℕ → List ℕ
dashed name = 45 ∷ 45 ∷ name

-- the words are the option of this name with this value, as `--name value` or as `--name=value`
abbrev pub IsOption : List ℕ → List ℕ → List (List ℕ) → Type 0
IsOption name value words = ((words ≡ dashed name ∷ value ∷ []) × IsOwnWord value) ⊎ (words ≡ (dashed name ++ 61 ∷ value) ∷ [])

-- the words are the options of these names and values, one behind the other
abbrev pub AreInTurn : List (List ℕ × List ℕ) → List (List ℕ) → Type 0
AreInTurn [] words = words ≡ []
AreInTurn (given ∷ more) words = (option rest : List (List ℕ)) × (words ≡ option ++ rest) × IsOption given.0 given.1 option × AreInTurn more rest

-- the option of this name, where it has a value
abbrev pub perhaps : List ℕ → Option (List ℕ) → List (List ℕ × List ℕ)
perhaps name None = []
perhaps name (Some value) = (name, value) ∷ []

-- those of the options that have a value
abbrev pub given_of : List (List ℕ × Option (List ℕ)) → List (List ℕ × List ℕ)
given_of [] = []
given_of (named ∷ more) = perhaps named.0 named.1 ++ given_of more

-- the words are those of the options that have a value, each once, in any order
abbrev pub AreOptions : List (List ℕ × Option (List ℕ)) → List (List ℕ) → Type 0
AreOptions named words = (ordered : List (List ℕ × List ℕ)) × IsPermutation (given_of named) ordered × AreInTurn ordered words

-- the text is a number of at most 32 bits in decimal digits, before which a plus may stand
pub record IsNumber (text : List ℕ) (number : ℕ) : Type 0 where
  pub numeral : IsNumeral 10 (without_leading_plus text)
  pub value : number ≡ digits_value 10 (without_leading_plus text)
  pub fits : number < 2 ^ 32

-- the text is a number from `low` to `high`
abbrev pub IsNumberWithin : ℕ → ℕ → List ℕ → ℕ → Type 0
IsNumberWithin low high text number = IsNumber text number × (low ≤ number) × (number ≤ high)

-- ---- `init`

abbrev pub password_name : List ℕ
password_name = codes "sys-password"

abbrev pub limit_name : List ℕ
limit_name = codes "limit"

-- a password that may be set: 1 to 128 bytes
abbrev pub IsPassword : List ℕ → Type 0
IsPassword text = (1 ≤ length text) × (length text ≤ PASSWORD_BYTES)

-- the option's text is a limit that a journal area may have, or the option isn't given and the limit
-- is the default
abbrev pub IsLimitOf : Option (List ℕ) → ℕ → Type 0
IsLimitOf None limit = limit ≡ JOURNAL_LIMIT_DEFAULT
IsLimitOf (Some text) limit = IsNumberWithin JOURNAL_LIMIT_MIN JOURNAL_LIMIT_MAX text limit

-- the word `init`, and options that name a password and perhaps a limit
pub record IsInit (words : List (List ℕ)) (password : List ℕ) (limit : ℕ) : Type 0 where
  pub options : List (List ℕ)
  pub limit_text : Option (List ℕ)
  pub split : words ≡ codes "init" ∷ options
  pub reads : AreOptions ((password_name, Some password) ∷ (limit_name, limit_text) ∷ []) options
  pub may_be : IsPassword password
  pub limit_is : IsLimitOf limit_text limit

-- ---- `sample`

abbrev pub seed_name : List ℕ
seed_name = codes "seed"

abbrev pub rows_name : List ℕ
rows_name = codes "rows"

-- the word `sample`, and options that name a seed and a number of rows
pub record IsSample (words : List (List ℕ)) (seed rows : ℕ) : Type 0 where
  pub options : List (List ℕ)
  pub seed_text : List ℕ
  pub rows_text : List ℕ
  pub split : words ≡ codes "sample" ∷ options
  pub reads : AreOptions ((seed_name, Some seed_text) ∷ (rows_name, Some rows_text) ∷ []) options
  pub seed_is : IsNumber seed_text seed
  pub rows_is : IsNumberWithin 1 SAMPLE_ROWS rows_text rows

-- ---- `serve`

abbrev pub port_name : List ℕ
port_name = codes "port"

abbrev pub workers_name : List ℕ
workers_name = codes "workers"

abbrev pub connections_name : List ℕ
connections_name = codes "connections"

-- the option's text is a number of connections, or the option isn't given and the number is 0
abbrev pub IsConnectionsOf : Option (List ℕ) → ℕ → Type 0
IsConnectionsOf None connections = connections ≡ 0
IsConnectionsOf (Some text) connections = IsNumber text connections

-- the word `serve`, and options that name a port, a number of workers and perhaps one of connections
pub record IsServe (words : List (List ℕ)) (port workers connections : ℕ) : Type 0 where
  pub options : List (List ℕ)
  pub port_text : List ℕ
  pub workers_text : List ℕ
  pub connections_text : Option (List ℕ)
  pub split : words ≡ codes "serve" ∷ options
  pub reads : AreOptions ((port_name, Some port_text) ∷ (workers_name, Some workers_text) ∷ (connections_name, connections_text) ∷ []) options
  pub port_is : IsNumberWithin 1 65_535 port_text port
  pub workers_is : IsNumberWithin 1 WORKERS workers_text workers
  pub connections_is : IsConnectionsOf connections_text connections

-- ---- the command

-- the words are this command
abbrev pub IsCommand : List (List ℕ) → Command → Type 0
IsCommand words (command.Init password limit) = IsInit words password limit
IsCommand words command.Run = IsRun words
IsCommand words command.Trail = IsTrail words
IsCommand words command.Check = IsCheck words
IsCommand words (command.Sample seed rows) = IsSample words seed rows
IsCommand words (command.Serve port workers connections) = IsServe words port workers connections
