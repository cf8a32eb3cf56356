-- The options of a command, as `clap` is asked for them.
use Rattle.std.specs.Prelude.{◌≡◌, ◌≢◌, ◌⊎◌, ℕ, Bool, true, false, List, [], ◌∷◌, Option, Some, None, IsSomeAnd, map}
use Rattle.std.specs.List.{All}
use Rattle.clap.specs.Simple.{new_shape}
use Rattle.clap.specs.Words.{App, Rule, Text, fault_of, first_value, found_of, matches_of, new_rule, rows_of}
use Rattle.clap.specs.declared.parser.matches.ArgMatches.{ArgMatches}
use Rattle.au_base.specs.Limits.{SAMPLE_ROWS, WORKERS}
use Rattle.au_words.specs.Words.{IsConnectionsOf, IsLimitOf, IsNumber, IsNumberWithin, IsOwnWord, IsPassword, connections_name, limit_name, password_name, port_name, rows_name, seed_name, workers_name}

-- ---- words

-- the word begins with `--` and goes on
abbrev pub IsLong : List ℕ → Type 0
IsLong word = (name : List ℕ) × (word ≡ 45 ∷ 45 ∷ name) × (name ≢ [])

-- the word may be an option, or an option's value in a word of its own
abbrev pub IsFormed : List ℕ → Type 0
IsFormed word = IsLong word ⊎ IsOwnWord word

-- ---- commands

-- an option of one value
abbrev pub option_of : Text → Bool → Rule
option_of name required = record (new_rule name) { long = Some name; required = required }

-- a command without `--help`, whose own name is none of its words, and which has these options: each
-- by its name, and whether it has to be given
abbrev pub options_app : Text → List (Text × Bool) → App
options_app name asked = record {
  top = record (new_shape name) {
    rules = map (λ o. option_of o.0 o.1) asked;
    no_binary_name = true;
    disable_help_flag = true;
  };
  subs = [];
}

-- the options of `init`
abbrev pub init_options : List (Text × Bool)
init_options = (password_name, true) ∷ (limit_name, false) ∷ []

-- the options of `sample`
abbrev pub sample_options : List (Text × Bool)
sample_options = (seed_name, true) ∷ (rows_name, true) ∷ []

-- the options of `serve`
abbrev pub serve_options : List (Text × Bool)
serve_options = (port_name, true) ∷ (workers_name, true) ∷ (connections_name, false) ∷ []

-- what the command finds among the words: nothing, unless each is formed as an option or a value
-- and the command takes them
abbrev pub Finds : App → List Text → Option ArgMatches → Type 0
Finds app words None = All IsFormed words → fault_of app words ≡ [] → ⊥
Finds app words (Some found) =
    All IsFormed words × (fault_of app words ≡ []) × (rows_of (found_of found) ≡ matches_of app words)

-- ---- values

-- what was found for `init` is this password and this limit
abbrev pub FindsInit : ArgMatches → Text → ℕ → Type 0
FindsInit found password limit =
    (first_value (found_of found) password_name ≡ Some password) × IsPassword password
    × IsLimitOf (first_value (found_of found) limit_name) limit

-- what was found for `sample` is this seed and this number of rows
abbrev pub FindsSample : ArgMatches → ℕ → ℕ → Type 0
FindsSample found seed rows =
    IsSomeAnd (first_value (found_of found) seed_name) (λ text. IsNumber text seed)
    × IsSomeAnd (first_value (found_of found) rows_name) (λ text. IsNumberWithin 1 SAMPLE_ROWS text rows)

-- what was found for `serve` is this port, this number of workers and this one of connections
abbrev pub FindsServe : ArgMatches → ℕ → ℕ → ℕ → Type 0
FindsServe found port workers connections =
    IsSomeAnd (first_value (found_of found) port_name) (λ text. IsNumberWithin 1 65_535 text port)
    × IsSomeAnd (first_value (found_of found) workers_name) (λ text. IsNumberWithin 1 WORKERS text workers)
    × IsConnectionsOf (first_value (found_of found) connections_name) connections
