-- What a body asks for: a JSON object (RFC 8259), as the crate `serde_json` reads it, nested at most 127 deep;
-- of members with one name the last counts, and other members are ignored.
use Rattle.std.specs.Prelude.{ℕ, List, codes, if◌then◌else◌, Option, Some, None, option_map, option_and_then}
use Rattle.std.specs.Str.{is_utf8}
use Rattle.serde_json.specs.Data.{Data}
use Rattle.serde_json.specs.Find.{get, as_str}
use Rattle.serde_json.specs.Read.{read}
use Rattle.au_base.specs.declared.ask.Ask.{Ask}
use Rattle.au_base.specs.declared.ask.Ask.TheVariants as ask
use Rattle.au_http.specs.declared.routes.Route.{Route}
use Rattle.au_http.specs.declared.routes.Route.TheVariants.{Logoff, Logon, Sql}

-- the value that the body is
abbrev pub value_of : List ℕ → Option Data
value_of body = if is_utf8 body then read body else None

-- the string that an object has at a name
abbrev pub string_at : List ℕ → Data → Option (List ℕ)
string_at name value = option_and_then as_str (get name value)

-- a user and a password
abbrev pub logon_with : Option (List ℕ) → Option (List ℕ) → Option Ask
logon_with (Some user) (Some password) = Some (ask.Logon user password)
logon_with (Some user) None = None
logon_with None password = None

-- a logon has the strings `user` and `password`
abbrev pub logon_of : Data → Option Ask
logon_of value = logon_with (string_at (codes "user") value) (string_at (codes "password") value)

-- a statement is the string `sql`
abbrev pub sql_of : Data → Option Ask
sql_of value = option_map ask.Sql (string_at (codes "sql") value)

-- what a request to a route asks for by its body
abbrev pub ask_of : Route → List ℕ → Option Ask
ask_of Logoff body = Some ask.Logoff
ask_of Logon body = option_and_then logon_of (value_of body)
ask_of Sql body = option_and_then sql_of (value_of body)
