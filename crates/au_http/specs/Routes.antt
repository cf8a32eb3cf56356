-- What is served (RFC 9112, section 3.2; the three targets are this project's profile).
use Rattle.std.specs.Prelude.{◌≡◌, ℕ, List, [], ◌∷◌, codes, Option, option_map}
use Rattle.std.specs.List.{find}
use Rattle.std.specs.Str.{bytes_eq}
use Rattle.matchit.specs.Rows.{RowsOf}
use Rattle.matchit.specs.Router.{RouteOf}
use Rattle.au_http.specs.declared.routes.Route.{Route}
use Rattle.au_http.specs.declared.routes.Route.TheVariants.{Logoff, Logon, Sql}

-- the targets, and what each is for
abbrev pub targets : List (List ℕ × Route)
targets = (codes "/logoff", Logoff) ∷ (codes "/logon", Logon) ∷ (codes "/sql", Sql) ∷ []

-- what a target is for: it is compared whole
unfoldable pub route_of : List ℕ → Option Route
route_of target = option_map (λ t. t.1) (find (λ t. bytes_eq t.0 target) targets)

-- ---- for private clauses: the rows of the router of the crate `matchit`

-- a route without parameters
abbrev pub plain : List ℕ → Route → List ℕ × RouteOf Route
plain text value = (text, record { pattern = text; text = text; names = []; value = value })

-- the routes, in the order of their patterns
abbrev pub table : RowsOf (RouteOf Route)
table = plain (codes "/logoff") Logoff ∷ plain (codes "/logon") Logon ∷ plain (codes "/sql") Sql ∷ []

abbrev pub IsTable : RowsOf (RouteOf Route) → Type 0
IsTable rows = rows ≡ table
