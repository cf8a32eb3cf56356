-- Requests that follow one another on a connection (RFC 9112, section 9.3.2).
use Rattle.std.specs.Prelude.{◌≡◌, ◌≢◌, ◌≤◌, ℕ, Bool, List, [], ◌∷◌, ◌++◌, length, take, drop}
use Rattle.au_base.specs.declared.ask.Ask.{Ask}
use Rattle.au_http.specs.declared.requests.Need.{Need}
use Rattle.au_http.specs.declared.requests.Need.TheVariants.{More, Got}
use Rattle.au_http.specs.Requests.{Needs}

-- bytes need one thing: it depends on them alone
abbrev pub HaveOneNeed : List ℕ → Type 0
HaveOneNeed bytes = (a b : Need) → Needs bytes a → Needs bytes b → a ≡ b

-- whatever bytes follow, what is decided stays
abbrev pub KeepNeed : List ℕ → Type 0
KeepNeed bytes = (more : List ℕ) (need : Need) → Needs bytes need → need ≢ More → Needs (bytes ++ more) need

-- a request lies in its first `used` bytes, and is the same whatever other bytes follow them
abbrev pub StandAlone : List ℕ → Type 0
StandAlone bytes =
    (used : ℕ) (asked : Ask) (close : Bool) → Needs bytes (Got used asked close)
    → (used ≤ length bytes) × ((other : List ℕ) → Needs (take used bytes ++ other) (Got used asked close))

-- a request, and whether the connection closes after its answer
abbrev pub Request : Type 0
Request = Ask × Bool

-- the bytes are these requests, one by one, and then the rest
abbrev pub AreRequests : List ℕ → List Request → List ℕ → Type 0
AreRequests bytes [] rest = bytes ≡ rest
AreRequests bytes (request ∷ more) rest =
    (used : ℕ) × Needs bytes (Got used request.0 request.1) × AreRequests (drop used bytes) more rest

-- requests that came stay the same requests, wherever the bytes were cut
abbrev pub KeepRequests : List ℕ → Type 0
KeepRequests bytes =
    (more : List ℕ) (requests : List Request) (rest : List ℕ) → AreRequests bytes requests rest
    → AreRequests (bytes ++ more) requests (rest ++ more)
