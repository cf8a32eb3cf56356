-- What settling makes of a session, piece by piece. No promise of the crate rests on these.
use Rattle.std.specs.Prelude.{◌≡◌, ⊤, ℕ, Bool, ◌==◌, not, if◌then◌else◌, List, [], ◌∷◌, ◌++◌, filter, find, map, Option, None}
use Rattle.au_audit.specs.Conditions.{forgetting}
use Rattle.au_base.specs.declared.numbers.ClientNo.{ClientNo}
use Rattle.au_step.specs.declared.session.Session.{Session}
use Rattle.au_step.specs.Step.{counting}
use Rattle.au_engine.specs.declared.outcome.SessionChange.{SessionChange}
use Rattle.au_engine.specs.declared.outcome.SessionChange.TheVariants.{Nothing, Begins, Counts, Ends}

-- the session is the client's
abbrev pub is_of : ClientNo → Session → Bool
is_of client session = session.client.0 == client.0

-- the first session that is the client's
abbrev pub found_in : List Session → ClientNo → Option Session
found_in sessions client = find (λ session. session.client.0 == client.0) sessions

-- no client has two of the sessions
abbrev pub AreApart : List Session → Type 0
AreApart [] = ⊤
AreApart (session ∷ sessions) = (found_in sessions session.client ≡ None) × AreApart sessions

-- the session without the results of these policies
abbrev pub forgotten : List (List ℕ) → Session → Session
forgotten forgets session = record session { results = forgetting forgets session.results }

-- the session, with these counts and results where it is the client's
abbrev pub with_counts : ClientNo → ℕ → ℕ → List (List ℕ × Bool) → Session → Session
with_counts client statements entries results session =
    if session.client.0 == client.0 then counting statements entries results session else session

-- the same where it is the client's; another one forgets these results
abbrev pub counted_by : ClientNo → ℕ → ℕ → List (List ℕ × Bool) → List (List ℕ) → Session → Session
counted_by client statements entries results forgets session =
    if session.client.0 == client.0 then counting statements entries results session else forgotten forgets session

-- what becomes of the sessions, whatever becomes of their transactions
abbrev pub settled_sessions : SessionChange → List Session → List Session
settled_sessions Nothing sessions = sessions
settled_sessions (Begins session) sessions = sessions ++ session ∷ []
settled_sessions (Counts client statements entries results forgets rows) sessions = map (counted_by client statements entries results forgets) sessions
settled_sessions (Ends client) sessions = filter (λ session. not (session.client.0 == client.0)) sessions
