-- Sessions with their transactions, by each client's changes.
use Rattle.std.proofs.Common.{◌≡◌, ◌≢◌, ◌∙◌, ◌==◌, ℕ, Bool, true, false, cond, not, List, [], ◌∷◌, ◌++◌, map, refl, sym, ap, ap₂, subst}
use Rattle.std.specs.Prelude.{⊤, Option, Some, None, find, filter, option_map, if◌then◌else◌}
use Rattle.std.proofs.lemmas.List.{map-append}
use Rattle.au_base.specs.declared.numbers.ClientNo.{ClientNo}
use Rattle.au_kept.specs.Keeping.{Contents, desk_of}
use Rattle.au_step.specs.declared.session.Session.{Session}
use Rattle.au_step.specs.Sessions.{HaveOneEach}
use Rattle.au_entries.specs.declared.kept.Kept.{Kept}
use Rattle.au_step.specs.State.{OpenSession, State}
use Rattle.au_step.specs.Step.{opened, session_of, transaction_in, transaction_of}
use Rattle.au_txn.specs.declared.change.RowChange.{RowChange}
use Rattle.au_txn.specs.Desks.{open_of}
use Rattle.au_txn.specs.Logs.{Changes, changes_of}
use Rattle.au_engine.specs.Reserved.{with_changes}
use Rattle.au_engine.specs.Sessions.{AreApart, found_in}
use Rattle.au_engine.proofs.Own.{found_meets, same_client}

-- ---- sessions that are found

mapped_at : {X Y : Type 0} (f : X → Y) (b : Bool) (x : X) (o : Option Y) (p : Option X) → o ≡ option_map f p → cond b (Some (f x)) o ≡ option_map f (cond b (Some x) p)
mapped_at f true x o p is = refl
mapped_at f false x o p is = is

-- the client's session with its changes is the one with these
pub found_with : (logs : List Changes) (sessions : List Session) (client : ClientNo) → session_of (map (with_changes logs) sessions) client ≡ option_map (with_changes logs) (found_in sessions client)
found_with logs [] client = refl
found_with logs (s ∷ sessions) client =
    mapped_at (with_changes logs) (s.client.0 == client.0) s (session_of (map (with_changes logs) sessions) client) (found_in sessions client) (found_with logs sessions client)

back : (logs : List Changes) (found : Option Session) → found ≡ option_map (λ (s : OpenSession). s.session) (option_map (with_changes logs) found)
back logs None = refl
back logs (Some s) = refl

-- and the same session without them
pub found_alone : (logs : List Changes) (sessions : List Session) (client : ClientNo) → found_in sessions client ≡ option_map (λ (s : OpenSession). s.session) (session_of (map (with_changes logs) sessions) client)
found_alone logs sessions client = back logs (found_in sessions client) ∙ ap (λ (o : Option OpenSession). option_map (λ (s : OpenSession). s.session) o) (sym (found_with logs sessions client))

absent : (logs : List Changes) (found : Option Session) → option_map (with_changes logs) found ≡ None → found ≡ None
absent logs None is = refl
absent logs (Some s) is = absurd (let e : Some (with_changes logs s) ≡ None = is in cc)

-- no client has two of the sessions, where none has two of those with changes
pub apart_alone : (logs : List Changes) (sessions : List Session) → HaveOneEach (map (with_changes logs) sessions) → AreApart sessions
apart_alone logs [] apart = tt
apart_alone logs (s ∷ sessions) apart = (absent logs (found_in sessions s.client) (sym (found_with logs sessions s.client) ∙ apart.0), apart_alone logs sessions apart.1)

-- ---- transactions

told_by : (logs : List Changes) (sessions : List Session) (client : ClientNo) (found : Option Session) → found_in sessions client ≡ found → (session_of (map (with_changes logs) sessions) client ≡ None → changes_of client logs ≡ [])
    → changes_of client logs ≡ transaction_in (option_map (with_changes logs) found)
told_by logs sessions client None is quiet = quiet (found_with logs sessions client ∙ ap (λ (o : Option Session). option_map (with_changes logs) o) is)
told_by logs sessions client (Some s) is quiet = ap (λ (c : ClientNo). changes_of c logs) (sym (same_client s.client client (found_meets (λ (x : Session). x.client.0 == client.0) sessions s is)))

-- a client's changes are its transaction, where one without a session has none
pub told : (logs : List Changes) (sessions : List Session) (client : ClientNo) → (session_of (map (with_changes logs) sessions) client ≡ None → changes_of client logs ≡ [])
    → changes_of client logs ≡ transaction_of (map (with_changes logs) sessions) client
told logs sessions client quiet = told_by logs sessions client (found_in sessions client) refl quiet ∙ ap transaction_in (sym (found_with logs sessions client))

abbrev none : List RowChange
none = []

pub nothing_laid : (b : Bool) → (if b then none else none) ≡ none
nothing_laid true = refl
nothing_laid false = refl

-- the desk has each client's list of changes
pub open_is : (contents : Contents) (client : ClientNo) → open_of (desk_of contents) client ≡ changes_of client contents.logs
open_is contents client = ap (λ (l : List RowChange). l ++ changes_of client contents.logs) (nothing_laid (client.0 == 0))

-- and so each client's transaction
pub desk_tells : (contents : Contents) (sessions : List Session) (client : ClientNo) → (session_of (map (with_changes contents.logs) sessions) client ≡ None → changes_of client contents.logs ≡ [])
    → open_of (desk_of contents) client ≡ transaction_of (map (with_changes contents.logs) sessions) client
desk_tells contents sessions client quiet = open_is contents client ∙ told contents.logs sessions client quiet

-- a session with this transaction
abbrev pub seat_of : Session → List RowChange → OpenSession
seat_of session transaction = record { session = session; transaction = transaction }

-- lists that answer each client the same show the same sessions
pub same_views : (old new : List Changes) (sessions : List Session) → ((q : ClientNo) → changes_of q new ≡ changes_of q old) → map (with_changes new) sessions ≡ map (with_changes old) sessions
same_views old new [] same = refl
same_views old new (s ∷ sessions) same =
    ap₂ (λ (x : OpenSession) (xs : List OpenSession). x ∷ xs) (ap (seat_of s) (same s.client)) (same_views old new sessions same)

-- a state by what is kept, each client's changes and the sessions
abbrev pub state_by : Kept → List Changes → List Session → ℕ → List (List ℕ × Bool) → State
state_by kept logs sessions drawn results = record { kept = kept; sessions = map (with_changes logs) sessions; drawn = drawn; results = results }

-- lists that answer each client the same make the same state
pub same_state : (a b : Kept) (old new : List Changes) (sessions : List Session) (drawn : ℕ) (results : List (List ℕ × Bool)) → b ≡ a → ((q : ClientNo) → changes_of q new ≡ changes_of q old)
    → state_by b new sessions drawn results ≡ state_by a old sessions drawn results
same_state a b old new sessions drawn results kept same =
    ap₂ (λ (k : Kept) (s : List OpenSession). let m : State = record { kept = k; sessions = s; drawn = drawn; results = results } in m) kept (same_views old new sessions same)
