-- The sessions of a state: all are lawful after a step where they were before.
use Rattle.std.proofs.Common.{◌≡◌, ◌≢◌, ℕ, Bool, true, false, not, ◌==◌, cond, List, [], ◌∷◌, ◌++◌, map, refl, sym, subst}
use Rattle.std.specs.Prelude.{IsTrue, Option, Some, None, if◌then◌else◌}
use Rattle.std.specs.List.{AllByRecursion, list_any}
use Rattle.std.specs.Str.{bytes_eq}
use Rattle.std.proofs.lemmas.Bool.{or_left, or_right}
use Rattle.std.proofs.lemmas.List.Elements.{All-filter, All-from_recursion, recursion_from_All}
use Rattle.std.proofs.lemmas.Slice.Eq.{bytes_eq-Decides}
use Rattle.au_audit.specs.Conditions.{Result, forgetting, result_before}
use Rattle.au_base.specs.Order.{is_in_order}
use Rattle.au_base.specs.declared.numbers.ClientNo.{ClientNo}
use Rattle.au_entries.specs.declared.kept.Kept.{Kept}
use Rattle.au_entries.specs.Replaying.{has_user}
use Rattle.au_recording.specs.declared.left.Left.{Left}
use Rattle.au_ruling.specs.declared.ruling.Ruling.{Ruling}
use Rattle.au_txn.specs.declared.change.RowChange.{RowChange}
use Rattle.au_step.specs.declared.session.Session.{Session}
use Rattle.au_step.specs.Abandoning.{sessions_without}
use Rattle.au_step.specs.Lawful.{IsLawfulSession}
use Rattle.au_step.specs.State.{OpenSession}
use Rattle.au_step.specs.Step.{counting, session_after, session_of, settled}
use Rattle.au_step.proofs.Clients.{StaysOf, is_of}

-- the session is lawful
abbrev pub IsLawfulSeat : Kept → OpenSession → Type 0
IsLawfulSeat kept seat = IsLawfulSession kept seat.session

-- the session isn't the client's by whom frames are replayed
abbrev pub IsOther : OpenSession → Type 0
IsOther seat = seat.session.client.0 ≢ 0

-- the users of the sessions
abbrev pub users_of : List OpenSession → List (List ℕ)
users_of sessions = map (λ seat. seat.session.user) sessions

-- the name is among these
abbrev pub is_among : List (List ℕ) → List ℕ → Bool
is_among names name = list_any (λ other. bytes_eq other name) names

same : (name : List ℕ) → bytes_eq name name ≡ true
same name = (bytes_eq-Decides name name).1 refl

among_more : (user : List ℕ) (names : List (List ℕ)) (sessions : List OpenSession) → AllByRecursion (λ (s : OpenSession). IsTrue (is_among names s.session.user)) sessions
    → AllByRecursion (λ (s : OpenSession). IsTrue (is_among (user ∷ names) s.session.user)) sessions
among_more user names [] all = tt
among_more user names (s ∷ sessions) all = (or_right (bytes_eq user s.session.user) (is_among names s.session.user) all.0, among_more user names sessions all.1)

-- the user of each session is among the users of the sessions
pub all_among : (sessions : List OpenSession) → AllByRecursion (λ (s : OpenSession). IsTrue (is_among (users_of sessions) s.session.user)) sessions
all_among [] = tt
all_among (s ∷ sessions) =
    (or_left (bytes_eq s.session.user s.session.user) (is_among (users_of sessions) s.session.user) (same s.session.user), among_more s.session.user (users_of sessions) sessions (all_among sessions))

-- a session of a user who stays one stays lawful
stays : (kept next : Kept) (session : Session) → (IsTrue (has_user kept session.user) → IsTrue (has_user next session.user)) → IsLawfulSession kept session → IsLawfulSession next session
stays kept next session stay lawful =
    record { user = lawful.user; there = stay lawful.there; some = lawful.some; number = lawful.number; results = lawful.results }

-- each user of a session stays a user where those who are among these do
pub all_stay : (kept next : Kept) (names : List (List ℕ)) (sessions : List OpenSession)
    → ((who : List ℕ) → IsTrue (has_user kept who) → IsTrue (is_among names who) → IsTrue (has_user next who))
    → AllByRecursion (IsLawfulSeat kept) sessions → AllByRecursion (λ (s : OpenSession). IsTrue (is_among names s.session.user)) sessions
    → AllByRecursion (IsLawfulSeat next) sessions
all_stay kept next names [] stay lawful among = tt
all_stay kept next names (s ∷ sessions) stay lawful among =
    (stays kept next s.session (λ there. stay s.session.user there among.0) lawful.0, all_stay kept next names sessions stay lawful.1 among.1)

-- all stay lawful where each user stays one
pub seats_stay : (kept next : Kept) (sessions : List OpenSession) → ((who : List ℕ) → IsTrue (has_user kept who) → IsTrue (has_user next who)) → AllByRecursion (IsLawfulSeat kept) sessions
    → AllByRecursion (IsLawfulSeat next) sessions
seats_stay kept next [] stay all = tt
seats_stay kept next (s ∷ sessions) stay all = (stays kept next s.session (stay s.session.user) all.0, seats_stay kept next sessions stay all.1)

-- a session that changes stays lawful, and that of its client
all_mapped : (P : OpenSession → Type 0) (f : OpenSession → OpenSession) (sessions : List OpenSession) → ((s : OpenSession) → P s → P (f s)) → AllByRecursion P sessions → AllByRecursion P (map f sessions)
all_mapped P f [] keeps all = tt
all_mapped P f (s ∷ sessions) keeps all = (keeps s all.0, all_mapped P f sessions keeps all.1)

pub clients_stay : (f : OpenSession → OpenSession) (sessions : List OpenSession) → StaysOf f → AllByRecursion IsOther sessions → AllByRecursion IsOther (map f sessions)
clients_stay f sessions stays all = all_mapped IsOther f sessions (λ s other. subst (λ (c : ClientNo). c.0 ≢ 0) (sym (stays s)) other) all

-- the sessions after a statement of the client
after_at : (kept : Kept) (own : Bool) (statements entries : ℕ) (results : List Result) (forgets : List (List ℕ)) (transaction : List RowChange) (s : OpenSession)
    → ((rs : List Result) → IsTrue (is_in_order result_before rs) → IsTrue (is_in_order result_before (forgetting forgets rs)))
    → IsTrue (is_in_order result_before results) → IsLawfulSeat kept s
    → IsLawfulSeat kept (if own then record { session = counting statements entries results s.session; transaction = transaction }
    else record s { session = record s.session { results = forgetting forgets s.session.results } })
after_at kept true statements entries results forgets transaction s forgotten ordered lawful =
    record { user = lawful.user; there = lawful.there; some = lawful.some; number = lawful.number; results = ordered }
after_at kept false statements entries results forgets transaction s forgotten ordered lawful =
    record { user = lawful.user; there = lawful.there; some = lawful.some; number = lawful.number; results = forgotten s.session.results lawful.results }

pub after_lawful : (kept : Kept) (session : Session) (ruling : Ruling) (left : Left) (sessions : List OpenSession)
    → ((rs : List Result) → IsTrue (is_in_order result_before rs) → IsTrue (is_in_order result_before (forgetting ruling.forgets rs)))
    → IsTrue (is_in_order result_before left.results.session) → AllByRecursion (IsLawfulSeat kept) sessions
    → AllByRecursion (IsLawfulSeat kept) (map (session_after session ruling left) sessions)
after_lawful kept session ruling left sessions forgotten ordered all =
    all_mapped (IsLawfulSeat kept) (session_after session ruling left) sessions (λ s lawful. after_at kept (is_of session.client s) _ _ _ ruling.forgets _ s forgotten ordered lawful) all

-- those after a commit
settled_at : (kept : Kept) (own : Bool) (s : OpenSession) → IsLawfulSeat kept s → IsLawfulSeat kept (if own then record s { transaction = [] } else s)
settled_at kept true s lawful = lawful
settled_at kept false s lawful = lawful

pub settled_lawful : (kept : Kept) (client : ClientNo) (sessions : List OpenSession) → AllByRecursion (IsLawfulSeat kept) sessions → AllByRecursion (IsLawfulSeat kept) (map (settled client) sessions)
settled_lawful kept client sessions all = all_mapped (IsLawfulSeat kept) (settled client) sessions (λ s lawful. settled_at kept (is_of client s) s lawful) all

-- one session more at the end
pub joined_all : (P : OpenSession → Type 0) (s : OpenSession) (sessions : List OpenSession) → AllByRecursion P sessions → P s → AllByRecursion P (sessions ++ s ∷ [])
joined_all P s [] all holds = (holds, tt)
joined_all P s (t ∷ sessions) all holds = (all.0, joined_all P s sessions all.1 holds)

-- the sessions of the other clients
pub without_all : (P : OpenSession → Type 0) (client : ClientNo) (sessions : List OpenSession) → AllByRecursion P sessions → AllByRecursion P (sessions_without client sessions)
without_all P client sessions all =
    recursion_from_All P (sessions_without client sessions)
    (All-filter (λ seat. not (seat.session.client.0 == client.0)) P sessions (All-from_recursion P sessions all))

-- what is so of all sessions is so of a client's
found_at : (P : OpenSession → Type 0) (s found : OpenSession) (rest : Option OpenSession) (own : Bool) → P s → (rest ≡ Some found → P found) → cond own (Some s) rest ≡ Some found → P found
found_at P s found rest true holds more is = let here : s ≡ found = (let e : Some s ≡ Some found = is in cc) in subst P here holds
found_at P s found rest false holds more is = more is

pub found_holds : (P : OpenSession → Type 0) (client : ClientNo) (sessions : List OpenSession) → AllByRecursion P sessions → (found : OpenSession) → session_of sessions client ≡ Some found → P found
found_holds P client [] all found is = absurd (let e : None ≡ Some found = is in cc)
found_holds P client (s ∷ sessions) all found is = found_at P s found (session_of sessions client) (is_of client s) all.0 (found_holds P client sessions all.1 found) is
