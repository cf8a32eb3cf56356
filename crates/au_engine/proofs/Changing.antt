-- What a step makes of the sessions and of each client's changes.
use Rattle.std.proofs.Common.{◌≡◌, ◌≢◌, ◌∙◌, ◌==◌, ℕ, Bool, true, false, cond, not, List, [], ◌∷◌, ◌++◌, map, refl, sym, ap, ap₂, subst, arith}
use Rattle.std.specs.Prelude.{⊤, Option, Some, None, find, filter, is_some, IsTrue, if◌then◌else◌}
use Rattle.std.proofs.lemmas.Bool.Decides.{nat_tests}
use Rattle.std.proofs.lemmas.List.{map-append}
use Rattle.au_base.specs.declared.numbers.ClientNo.{ClientNo}
use Rattle.au_step.specs.declared.session.Session.{Session}
use Rattle.au_step.specs.Sessions.{HaveOneEach}
use Rattle.au_step.specs.State.{OpenSession}
use Rattle.au_step.specs.Step.{counting, opened, session_of}
use Rattle.au_txn.specs.declared.change.RowChange.{RowChange}
use Rattle.au_txn.specs.Logs.{Changes, changes_of}
use Rattle.au_engine.specs.declared.outcome.RowsChange.{RowsChange}
use Rattle.au_engine.specs.declared.outcome.RowsChange.TheVariants as rows
use Rattle.au_engine.specs.declared.outcome.SessionChange.{SessionChange}
use Rattle.au_engine.specs.declared.outcome.SessionChange.TheVariants.{Nothing, Begins, Counts, Ends}
use Rattle.au_engine.specs.Inside.{changes_left}
use Rattle.au_engine.specs.Prepared.{session_left, sessions_after, transaction_left}
use Rattle.au_engine.specs.Reserved.{with_changes}
use Rattle.au_engine.specs.Sessions.{counted_by, forgotten, settled_sessions}
use Rattle.au_engine.proofs.Own.{same_client}
use Rattle.au_engine.proofs.Views.{same_views, seat_of}

-- ---- what is seen of the sessions

-- a session that begins has no changes yet
abbrev pub BeginsQuiet : SessionChange → List Changes → Type 0
BeginsQuiet (Begins session) logs = changes_of session.client logs ≡ []
BeginsQuiet _ logs = ⊤

begun : (session : Session) (old new : List Changes) (sessions : List Session) → ((q : ClientNo) → changes_of q new ≡ changes_of q old) → changes_of session.client old ≡ []
    → map (with_changes new) (sessions ++ session ∷ []) ≡ map (with_changes old) sessions ++ opened session ∷ []
begun session old new sessions same quiet =
    map-append (with_changes new) sessions (session ∷ [])
    ∙ ap₂ (λ (xs : List OpenSession) (x : OpenSession). xs ++ x ∷ []) (same_views old new sessions same) (ap (seat_of session) (same session.client ∙ quiet))

counted_at : (statements entries : ℕ) (results : List (List ℕ × Bool)) (forgets : List (List ℕ)) (change : RowsChange) (new : List Changes) (s : Session) (t : List RowChange) (b : Bool)
    → changes_of s.client new ≡ (if b then transaction_left change t else t)
    → with_changes new (if b then counting statements entries results s else forgotten forgets s)
    ≡ (if b then seat_of (counting statements entries results s) (transaction_left change t) else seat_of (forgotten forgets s) t)
counted_at statements entries results forgets change new s t true is = ap (seat_of (counting statements entries results s)) is
counted_at statements entries results forgets change new s t false is = ap (seat_of (forgotten forgets s)) is

counted : (client : ClientNo) (statements entries : ℕ) (results : List (List ℕ × Bool)) (forgets : List (List ℕ)) (change : RowsChange) (old new : List Changes) (sessions : List Session)
    → ((q : ClientNo) → changes_of q new ≡ changes_left (Counts client statements entries results forgets change) q (changes_of q old))
    → map (with_changes new) (map (counted_by client statements entries results forgets) sessions) ≡ map (session_left client statements entries results forgets change) (map (with_changes old) sessions)
counted client statements entries results forgets change old new [] is = refl
counted client statements entries results forgets change old new (s ∷ sessions) is =
    ap₂ (λ (x : OpenSession) (xs : List OpenSession). x ∷ xs)
    (counted_at statements entries results forgets change new s (changes_of s.client old) (s.client.0 == client.0) (is s.client))
    (counted client statements entries results forgets change old new sessions is)

ended_at : (client : ClientNo) (old new : List Changes) (s : Session) (b : Bool) (xs : List Session) (ys : List OpenSession) → changes_of s.client new ≡ (if b then [] else changes_of s.client old) → map (with_changes new) xs ≡ ys
    → map (with_changes new) (if not b then s ∷ xs else xs) ≡ (if not b then with_changes old s ∷ ys else ys)
ended_at client old new s true xs ys is rest = rest
ended_at client old new s false xs ys is rest = ap₂ (λ (z : OpenSession) (zs : List OpenSession). z ∷ zs) (ap (seat_of s) is) rest

ended : (client : ClientNo) (old new : List Changes) (sessions : List Session) → ((q : ClientNo) → changes_of q new ≡ changes_left (Ends client) q (changes_of q old))
    → map (with_changes new) (settled_sessions (Ends client) sessions) ≡ sessions_after (Ends client) (map (with_changes old) sessions)
ended client old new [] is = refl
ended client old new (s ∷ sessions) is =
    ended_at client old new s (s.client.0 == client.0) (settled_sessions (Ends client) sessions) (sessions_after (Ends client) (map (with_changes old) sessions)) (is s.client) (ended client old new sessions is)

-- the sessions as they are settled, with the changes as they are left, are what the step makes of those before
pub view_after : (change : SessionChange) (old new : List Changes) (sessions : List Session) → ((q : ClientNo) → changes_of q new ≡ changes_left change q (changes_of q old)) → BeginsQuiet change old
    → map (with_changes new) (settled_sessions change sessions) ≡ sessions_after change (map (with_changes old) sessions)
view_after Nothing old new sessions is quiet = same_views old new sessions is
view_after (Begins session) old new sessions is quiet = begun session old new sessions is quiet
view_after (Counts client statements entries results forgets change) old new sessions is quiet = counted client statements entries results forgets change old new sessions is
view_after (Ends client) old new sessions is quiet = ended client old new sessions is

-- ---- clients without a session

none_at : {X : Type 0} (b : Bool) (x : X) (found : Option X) → cond b (Some x) found ≡ None → (b ≡ false) × (found ≡ None)
none_at true x found is = absurd (let e : Some x ≡ None = is in cc)
none_at false x found is = (refl, is)

none_more : {X : Type 0} (b : Bool) (x : X) (found : Option X) → b ≡ false → found ≡ None → cond b (Some x) found ≡ None
none_more true x found differs absent = absurd (let e : true ≡ false = differs in cc)
none_more false x found differs absent = absent

-- no session in front is the client's where none is of all
none_front : (front rest : List OpenSession) (client : ClientNo) → session_of (front ++ rest) client ≡ None → session_of front client ≡ None
none_front [] rest client is = refl
none_front (s ∷ front) rest client is =
    let parts = none_at (s.session.client.0 == client.0) s (session_of (front ++ rest) client) is in
    none_more (s.session.client.0 == client.0) s (session_of front client) parts.0 (none_front front rest client parts.1)

none_mapped : (f : OpenSession → OpenSession) → ((s : OpenSession) → (f s).session.client ≡ s.session.client) → (sessions : List OpenSession) (client : ClientNo) → session_of (map f sessions) client ≡ None → session_of sessions client ≡ None
none_mapped f same [] client is = refl
none_mapped f same (s ∷ sessions) client is =
    let parts = none_at ((f s).session.client.0 == client.0) (f s) (session_of (map f sessions) client) is in
    none_more (s.session.client.0 == client.0) s (session_of sessions client) (ap (λ (c : ClientNo). c.0 == client.0) (sym (same s)) ∙ parts.0) (none_mapped f same sessions client parts.1)

left_client_at : (statements entries : ℕ) (results : List (List ℕ × Bool)) (forgets : List (List ℕ)) (change : RowsChange) (s : OpenSession) (b : Bool)
    → (if b then seat_of (counting statements entries results s.session) (transaction_left change s.transaction) else seat_of (forgotten forgets s.session) s.transaction).session.client ≡ s.session.client
left_client_at statements entries results forgets change s true = refl
left_client_at statements entries results forgets change s false = refl

left_client : (client : ClientNo) (statements entries : ℕ) (results : List (List ℕ × Bool)) (forgets : List (List ℕ)) (change : RowsChange) (s : OpenSession)
    → (session_left client statements entries results forgets change s).session.client ≡ s.session.client
left_client client statements entries results forgets change s = left_client_at statements entries results forgets change s (s.session.client.0 == client.0)

differ : (a b c : ℕ) → (a == b) ≡ false → (c == a) ≡ true → (c == b) ≡ false
differ a b c apart same = grind (arith, nat_tests)

-- no session that is left is another client's where none was
none_left_at : (s : OpenSession) (q client : ClientNo) (gone mine : Bool) (kept all : Option OpenSession) → (s.session.client.0 == client.0) ≡ gone → (s.session.client.0 == q.0) ≡ mine → (q.0 == client.0) ≡ false
    → (if not gone then cond mine (Some s) kept else kept) ≡ None → (kept ≡ None → all ≡ None) → cond mine (Some s) all ≡ None
none_left_at s q client true true kept all gone mine apart is more =
    absurd (let e : (s.session.client.0 == client.0) ≡ false = differ q.0 client.0 s.session.client.0 apart mine in cc)
none_left_at s q client true false kept all gone mine apart is more = more is
none_left_at s q client false true kept all gone mine apart is more = absurd (let e : Some s ≡ None = is in cc)
none_left_at s q client false false kept all gone mine apart is more = more is

found_left : (gone : Bool) (s : OpenSession) (xs : List OpenSession) (q : ClientNo) → session_of (if not gone then s ∷ xs else xs) q ≡ (if not gone then cond (s.session.client.0 == q.0) (Some s) (session_of xs q) else session_of xs q)
found_left true s xs q = refl
found_left false s xs q = refl

none_left : (client : ClientNo) (sessions : List OpenSession) (q : ClientNo) → (q.0 == client.0) ≡ false → session_of (sessions_after (Ends client) sessions) q ≡ None → session_of sessions q ≡ None
none_left client [] q apart is = refl
none_left client (s ∷ sessions) q apart is =
    none_left_at s q client (s.session.client.0 == client.0) (s.session.client.0 == q.0) (session_of (sessions_after (Ends client) sessions) q) (session_of sessions q) refl refl apart
    (sym (found_left (s.session.client.0 == client.0) s (sessions_after (Ends client) sessions) q) ∙ is) (none_left client sessions q apart)

-- the client whose session counts has one
abbrev pub Stands : SessionChange → List OpenSession → Type 0
Stands (Counts client statements entries results forgets change) sessions = IsTrue (is_some (session_of sessions client))
Stands _ sessions = ⊤

counts_quiet : (client q : ClientNo) (change : RowsChange) (sessions : List OpenSession) (t : List RowChange) (b : Bool) → (q.0 == client.0) ≡ b → IsTrue (is_some (session_of sessions client)) → session_of sessions q ≡ None → t ≡ []
    → (if b then transaction_left change t else t) ≡ []
counts_quiet client q change sessions t true same stands none is =
    absurd (let gone : session_of sessions client ≡ None = subst (λ (c : ClientNo). session_of sessions c ≡ None) (same_client q client same) none in
    let told : is_some (session_of sessions client) ≡ true = stands in
    let e : is_some (session_of sessions client) ≡ false = ap (λ (o : Option OpenSession). is_some o) gone in cc)
counts_quiet client q change sessions t false same stands none is = is

ends_quiet : (client q : ClientNo) (sessions : List OpenSession) (old : List Changes) (b : Bool) → (q.0 == client.0) ≡ b → session_of (sessions_after (Ends client) sessions) q ≡ None
    → (session_of sessions q ≡ None → changes_of q old ≡ []) → (if b then [] else changes_of q old) ≡ []
ends_quiet client q sessions old true same none quiet = refl
ends_quiet client q sessions old false same none quiet = quiet (none_left client sessions q same none)

-- a client without a session has no changes afterwards, where that was so before
pub quiet_after : (change : SessionChange) (old new : List Changes) (sessions : List OpenSession) → ((q : ClientNo) → changes_of q new ≡ changes_left change q (changes_of q old))
    → ((q : ClientNo) → session_of sessions q ≡ None → changes_of q old ≡ []) → Stands change sessions
    → (q : ClientNo) → session_of (sessions_after change sessions) q ≡ None → changes_of q new ≡ []
quiet_after Nothing old new sessions is quiet stands q none = is q ∙ quiet q none
quiet_after (Begins session) old new sessions is quiet stands q none = is q ∙ quiet q (none_front sessions (opened session ∷ []) q none)
quiet_after (Counts client statements entries results forgets change) old new sessions is quiet stands q none =
    let before = none_mapped (session_left client statements entries results forgets change) (left_client client statements entries results forgets change) sessions q none in
    is q ∙ counts_quiet client q change sessions (changes_of q old) (q.0 == client.0) refl stands before (quiet q before)
quiet_after (Ends client) old new sessions is quiet stands q none = is q ∙ ends_quiet client q sessions old (q.0 == client.0) refl none (quiet q)

-- ---- sessions that begin

flip : (a b : ℕ) → (a == b) ≡ false → (b == a) ≡ false
flip a b apart = grind (arith, nat_tests)

last_differs : (front : List OpenSession) (s : OpenSession) (client : ClientNo) → session_of (front ++ s ∷ []) client ≡ None → (s.session.client.0 == client.0) ≡ false
last_differs [] s client is = (none_at (s.session.client.0 == client.0) s None is).0
last_differs (x ∷ front) s client is = last_differs front s client (none_at (x.session.client.0 == client.0) x (session_of (front ++ s ∷ []) client) is).1

last_apart : (sessions : List OpenSession) (s : OpenSession) → HaveOneEach (sessions ++ s ∷ []) → session_of sessions s.session.client ≡ None
last_apart [] s apart = refl
last_apart (x ∷ sessions) s apart =
    none_more (x.session.client.0 == s.session.client.0) x (session_of sessions s.session.client)
    (flip s.session.client.0 x.session.client.0 (last_differs sessions s x.session.client apart.0)) (last_apart sessions s apart.1)

-- a client whose session begins had none, since none has two afterwards
pub begins_quiet : (change : SessionChange) (logs : List Changes) (sessions : List OpenSession) → HaveOneEach (sessions_after change sessions) → ((q : ClientNo) → session_of sessions q ≡ None → changes_of q logs ≡ []) → BeginsQuiet change logs
begins_quiet Nothing logs sessions apart quiet = tt
begins_quiet (Begins session) logs sessions apart quiet = quiet session.client (last_apart sessions (opened session) apart)
begins_quiet (Counts client statements entries results forgets change) logs sessions apart quiet = tt
begins_quiet (Ends client) logs sessions apart quiet = tt
