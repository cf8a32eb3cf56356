-- The desk of a state: each client's changes on it are its transaction, and what becomes of these where sessions come, go and
-- change.
use Rattle.std.proofs.Common.{◌≡◌, ◌≢◌, ◌∙◌, Bool, true, false, not, cond, ◌==◌, List, [], ◌∷◌, ◌++◌, map, refl, sym, ap, subst, arith}
use Rattle.std.specs.Prelude.{Option, Some, None, option_map, if◌then◌else◌}
use Rattle.std.proofs.lemmas.Bool.Decides.{nat_tests}
use Rattle.au_base.specs.declared.numbers.ClientNo.{ClientNo}
use Rattle.au_entries.specs.declared.kept.Kept.{Kept}
use Rattle.au_kept.specs.Keeping.{Contents, desk_of}
use Rattle.au_txn.specs.declared.change.RowChange.{RowChange}
use Rattle.au_txn.specs.Desks.{Contents as Desk, open_of}
use Rattle.au_txn.specs.Logs.{changes_of}
use Rattle.au_step.specs.declared.session.Session.{Session}
use Rattle.au_step.specs.Abandoning.{sessions_without}
use Rattle.au_step.specs.Lawful.{log_of}
use Rattle.au_step.specs.State.{OpenSession}
use Rattle.au_step.specs.Step.{opened, session_of, settled, transaction_in, transaction_of}
use Rattle.au_step.proofs.Clients.{StaysOf, is_of, settled_stays, without_off}

-- ---- the desk

-- what is kept, with the transactions of the sessions
abbrev pub contents_with : Kept → List OpenSession → Contents
contents_with kept sessions = record { kept = kept; logs = map log_of sessions; spare = 0; room = 0 }

abbrev pub desk_with : Kept → List OpenSession → Desk
desk_with kept sessions = desk_of (contents_with kept sessions)

none_laid : (zero : Bool) (rest : List RowChange) → (if zero then [] else []) ++ rest ≡ rest
none_laid true rest = refl
none_laid false rest = refl

listed_at : (own : Bool) (s : OpenSession) (found : Option OpenSession) (rest : List RowChange) → rest ≡ transaction_in found → (if own then s.transaction else rest) ≡ transaction_in (cond own (Some s) found)
listed_at true s found rest same = refl
listed_at false s found rest same = same

listed : (sessions : List OpenSession) (client : ClientNo) → changes_of client (map log_of sessions) ≡ transaction_of sessions client
listed [] client = refl
listed (s ∷ sessions) client = listed_at (is_of client s) s (session_of sessions client) (changes_of client (map log_of sessions)) (listed sessions client)

pub desk_tells : (kept : Kept) (sessions : List OpenSession) (client : ClientNo) → open_of (desk_with kept sessions) client ≡ transaction_of sessions client
desk_tells kept sessions client = none_laid (client.0 == 0) (changes_of client (map log_of sessions)) ∙ listed sessions client

-- ---- a session more, whose transaction is empty

same_found : (own : Bool) (s : OpenSession) (a b : Option OpenSession) → transaction_in a ≡ transaction_in b → transaction_in (cond own (Some s) a) ≡ transaction_in (cond own (Some s) b)
same_found true s a b same = refl
same_found false s a b same = same

none_found : (own : Bool) (s : OpenSession) → s.transaction ≡ [] → transaction_in (cond own (Some s) None) ≡ []
none_found true s none = none
none_found false s none = refl

pub joined_same : (session : Session) (sessions : List OpenSession) (client : ClientNo) → transaction_of (sessions ++ opened session ∷ []) client ≡ transaction_of sessions client
joined_same session [] client = none_found (is_of client (opened session)) (opened session) refl
joined_same session (s ∷ sessions) client =
    same_found (is_of client s) s (session_of (sessions ++ opened session ∷ []) client) (session_of sessions client) (joined_same session sessions client)

-- ---- the sessions of the other clients

pub without_own : (client : ClientNo) (sessions : List OpenSession) → transaction_of (sessions_without client sessions) client ≡ []
without_own client sessions = ap transaction_in (without_off client sessions)

not_both : (client other : ClientNo) (s : OpenSession) → other.0 ≢ client.0 → is_of client s ≡ true → is_of other s ≡ false
not_both client other s differ is = grind (arith, nat_tests)

gone_at : (s : OpenSession) (found : Option OpenSession) (own : Bool) → own ≡ false → transaction_in found ≡ transaction_in (cond own (Some s) found)
gone_at s found true is = absurd (let e : true ≡ false = is in cc)
gone_at s found false is = refl

without_at : (client other : ClientNo) (s : OpenSession) (rest sessions : List OpenSession) (own : Bool) → is_of client s ≡ own → other.0 ≢ client.0 → transaction_of rest other ≡ transaction_of sessions other
    → transaction_of (cond (not own) (s ∷ rest) rest) other ≡ transaction_of (s ∷ sessions) other
without_at client other s rest sessions true is differ same = same ∙ gone_at s (session_of sessions other) (is_of other s) (not_both client other s differ is)
without_at client other s rest sessions false is differ same = same_found (is_of other s) s (session_of rest other) (session_of sessions other) same

pub without_other : (client other : ClientNo) (sessions : List OpenSession) → other.0 ≢ client.0 → transaction_of (sessions_without client sessions) other ≡ transaction_of sessions other
without_other client other [] differ = refl
without_other client other (s ∷ sessions) differ =
    without_at client other s (sessions_without client sessions) sessions (is_of client s) refl differ (without_other client other sessions differ)

-- ---- sessions that change

-- what becomes of a client's session, of the others' transactions, and of its own
pub record ChangesOwn (client : ClientNo) (own : List RowChange → List RowChange) (f : OpenSession → OpenSession) : Type 0 where
  pub stays : StaysOf f
  pub own_is : (s : OpenSession) → is_of client s ≡ true → (f s).transaction ≡ own s.transaction
  pub others_are : (s : OpenSession) → is_of client s ≡ false → (f s).transaction ≡ s.transaction

mapped_at : (f : OpenSession → OpenSession) (s : OpenSession) (found : Option OpenSession) (a b : Bool) → a ≡ b → cond a (Some (f s)) (option_map f found) ≡ option_map f (cond b (Some s) found)
mapped_at f s found true true same = refl
mapped_at f s found false false same = refl
mapped_at f s found true false same = absurd (let e : true ≡ false = same in cc)
mapped_at f s found false true same = absurd (let e : false ≡ true = same in cc)

pub mapped_found : (f : OpenSession → OpenSession) (sessions : List OpenSession) (client : ClientNo) → StaysOf f → session_of (map f sessions) client ≡ option_map f (session_of sessions client)
mapped_found f [] client stays = refl
mapped_found f (s ∷ sessions) client stays =
    ap (λ (found : Option OpenSession). cond (is_of client (f s)) (Some (f s)) found) (mapped_found f sessions client stays)
    ∙ mapped_at f s (session_of sessions client) (is_of client (f s)) (is_of client s) (ap (λ (c : ClientNo). c.0 == client.0) (stays s))

-- the session that is found of a client is the client's
found_at : (client : ClientNo) (s found : OpenSession) (rest : Option OpenSession) (own : Bool) → is_of client s ≡ own → (rest ≡ Some found → is_of client found ≡ true) → cond own (Some s) rest ≡ Some found → is_of client found ≡ true
found_at client s found rest true is more same =
    let here : s ≡ found = (let e : Some s ≡ Some found = same in cc) in subst (λ (x : OpenSession). is_of client x ≡ true) here is
found_at client s found rest false is more same = more same

pub found_is : (client : ClientNo) (sessions : List OpenSession) (found : OpenSession) → session_of sessions client ≡ Some found → is_of client found ≡ true
found_is client [] found same = absurd (let e : None ≡ Some found = same in cc)
found_is client (s ∷ sessions) found same = found_at client s found (session_of sessions client) (is_of client s) refl (found_is client sessions found) same

-- ---- their transactions

in_mapped : (f : OpenSession → OpenSession) (sessions : List OpenSession) (client : ClientNo) (found : OpenSession) → StaysOf f → session_of sessions client ≡ Some found
    → transaction_of (map f sessions) client ≡ (f found).transaction
in_mapped f sessions client found stays same =
    ap transaction_in (mapped_found f sessions client stays ∙ ap (λ (x : Option OpenSession). option_map f x) same)

-- the client's, where it has a session
pub changed_own : (client : ClientNo) (own : List RowChange → List RowChange) (f : OpenSession → OpenSession) (sessions : List OpenSession) (found : OpenSession) → ChangesOwn client own f
    → session_of sessions client ≡ Some found → transaction_of (map f sessions) client ≡ own (transaction_of sessions client)
changed_own client own f sessions found changes same =
    in_mapped f sessions client found changes.stays same ∙ changes.own_is found (found_is client sessions found same) ∙ ap own (ap transaction_in (sym same))

other_at : (client other : ClientNo) (own : List RowChange → List RowChange) (f : OpenSession → OpenSession) (found : Option OpenSession) → ChangesOwn client own f → other.0 ≢ client.0
    → ((s : OpenSession) → found ≡ Some s → is_of other s ≡ true) → transaction_in (option_map f found) ≡ transaction_in found
other_at client other own f None changes differ is = refl
other_at client other own f (Some s) changes differ is = changes.others_are s (not_both other client s (λ same. differ (sym same)) (is s refl))

-- another client's
pub changed_other : (client other : ClientNo) (own : List RowChange → List RowChange) (f : OpenSession → OpenSession) (sessions : List OpenSession) → ChangesOwn client own f → other.0 ≢ client.0
    → transaction_of (map f sessions) other ≡ transaction_of sessions other
changed_other client other own f sessions changes differ =
    ap transaction_in (mapped_found f sessions other changes.stays)
    ∙ other_at client other own f (session_of sessions other) changes differ (λ s same. found_is other sessions s same)

-- a client whose transaction is left empty has none, with a session or without
emptied_at : (client : ClientNo) (f : OpenSession → OpenSession) (found : Option OpenSession) → ChangesOwn client (λ before. []) f → ((s : OpenSession) → found ≡ Some s → is_of client s ≡ true) → transaction_in (option_map f found) ≡ []
emptied_at client f None changes is = refl
emptied_at client f (Some s) changes is = changes.own_is s (is s refl)

pub changed_empty : (client : ClientNo) (f : OpenSession → OpenSession) (sessions : List OpenSession) → ChangesOwn client (λ before. []) f → transaction_of (map f sessions) client ≡ []
changed_empty client f sessions changes =
    ap transaction_in (mapped_found f sessions client changes.stays) ∙ emptied_at client f (session_of sessions client) changes (λ s same. found_is client sessions s same)

-- ---- a commit

emptied : (own : Bool) (s : OpenSession) → own ≡ true → (if own then record s { transaction = [] } else s).transaction ≡ []
emptied true s is = refl
emptied false s is = absurd (let e : false ≡ true = is in cc)

as_it_was : (own : Bool) (s : OpenSession) → own ≡ false → (if own then record s { transaction = [] } else s).transaction ≡ s.transaction
as_it_was true s is = absurd (let e : true ≡ false = is in cc)
as_it_was false s is = refl

pub settled_changes : (client : ClientNo) → ChangesOwn client (λ before. []) (settled client)
settled_changes client = record {
  stays = settled_stays client;
  own_is = λ s is. emptied (is_of client s) s is;
  others_are = λ s is. as_it_was (is_of client s) s is;
}
