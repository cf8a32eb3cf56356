-- The one session of a client gets its counts in place.
use Rattle.std.proofs.Common.{◌≡◌, ◌∙◌, ℕ, suc, zero, ◌<◌, Bool, true, false, ◌==◌, List, [], ◌∷◌, map, set, get_or, length, refl, sym, ap, ap₂, subst, arith}
use Rattle.std.specs.Prelude.{Option, None, Some, if◌then◌else◌}
use Rattle.std.specs.List.{position}
use Rattle.std.proofs.lemmas.Bool.Decides.{nat_tests}
use Rattle.std.proofs.lemmas.Grind.{common_steps}
use Rattle.std.proofs.lemmas.List.Quantifiers.{position-Some}
use Rattle.au_base.specs.declared.numbers.ClientNo.{ClientNo}
use Rattle.au_step.specs.declared.session.Session.{Session}
use Rattle.au_engine.specs.Sessions.{AreApart, counted_by, forgotten, found_in, is_of, with_counts}
use Rattle.au_engine.proofs.Apart.{unfound}

same_number : (a b : ℕ) → (a == b) ≡ true → a ≡ b
same_number a b is = grind (arith, nat_tests)

same_client : (a b : ClientNo) → (a.0 == b.0) ≡ true → a ≡ b
same_client a b is = ap (λ (n : ℕ). let c : ClientNo = record { 0 = n } in c) (same_number a.0 b.0 is)

-- nothing changes where no session is the client's
pub uncounted : (client : ClientNo) (statements entries : ℕ) (results : List (List ℕ × Bool)) (sessions : List Session) → found_in sessions client ≡ None → map (with_counts client statements entries results) sessions ≡ sessions
uncounted client statements entries results [] none = refl
uncounted client statements entries results (s ∷ sessions) none =
    let parts = unfound client s sessions none in
    ap₂ (λ (x : Session) (xs : List Session). x ∷ xs)
    (ap (λ (b : Bool). if b then record s { statements = statements; entries = entries; results = results } else s) parts.0)
    (uncounted client statements entries results sessions parts.1)

not_there : (client : ClientNo) (sessions : List Session) (i : ℕ) (d : Session) → found_in sessions client ≡ None → i < length sessions → is_of client (get_or sessions i d) ≡ false
not_there client [] i d none within = absurd (omega arith)
not_there client (s ∷ sessions) zero d none within = (unfound client s sessions none).0
not_there client (s ∷ sessions) (suc i) d none within = not_there client sessions i d (unfound client s sessions none).1 (omega arith)

-- the counts of the session that is the client's
abbrev pub counts : ℕ → ℕ → List (List ℕ × Bool) → Session → Session
counts statements entries results s = record s { statements = statements; entries = entries; results = results }

first_other : (client : ClientNo) (statements entries : ℕ) (results : List (List ℕ × Bool)) (s : Session) (sessions : List Session) (i : ℕ) (d : Session) (b : Bool) → (s.client.0 == client.0) ≡ b
    → found_in sessions s.client ≡ None → i < length sessions → is_of client (get_or sessions i d) ≡ true → s ≡ with_counts client statements entries results s
first_other client statements entries results s sessions i d true is none within hit =
    absurd (let no = not_there client sessions i d (subst (λ (c : ClientNo). found_in sessions c ≡ None) (same_client s.client client is) none) within in cc)
first_other client statements entries results s sessions i d false is none within hit =
    sym (ap (λ (b : Bool). if b then counts statements entries results s else s) is)

counted_at : (client : ClientNo) (statements entries : ℕ) (results : List (List ℕ × Bool)) (sessions : List Session) (i : ℕ) (d : Session) → AreApart sessions → i < length sessions → is_of client (get_or sessions i d) ≡ true
    → set sessions i (counts statements entries results (get_or sessions i d)) ≡ map (with_counts client statements entries results) sessions
counted_at client statements entries results [] i d apart within hit = absurd (omega arith)
counted_at client statements entries results (s ∷ sessions) zero d apart within hit =
    let none = subst (λ (c : ClientNo). found_in sessions c ≡ None) (same_client s.client client hit) apart.0 in
    ap₂ (λ (x : Session) (xs : List Session). x ∷ xs)
    (sym (ap (λ (b : Bool). if b then counts statements entries results s else s) hit))
    (sym (uncounted client statements entries results sessions none))
counted_at client statements entries results (s ∷ sessions) (suc i) d apart within hit =
    ap₂ (λ (x : Session) (xs : List Session). x ∷ xs)
    (first_other client statements entries results s sessions i d (s.client.0 == client.0) refl apart.0 (omega arith) hit)
    (counted_at client statements entries results sessions i d apart.1 (omega arith) hit)

-- the session at the client's place gets the counts, and no other
pub counted_there : (client : ClientNo) (statements entries : ℕ) (results : List (List ℕ × Bool)) (sessions : List Session) (i : ℕ) (read new : Session) → AreApart sessions
    → position (is_of client) sessions ≡ Some i → new ≡ counts statements entries results (get_or sessions i read)
    → set sessions i new ≡ map (with_counts client statements entries results) sessions
counted_there client statements entries results sessions i read new apart place made =
    let at = position-Some (is_of client) sessions i read place in
    ap (λ (s : Session). set sessions i s) made ∙ counted_at client statements entries results sessions i read apart at.0 at.1

-- where no place is the client's, no session is
pub unplaced : (client : ClientNo) (sessions : List Session) → position (is_of client) sessions ≡ None → found_in sessions client ≡ None
unplaced client [] none = refl
unplaced client (s ∷ sessions) none = grind (arith, common_steps, unplaced client sessions)

-- each session forgets, and then the client's gets its counts
pub counts_made : (client : ClientNo) (statements entries : ℕ) (results : List (List ℕ × Bool)) (forgets : List (List ℕ)) (sessions : List Session)
    → map (with_counts client statements entries results) (map (forgotten forgets) sessions) ≡ map (counted_by client statements entries results forgets) sessions
counts_made client statements entries results forgets [] = refl
counts_made client statements entries results forgets (s ∷ sessions) =
    ap (λ (rest : List Session). counted_by client statements entries results forgets s ∷ rest) (counts_made client statements entries results forgets sessions)

-- the same where the client's place is looked for among what is lent of the sessions, and isn't there
pub unplaced_in : (client : ClientNo) (statements entries : ℕ) (results : List (List ℕ × Bool)) (sessions seen : List Session) (found : Option ℕ) → found ≡ position (is_of client) seen → seen ≡ sessions → found ≡ None
    → sessions ≡ map (with_counts client statements entries results) sessions
unplaced_in client statements entries results sessions seen found place same none =
    let here : position (is_of client) sessions ≡ None = ap (λ (xs : List Session). position (is_of client) xs) (sym same) ∙ (sym place ∙ none) in
    sym (uncounted client statements entries results sessions (unplaced client sessions here))

-- and where it is there
pub placed_in : (client : ClientNo) (statements entries : ℕ) (results : List (List ℕ × Bool)) (sessions seen : List Session) (found : Option ℕ) (i : ℕ) (read new : Session) → AreApart sessions
    → found ≡ position (is_of client) seen → seen ≡ sessions → found ≡ Some i → new ≡ counts statements entries results (get_or sessions i read)
    → set sessions i new ≡ map (with_counts client statements entries results) sessions
placed_in client statements entries results sessions seen found i read new apart place same is made =
    let here : position (is_of client) sessions ≡ Some i = ap (λ (xs : List Session). position (is_of client) xs) (sym same) ∙ (sym place ∙ is) in
    counted_there client statements entries results sessions i read new apart here made
