-- A client's session is lawful where all are.
use Rattle.std.proofs.Common.{◌≡◌, ◌≢◌, ◌∙◌, ◌==◌, ℕ, Bool, true, false, cond, List, [], ◌∷◌, refl, sym, ap, subst, arith}
use Rattle.std.specs.Prelude.{⊤, MatchOption, find, Option, Some, None, option_map}
use Rattle.std.specs.List.{AllByRecursion}
use Rattle.std.proofs.lemmas.Bool.Decides.{nat_tests}
use Rattle.au_base.specs.declared.numbers.ClientNo.{ClientNo}
use Rattle.au_step.specs.declared.session.Session.{Session}
use Rattle.au_step.specs.Lawful.{IsLawfulSession, IsLawfulState}
use Rattle.au_step.specs.State.{OpenSession, State}
use Rattle.au_step.specs.Step.{session_of}
use Rattle.au_engine.specs.Inside.{IsOwn}

found_at : {X : Type 0} (P : X → Type 0) (x : X) (found : Option X) (b : Bool) → P x → MatchOption found ⊤ P → MatchOption (cond b (Some x) found) ⊤ P
found_at P x found true here more = here
found_at P x found false here more = more

found_holds : {X : Type 0} (P : X → Type 0) (test : X → Bool) (xs : List X) → AllByRecursion P xs → MatchOption (find test xs) ⊤ P
found_holds P test [] all = tt
found_holds P test (x ∷ xs) all = found_at P x (find test xs) (test x) all.0 (found_holds P test xs all.1)

met_at : {X : Type 0} (test : X → Bool) (y x : X) (found : Option X) (b : Bool) → test y ≡ b → cond b (Some y) found ≡ Some x → (found ≡ Some x → test x ≡ true) → test x ≡ true
met_at {X} test y x found true is some more = subst (λ (z : X). test z ≡ true) (let e : Some y ≡ Some x = some in let same : y ≡ x = cc in same) is
met_at test y x found false is some more = more some

-- what is found passes the test
pub found_meets : {X : Type 0} (test : X → Bool) (xs : List X) (x : X) → find test xs ≡ Some x → test x ≡ true
found_meets test [] x is = absurd (let e : None ≡ Some x = is in cc)
found_meets test (y ∷ xs) x is = met_at test y x (find test xs) (test y) refl is (found_meets test xs x)

-- numbers of clients
same_number : (a b : ℕ) → (a == b) ≡ true → a ≡ b
same_number a b is = grind (arith, nat_tests)

pub same_client : (a b : ClientNo) → (a.0 == b.0) ≡ true → a ≡ b
same_client a b is = ap (λ (n : ℕ). let c : ClientNo = record { 0 = n } in c) (same_number a.0 b.0 is)

-- the session that is found is the client's
pub found_client : (sessions : List OpenSession) (client : ClientNo) (seat : OpenSession) → session_of sessions client ≡ Some seat → seat.session.client ≡ client
found_client sessions client seat is = same_client seat.session.client client (found_meets (λ (s : OpenSession). s.session.client.0 == client.0) sessions seat is)

own_at : (m : State) (client : ClientNo) (found : Option OpenSession) (session : Session) → session_of m.sessions client ≡ found → IsLawfulState m → option_map (λ (s : OpenSession). s.session) found ≡ Some session → IsOwn m session
own_at m client None session is lawful some = absurd (let e : None ≡ Some session = some in cc)
own_at m client (Some seat) session is lawful some =
    let same : seat.session ≡ session = (let e : Some seat.session ≡ Some session = some in cc) in
    let lawfully = subst (λ (o : Option OpenSession). MatchOption o ⊤ (λ (s : OpenSession). IsLawfulSession m.kept s.session)) is
    (found_holds (λ (s : OpenSession). IsLawfulSession m.kept s.session) (λ (s : OpenSession). s.session.client.0 == client.0) m.sessions lawful.sessions) in
    let numbered = subst (λ (o : Option OpenSession). MatchOption o ⊤ (λ (s : OpenSession). s.session.client.0 ≢ 0)) is
    (found_holds (λ (s : OpenSession). s.session.client.0 ≢ 0) (λ (s : OpenSession). s.session.client.0 == client.0) m.sessions lawful.clients) in
    record {
      lawful = subst (λ (s : Session). IsLawfulSession m.kept s) same lawfully;
      some = subst (λ (s : Session). s.client.0 ≢ 0) same numbered;
      seat = seat;
      found = ap (λ (c : ClientNo). session_of m.sessions c) (ap (λ (s : Session). s.client) (sym same) ∙ found_client m.sessions client seat is) ∙ is;
      is = same;
    }

-- the session that is the client's is lawful, and is its own
pub own_lawful : (m : State) (client : ClientNo) (given : Option Session) (session : Session) → given ≡ option_map (λ (s : OpenSession). s.session) (session_of m.sessions client) → IsLawfulState m → given ≡ Some session → IsOwn m session
own_lawful m client given session is lawful some = own_at m client (session_of m.sessions client) session refl lawful (sym is ∙ some)
