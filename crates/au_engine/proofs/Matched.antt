-- What is so of a client's session, by the session that is lent.
use Rattle.std.proofs.Common.{◌≡◌, ◌∙◌, sym, subst}
use Rattle.std.specs.Prelude.{MatchOption, Option, Some, None, option_map}
use Rattle.au_step.specs.declared.session.Session.{Session}
use Rattle.au_step.specs.State.{OpenSession}

-- what is so of the session that is lent is so of the client's
pub seat_given : (found : Option OpenSession) (given : Option Session) (session : Session) (X : Type 0) (P : Session → Type 0) → given ≡ option_map (λ (s : OpenSession). s.session) found → given ≡ Some session → P session
    → MatchOption found X (λ seat. P seat.session)
seat_given None given session X P is some it = absurd (let e : None ≡ Some session = sym is ∙ some in cc)
seat_given (Some seat) given session X P is some it =
    let same : Some seat.session ≡ Some session = sym is ∙ some in
    let back : session ≡ seat.session = cc in
    subst P back it

-- and the other way
pub seat_taken : (found : Option OpenSession) (given : Option Session) (session : Session) (X : Type 0) (P : Session → Type 0) → given ≡ option_map (λ (s : OpenSession). s.session) found → given ≡ Some session
    → MatchOption found X (λ seat. P seat.session) → P session
seat_taken None given session X P is some it = absurd (let e : None ≡ Some session = sym is ∙ some in cc)
seat_taken (Some seat) given session X P is some it =
    let same : Some seat.session ≡ Some session = sym is ∙ some in
    let here : seat.session ≡ session = cc in
    subst P here it

-- where no session is lent the client has none
pub none_given : (found : Option OpenSession) (given : Option Session) (X : Type 0) (P : OpenSession → Type 0) → given ≡ option_map (λ (s : OpenSession). s.session) found → given ≡ None → X → MatchOption found X P
none_given None given X P is none it = it
none_given (Some seat) given X P is none it = absurd (let e : Some seat.session ≡ None = sym is ∙ none in cc)
