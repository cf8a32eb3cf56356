-- Sessions stay as they are where they forget the results of no policy.
use Rattle.std.proofs.Common.{◌≡◌, ◌∙◌, ◌∷◌, inl, inr, ℕ, Bool, true, false, List, [], length, map, refl, sym, ap, ap₂, arith}
use Rattle.std.proofs.lemmas.Bool.Decides.{eqb_tells}
use Rattle.std.specs.Prelude.{◌==◌}
use Rattle.au_audit.specs.Conditions.{forgetting}
use Rattle.au_step.specs.declared.session.Session.{Session}
use Rattle.au_engine.specs.Sessions.{forgotten}

abbrev Results : Type 0
Results = List (List ℕ × Bool)

none_forgotten : (results : Results) → forgetting [] results ≡ results
none_forgotten [] = refl
none_forgotten (result ∷ results) = ap (λ (rest : Results). result ∷ rest) (none_forgotten results)

each_stays : (sessions : List Session) → map (forgotten []) sessions ≡ sessions
each_stays [] = refl
each_stays (session ∷ sessions) =
    ap₂ (λ (first : Session) (rest : List Session). first ∷ rest) (ap (λ (results : Results). record session { results = results }) (none_forgotten session.results)) (each_stays sessions)

pub all_stay : (forgets : List (List ℕ)) (sessions : List Session) → (length forgets == 0) ≡ true → sessions ≡ map (forgotten forgets) sessions
all_stay [] sessions none = sym (each_stays sessions)
all_stay (name ∷ names) sessions none =
    elim (eqb_tells (length (name ∷ names)) 0) [ inl is ↦ absurd (omega (arith, is.1)) | inr is ↦ absurd (let e : true ≡ false = sym none ∙ is.0 in cc) ]
