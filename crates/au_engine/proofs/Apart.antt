-- Sessions stay apart where each keeps its client.
use Rattle.std.proofs.Common.{◌≡◌, ◌∙◌, Bool, true, false, cond, ◌==◌, List, [], ◌∷◌, map, refl, sym, ap, subst}
use Rattle.std.specs.Prelude.{Option, Some, None}
use Rattle.au_base.specs.declared.numbers.ClientNo.{ClientNo}
use Rattle.au_step.specs.declared.session.Session.{Session}
use Rattle.au_engine.specs.Sessions.{AreApart, found_in}

none_at : {X : Type 0} (b : Bool) (x : X) (found : Option X) → cond b (Some x) found ≡ None → (b ≡ false) × (found ≡ None)
none_at true x found is = absurd (let e : Some x ≡ None = is in cc)
none_at false x found is = (refl, is)

none_more : {X : Type 0} (b : Bool) (x : X) (found : Option X) → b ≡ false → found ≡ None → cond b (Some x) found ≡ None
none_more true x found differs absent = absurd (let e : true ≡ false = differs in cc)
none_more false x found differs absent = absent

-- where no session is the client's, neither the first is nor one of the rest
pub unfound : (client : ClientNo) (session : Session) (sessions : List Session) → found_in (session ∷ sessions) client ≡ None → ((session.client.0 == client.0) ≡ false) × (found_in sessions client ≡ None)
unfound client session sessions is = none_at (session.client.0 == client.0) session (found_in sessions client) is

unfound_mapped : (f : Session → Session) → ((s : Session) → (f s).client ≡ s.client) → (client : ClientNo) (sessions : List Session) → found_in sessions client ≡ None → found_in (map f sessions) client ≡ None
unfound_mapped f same client [] is = refl
unfound_mapped f same client (s ∷ sessions) is =
    let parts = unfound client s sessions is in
    none_more ((f s).client.0 == client.0) (f s) (found_in (map f sessions) client) (ap (λ (c : ClientNo). c.0 == client.0) (same s) ∙ parts.0) (unfound_mapped f same client sessions parts.1)

-- what keeps each session's client keeps them apart
pub apart_mapped : (f : Session → Session) → ((s : Session) → (f s).client ≡ s.client) → (sessions : List Session) → AreApart sessions → AreApart (map f sessions)
apart_mapped f same [] apart = tt
apart_mapped f same (s ∷ sessions) apart = (
  subst (λ (c : ClientNo). found_in (map f sessions) c ≡ None) (sym (same s)) (unfound_mapped f same s.client sessions apart.0),
  apart_mapped f same sessions apart.1,
)
