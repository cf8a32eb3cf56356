-- How what was said on a connection goes on.
use Rattle.std.proofs.Common.{◌≡◌, ℕ, List, [], ◌∷◌, ◌++◌, drop, refl, sym, subst, append-nil}
use Rattle.std.specs.Prelude.{Option}
use Rattle.std.specs.Io.KnownBytes.{Consumes}
use Rattle.std.proofs.KnownBytes.{Consumes-trans, Consumes-nil}
use Rattle.au_io.specs.Stream.{Grows}
use Rattle.au_io.specs.Visits.{Told}
use Rattle.au_io.specs.StreamLaws.{grows_none, grows_on}
use Rattle.au_turn.specs.declared.pass.Pass.{Pass}
use Rattle.au_turn.specs.Pass.{WentOnBy}
use Rattle.au_turn.specs.PassLaws.{by_none, by_on}
use Rattle.au_http.specs.declared.requests.Need.TheVariants.{Got}
use Rattle.au_http.specs.Pipelines.{KeepRequests}
use Rattle.au_http.specs.Requests.{Needs}
use Rattle.au_store.specs.declared.entry.Entry.{Entry}
use Rattle.au_session.specs.Exchanges.{Exchange, requests_of}
use Rattle.au_session.specs.Session.{Talk}
use Rattle.au_session.proofs.Exchanging.{requests_next}

module _ {T : Type 0} (f : Told) (p : Pass T Entry) where
  -- nothing was taken, given or made
  pub talk_start : Talk f f p p [] [] [] []
  talk_start = record {
    bytes = [];
    came = [];
    left = Consumes-nil f.left;
    taken = grows_none f.taken;
    given = grows_none f.given;
    requests = refl;
    went = by_none p p refl refl;
  }

  module _ (g : Told) (q : Pass T Entry) (exchanges : List Exchange) (rest gave : List ℕ) (made : List Entry) (t : Talk f g p q exchanges rest gave made) where
    -- bytes were taken
    pub talk_taken : ((bytes : List ℕ) → KeepRequests bytes) → (h : Told) (bytes : List ℕ) → Consumes g.left h.left bytes → Grows g.taken h.taken bytes → h.given ≡ g.given
        → Talk f h p q exchanges (rest ++ bytes) gave made
    talk_taken stay h bytes left taken given = record {
      bytes = t.bytes ++ bytes;
      came = t.came;
      left = Consumes-trans f.left g.left h.left t.bytes bytes t.left left;
      taken = grows_on f.taken g.taken h.taken t.bytes bytes t.taken taken;
      given = subst (λ (o : Option (List ℕ)). Grows f.given o gave) (sym given) t.given;
      requests = stay t.bytes bytes (requests_of exchanges) rest t.requests;
      went = t.went;
    }

    -- bytes were given
    pub talk_given : (h : Told) (more : List ℕ) → Grows g.given h.given more → h.left ≡ g.left → h.taken ≡ g.taken → Talk f h p q exchanges rest (gave ++ more) made
    talk_given h more given left taken = record {
      bytes = t.bytes;
      came = t.came;
      left = subst (λ (o : Option (List ℕ)). Consumes f.left o t.bytes) (sym left) t.left;
      taken = subst (λ (o : Option (List ℕ)). Grows f.taken o t.bytes) (sym taken) t.taken;
      given = grows_on f.given g.given h.given gave more t.given given;
      requests = t.requests;
      went = t.went;
    }

    -- the next request was asked
    pub talk_asked : (r : Pass T Entry) (x : Exchange) (used : ℕ) (came more : List Entry) → Needs rest (Got used x.ask x.close) → WentOnBy came more q r
        → Talk f g p r (exchanges ++ x ∷ []) (drop used rest) gave (made ++ more)
    talk_asked r x used came more need went = record {
      bytes = t.bytes;
      came = t.came ++ came;
      left = t.left;
      taken = t.taken;
      given = t.given;
      requests = requests_next exchanges t.bytes rest x used t.requests need;
      went = by_on p q r t.went went;
    }

    -- the pass went on
    pub talk_went : (r : Pass T Entry) (came more : List Entry) → WentOnBy came more q r → Talk f g p r exchanges rest gave (made ++ more)
    talk_went r came more went = record {
      bytes = t.bytes;
      came = t.came ++ came;
      left = t.left;
      taken = t.taken;
      given = t.given;
      requests = t.requests;
      went = by_on p q r t.went went;
    }

    pub no_ending : Talk f g p q exchanges rest gave (made ++ [])
    no_ending = subst (λ (m : List Entry). Talk f g p q exchanges rest gave m) (sym (append-nil made)) t
