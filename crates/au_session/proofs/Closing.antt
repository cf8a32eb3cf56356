-- A connection that was served comes back answered.
use Rattle.std.proofs.Common.{◌≡◌, ℕ, List, [], ◌++◌, Some, None, inl, inr, ⊎_elim, refl, sym, ap, ◌∙◌, subst, arith}
use Rattle.std.specs.Prelude.{Option, IfSome}
use Rattle.au_base.specs.declared.numbers.ClientNo.{ClientNo}
use Rattle.au_http.specs.Pipelines.{AreRequests}
use Rattle.au_io.specs.Stream.{Grows}
use Rattle.au_io.specs.Visits.{IsFresh, Told}
use Rattle.au_store.specs.declared.entry.Entry.{Entry}
use Rattle.au_turn.specs.declared.pass.Pass.{Pass}
use Rattle.au_session.specs.declared.ended.Ended.{Ended}
use Rattle.au_session.specs.declared.ended.Ended.TheVariants as ended
use Rattle.au_session.specs.Answered.{Answered, AnsweredBy, MayComeBack}
use Rattle.au_session.specs.Exchanges.{Exchange, requests_of}
use Rattle.au_session.specs.Session.{EndsBy, Served}

-- what grew from nothing is what was added
grown : (o n : Option (List ℕ)) (bs cs : List ℕ) → IfSome o (λ l. l ≡ []) → Grows o n bs → n ≡ Some cs → cs ≡ bs
grown None n bs cs fresh g e = absurd (cc (e, g))
grown (Some xs) n bs cs fresh g e = let both : xs ++ bs ≡ cs = cc (e, g) in sym both ∙ ap (λ (l : List ℕ). l ++ bs) fresh

module _ (f g : Told) (fresh : IsFresh f) (exchanges : List Exchange) (rest gave bytes : List ℕ) (requests : AreRequests bytes (requests_of exchanges) rest) (taken : Grows f.taken g.taken bytes) (given : Grows f.given g.given gave) where
  answered_by : AnsweredBy bytes gave g.left → Answered g
  answered_by by well input out is_input is_output =
      subst (λ (l : List ℕ). AnsweredBy l out g.left) (sym (grown f.taken g.taken bytes input fresh.taken taken is_input))
      (subst (λ (l : List ℕ). AnsweredBy bytes l g.left) (sym (grown f.given g.given gave out fresh.given given is_output)) by)

  ends_back : (e : Ended) → EndsBy f g exchanges rest gave e → MayComeBack e g
  ends_back ended.Closed ends = λ other. answered_by (record {
    exchanges = exchanges;
    rest = rest;
    requests = requests;
    ends = ⊎_elim (λ over. inr (inl over.0)) (λ last. inl last) ends.1;
  })
  ends_back ended.Cut ends = λ other. answered_by (record { exchanges = exchanges; rest = rest; requests = requests; ends = inr (inl ends.1) })
  ends_back (ended.Refused status) ends = λ other. answered_by (record { exchanges = exchanges; rest = rest; requests = requests; ends = inr (inr (status, ends.1)) })
  ends_back ended.LinkFault ends = λ other. λ well. absurd (omega (arith, ends.0, well, fresh.faults))
  ends_back ended.Memory ends = λ other. absurd (other refl)

pub served_back : {T : Type 0} (client : ClientNo) (f g : Told) (p q : Pass T Entry) (e : Ended) (ending : List Entry) → IsFresh f → Served client f g p q e ending → MayComeBack e g
served_back client f g p q e ending fresh s = ends_back f g fresh s.exchanges s.rest s.gave s.talk.bytes s.talk.requests s.talk.taken s.talk.given e s.ends
