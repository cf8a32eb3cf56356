-- That a list of entries leads to one place.
use Rattle.std.proofs.Common.{◌≡◌, ℕ, List, [], ◌∷◌, Option, Some, None, sym, ◌∙◌, ap, subst}
use Rattle.au_base.specs.declared.ask.Ask.{Ask}
use Rattle.au_base.specs.declared.numbers.ClientNo.{ClientNo}
use Rattle.au_base.specs.declared.reply.Reply.{Reply}
use Rattle.rec_codec.specs.declared.frame.Frame.{Frame}
use Rattle.au_step.specs.Framing.{event_of}
use Rattle.au_step.specs.State.{State, stamp_of}
use Rattle.au_step.specs.Step.{Event, Logged, LoggedStep, StepAt}
use Rattle.au_store.specs.declared.entry.Entry.{Entry}
use Rattle.au_store.specs.declared.entry.Entry.TheVariants.{Opened, Stepped, Abandoned, Faulted, Filled}
use Rattle.au_store.specs.Doubts.{EventWrites}
use Rattle.au_store.specs.History.{GoesBy, GoesOver, IsStepped, Leads, Reached}
use Rattle.au_store.specs.Kinds.{used_by}
use Rattle.au_store.specs.Steps.{event_at}

-- the engine's laws
abbrev pub OneLogged : Type 0
OneLogged = (m n k : State) (client : ClientNo) (ask : Ask) (stamp : ℕ) (a b : Reply) (l o : Logged) → LoggedStep m client ask stamp a l n → LoggedStep m client ask stamp b o k → (a ≡ b) × (l ≡ o) × (n ≡ k)

abbrev pub OneStep : Type 0
OneStep = (m n k : State) (client : ClientNo) (ask : Ask) (stamp : ℕ) (a b : Reply) → StepAt m client ask stamp a n → StepAt m client ask stamp b k → (a ≡ b) × (n ≡ k)

-- an event writes one frame
pub one_frame : OneLogged → (m n k : State) (event : Event) (one other : Option Frame) → EventWrites m event n one → EventWrites m event k other → one ≡ other
one_frame logged m n k event one other a b =
    let stamp = stamp_of m event.reading in
    let same = logged m n k event.client event.ask stamp a.0 b.0 a.1 b.1 a.2 b.2 in
    a.3 ∙ ap (event_of stamp) same.1 ∙ sym b.3

abbrev at : State → ℕ → ℕ → ℕ → Reached
at state used limit faults = record { state = state; used = used; limit = limit; faults = faults }

one_place : (q r : Reached) → q.state ≡ r.state → q.used ≡ r.used → q.limit ≡ r.limit → q.faults ≡ r.faults → q ≡ r
one_place q r state used limit faults =
    ap (λ (s : State). at s q.used q.limit q.faults) state
    ∙ ap (λ (x : ℕ). at r.state x q.limit q.faults) used
    ∙ ap (λ (x : ℕ). at r.state r.used x q.faults) limit
    ∙ ap (λ (x : ℕ). at r.state r.used r.limit x) faults

module _ (logged : OneLogged) (step : OneStep) where
  one_step : (p q r : Reached) (event : Event) (reply : Reply) → IsStepped p event reply q → IsStepped p event reply r → q ≡ r
  one_step p q r event reply a b =
      let state = (step p.state q.state r.state event.client event.ask (stamp_of p.state event.reading) reply reply a.step b.step).1 in
      let frame = one_frame logged p.state q.state r.state event a.frame b.frame a.writes b.writes in
      one_place q r state
      (a.used ∙ ap (λ (s : State). used_by p.used s.kept a.frame) state ∙ ap (λ (f : Option Frame). used_by p.used r.state.kept f) frame ∙ sym b.used)
      (a.limit ∙ sym b.limit) (a.faults ∙ sym b.faults)

  pub one_entry : (p q r : Reached) (entry : Entry) → GoesBy p entry q → GoesBy p entry r → q ≡ r
  one_entry p q r (Opened m used limit faults doubtful) a b = absurd a
  one_entry p q r (Stepped client ask reading reply) a b = one_step p q r (event_at client ask reading) reply a b
  one_entry p q r (Abandoned client) a b = one_place q r (a.state ∙ sym b.state) (a.used ∙ sym b.used) (a.limit ∙ sym b.limit) (a.faults ∙ sym b.faults)
  one_entry p q r (Faulted client ask (Some reading) count) a b =
      one_place q r (a.1.state ∙ sym b.1.state) (a.1.used ∙ sym b.1.used) (a.1.limit ∙ sym b.1.limit) (a.1.faults ∙ sym b.1.faults)
  one_entry p q r (Faulted client ask None count) a b = one_place q r (a.state ∙ sym b.state) (a.used ∙ sym b.used) (a.limit ∙ sym b.limit) (a.faults ∙ sym b.faults)
  one_entry p q r (Filled client ask reading needed) a b =
      one_place q r (a.1.state ∙ sym b.1.state) (a.1.used ∙ sym b.1.used) (a.1.limit ∙ sym b.1.limit) (a.1.faults ∙ sym b.1.faults)

  one_over : (entries : List Entry) (p q r : Reached) → GoesOver p entries q → GoesOver p entries r → q ≡ r
  one_over [] p q r a b = a ∙ sym b
  one_over (entry ∷ entries) p q r a b =
      one_over entries b.0 q r (subst (λ (x : Reached). GoesOver x entries q) (one_entry p a.0 b.0 entry a.1 b.1) a.2) b.2

  pub one_end_of : (entries : List Entry) (p q : Reached) → Leads entries p → Leads entries q → p ≡ q
  one_end_of [] p q a b = absurd a
  one_end_of (Opened m used limit faults doubtful ∷ entries) p q a b = one_over entries (at m used limit faults) p q a b
  one_end_of (Stepped client ask reading reply ∷ entries) p q a b = absurd a
  one_end_of (Abandoned client ∷ entries) p q a b = absurd a
  one_end_of (Faulted client ask reading count ∷ entries) p q a b = absurd a
  one_end_of (Filled client ask reading needed ∷ entries) p q a b = absurd a
