-- From what a replayed frame makes of a state to what is said of a body, and of an instance that begins over it.
use Rattle.std.proofs.Common.{◌≡◌, ◌↔◌, inl, ℕ, ◌+◌, ◌≤◌, Bool, true, false, if◌then◌else◌, IsTrue, MatchBool, List, ◌++◌, length, Some, Result, Ok, Err, IfOk, OnErr, MatchResult, take, drop, refl, sym, ◌∙◌, ap, subst, arith}
use Rattle.std.proofs.Math.ListN.{drop_of_length-le}
use Rattle.std.proofs.Math.Seq.{take-length}
use Rattle.std.proofs.lemmas.List.{append-nil}
use Rattle.std.proofs.lemmas.Bool.{false≢true}
use Rattle.au_entries.specs.declared.kept.Kept.{Kept}
use Rattle.au_io.specs.Areas.{Areas}
use Rattle.au_io.specs.Disk.{Meaning, Passes}
use Rattle.au_io.specs.Moments.{CountsNow, LeavesSince, OnlyNow, no_call}
use Rattle.au_journal.specs.Causes.{FaultCause}
use Rattle.au_journal.specs.declared.mount_fault.MountFault.{MountFault}
use Rattle.au_journal.specs.Lengths.{gate_bytes}
use Rattle.au_journal.specs.declared.seat.Seat.{Seat}
use Rattle.rec_codec.specs.declared.frame.Frame.{Frame}
use Rattle.rec_codec.specs.Frames.{IsFrame, IsSpellable, framed}
use Rattle.au_entries.specs.Imaging.{nothing}
use Rattle.au_step.specs.Replaying.{EndsWell, IsReplayable, after_frame, IsImage}
use Rattle.au_step.specs.Returning.{LeadsTo, start_frame}
use Rattle.au_step.specs.State.{State, resting, start}
use Rattle.au_store.specs.Recovery.{BeginsBy, GoesOnBy, RecoversToEither, ReplayedTo}
use Rattle.au_store.specs.Looking.{LookCause, LookMeets, LookSays, look_fault_of}
use Rattle.au_store.specs.Starting.{OpenCosts}
use Rattle.au_store.specs.declared.look_fault.LookFault.{LookFault}
use Rattle.au_store.specs.descent.Making.{CarriesTo}
use Rattle.au_store.specs.descent.Opening.{IsRead}
use Rattle.au_store.proofs.Keeping.{settled_kept}
use Rattle.au_store.proofs.Reading.{OneFront, frame_ends, mount_cause, stays_same, wrong_beginning, wrong_going_on}

-- two facts on what was returned
pub ok_both : {X E : Type 0} (r : Result X E) (P Q R : X → Type 0) → IfOk r P → IfOk r Q → ((x : X) → P x → Q x → R x) → IfOk r R
ok_both (Ok x) P Q R p q to = to x p q
ok_both (Err e) P Q R p q to = p

pub match_both : {X E : Type 0} (r : Result X E) (P P2 P3 : X → Type 0) (Q Q2 Q3 : E → Type 0) → MatchResult r P Q → MatchResult r P2 Q2
    → ((x : X) → P x → P2 x → P3 x) → ((e : E) → Q e → Q2 e → Q3 e) → MatchResult r P3 Q3
match_both (Ok x) P P2 P3 Q Q2 Q3 one two to on = to x one two
match_both (Err e) P P2 P3 Q Q2 Q3 one two to on = on e one two

-- a state after a frame was replayed, where it goes on, and else as it was
module _ (m n : State) (f : Frame) where
  resting_by : (done : Bool) → n ≡ (if done then record m { kept = after_frame m.kept f } else m) → m ≡ resting m.kept → n ≡ resting n.kept
  resting_by true is rest =
      let there : n ≡ resting (after_frame m.kept f) = is ∙ ap (λ (s : State). record s { kept = after_frame m.kept f }) rest in
      there ∙ ap (λ (s : State). resting s.kept) (sym there)
  resting_by false is rest = is ∙ rest ∙ ap (λ (s : State). resting s.kept) (sym is)

  ends_by : (done : Bool) → IsTrue done ↔ IsReplayable m.kept f → n ≡ (if done then record m { kept = after_frame m.kept f } else m) → EndsWell m.kept → EndsWell n.kept
  ends_by true rule is ends = subst EndsWell (sym (ap (λ (s : State). s.kept) is)) (frame_ends m.kept f (rule.0 refl))
  ends_by false rule is ends = subst EndsWell (sym (ap (λ (s : State). s.kept) is)) ends

  pub resting_after : {E : Type 0} (r : Result Bool E) → IfOk r (λ done. n ≡ (if done then record m { kept = after_frame m.kept f } else m)) → OnErr r (n ≡ m) → m ≡ resting m.kept → n ≡ resting n.kept
  resting_after (Ok done) is err rest = resting_by done is rest
  resting_after (Err e) is err rest = err ∙ rest ∙ ap (λ (s : State). resting s.kept) (sym err)

  pub ends_after : {E : Type 0} (r : Result Bool E) → IfOk r (λ done. IsTrue done ↔ IsReplayable m.kept f) → IfOk r (λ done. n ≡ (if done then record m { kept = after_frame m.kept f } else m))
      → OnErr r (n ≡ m) → EndsWell m.kept → EndsWell n.kept
  ends_after (Ok done) rule is err ends = ends_by done rule is ends
  ends_after (Err e) rule is err ends = subst EndsWell (sym (ap (λ (s : State). s.kept) err)) ends

  -- where the body is that of the frame
  module _ (body : List ℕ) (is : IsFrame body f) where
    pub gone_by : OneFront → (IsImage f → ⊥) → (done : Bool) → IsTrue done ↔ IsReplayable m.kept f → n ≡ (if done then record m { kept = after_frame m.kept f } else m)
        → MatchBool done (GoesOnBy m.kept body n.kept) ((kept : Kept) → GoesOnBy m.kept body kept → ⊥)
    gone_by one_front no_image true rule makes = record { frame = f; spelled = is; no_image = no_image; replayable = rule.0 refl; makes = ap (λ (s : State). s.kept) makes }
    gone_by one_front no_image false rule makes = wrong_going_on one_front body m.kept f is (λ _ replayable. false≢true (rule.1 replayable))

    pub gone_after : {E : Type 0} → OneFront → (IsImage f → ⊥) → (r : Result Bool E) → IfOk r (λ done. IsTrue done ↔ IsReplayable m.kept f) → IfOk r (λ done. n ≡ (if done then record m { kept = after_frame m.kept f } else m))
        → IfOk r (λ done. MatchBool done (GoesOnBy m.kept body n.kept) ((kept : Kept) → GoesOnBy m.kept body kept → ⊥))
    gone_after one_front no_image (Ok done) rule makes = gone_by one_front no_image done rule makes
    gone_after one_front no_image (Err e) rule makes = tt

  -- where nothing was kept
  module _ (body : List ℕ) (is : IsFrame body f) (blank : m.kept ≡ nothing) where
    pub begun_by : OneFront → IsImage f → (done : Bool) → IsTrue done ↔ IsReplayable m.kept f → n ≡ (if done then record m { kept = after_frame m.kept f } else m)
        → MatchBool done (BeginsBy body n.kept) ((kept : Kept) → BeginsBy body kept → ⊥)
    begun_by one_front image true rule makes = record {
      frame = f;
      spelled = is;
      image = image;
      replayable = subst (λ (k : Kept). IsReplayable k f) blank (rule.0 refl);
      makes = ap (λ (s : State). s.kept) makes ∙ ap (λ (k : Kept). after_frame k f) blank;
    }
    begun_by one_front image false rule makes = wrong_beginning one_front body f is (λ _ replayable. false≢true (rule.1 (subst (λ (k : Kept). IsReplayable k f) (sym blank) replayable)))

    pub begun_after : {E : Type 0} → OneFront → IsImage f → (r : Result Bool E) → IfOk r (λ done. IsTrue done ↔ IsReplayable m.kept f) → IfOk r (λ done. n ≡ (if done then record m { kept = after_frame m.kept f } else m))
        → IfOk r (λ done. MatchBool done (BeginsBy body n.kept) ((kept : Kept) → BeginsBy body kept → ⊥))
    begun_after one_front image (Ok done) rule makes = begun_by one_front image done rule makes
    begun_after one_front image (Err e) rule makes = tt

pub begun_ends : (body : List ℕ) (kept : Kept) → BeginsBy body kept → EndsWell kept
begun_ends body kept by = subst EndsWell (sym by.makes) (frame_ends nothing by.frame by.replayable)

-- the state of the next instance
pub started : (m n : State) (reading : ℕ) (f : Frame) (done : Bool) → m ≡ resting m.kept → f ≡ start_frame m.kept reading → LeadsTo m.kept (Some (start_frame m.kept reading)) (start m.kept reading).kept
    → IsTrue done ↔ IsReplayable m.kept f → n ≡ (if done then record m { kept = after_frame m.kept f } else m) → n ≡ start m.kept reading
started m n reading f done rest is leads rule makes =
    let next = (start m.kept reading).kept in
    let goes : done ≡ true = rule.1 (subst (IsReplayable m.kept) (sym is) leads.0) in
    let kept : after_frame m.kept f ≡ next = ap (after_frame m.kept) is ∙ leads.1 in
    makes
    ∙ ap (λ (b : Bool). if b then record m { kept = after_frame m.kept f } else m) goes
    ∙ ap (λ (k : Kept). record m { kept = k }) kept
    ∙ ap (λ (s : State). record s { kept = next }) rest

-- the event with which it begins goes on from what is kept
pub start_carries : (kept : Kept) (reading : ℕ) (bytes : List ℕ) → bytes ≡ framed (start_frame kept reading) → IsSpellable (start_frame kept reading)
    → LeadsTo kept (Some (start_frame kept reading)) (start kept reading).kept → CarriesTo kept (Some bytes) (start kept reading).kept
start_carries kept reading bytes is spellable leads = (
  start_frame kept reading,
  is,
  record { spellable = spellable; no_image = λ image. image; replayable = leads.0; makes = sym leads.1 },
)

-- before the next instance begins, a crash leaves what is kept
pub unstarted : (m : Meaning) (seat : Seat) (kept next : Kept) → OnlyNow m → seat.bare ≡ false → IsRead m seat kept → LeavesSince (RecoversToEither kept next) m m
unstarted m seat kept next only gated read =
    no_call (RecoversToEither kept next) m only (λ c image. inl ((settled_kept (ReplayedTo kept) m seat read.bodies gated read.settled read.so).leaves c image))

pub no_time : (m : Meaning) → CountsNow m → OnlyNow m → Passes m m
no_time m counts only = (stays_same m counts only).time

-- what was written
pub no_cost : (kept : Kept) (reading before now : ℕ) → now ≡ before → OpenCosts before now
no_cost kept reading before now is = (kept, reading, omega arith)

pub start_cost : (kept : Kept) (reading before now : ℕ) (bytes : List ℕ) → bytes ≡ framed (start_frame kept reading) → now ≤ before + length bytes + gate_bytes true → OpenCosts before now
start_cost kept reading before now bytes is cost = (kept, reading, subst (λ (b : List ℕ). now ≤ before + length b + gate_bytes true) is cost)

-- the count of faults over two parts of a walk
pub meets_after : {T : Type 0} (r : Result T LookFault) (before mid now : ℕ) → mid ≡ before → LookMeets r mid now → LookMeets r before now
meets_after r before mid now is meets = subst (λ (k : ℕ). LookMeets r k now) is meets

pub fault_after : (why : MountFault) (before mid now : ℕ) → mid ≡ before → FaultCause why mid now → LookCause (look_fault_of why) before now
fault_after why before mid now is cause = subst (λ (k : ℕ). LookCause (look_fault_of why) k now) is (mount_cause why mid now cause)

pub cause_after : (why : LookFault) (before mid now : ℕ) → mid ≡ before → LookCause why mid now → LookCause why before now
cause_after why before mid now is cause = subst (λ (k : ℕ). LookCause why k now) is cause

-- what is said of areas that read as they did
pub says_of : (why : LookFault) (old mid : Areas) → mid ≡ old → LookSays mid why → LookSays old why
says_of why old mid is says = subst (λ (all : Areas). LookSays all why) is says

-- bytes that were all written over
pub refilled : (n : ℕ) (room items : List ℕ) → length room ≡ n → length items ≡ n → take n (room ++ drop (length room) items) ≡ room
refilled n room items full size =
    ap (λ (l : List ℕ). take n (room ++ l)) (drop_of_length-le items (omega arith)) ∙ ap (take n) (append-nil room) ∙ ap (λ (k : ℕ). take k room) (sym full) ∙ take-length room
