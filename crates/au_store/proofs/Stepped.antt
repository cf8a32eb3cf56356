-- From what a prepared step makes to what a step of the store does, over plain variables.
use Rattle.std.proofs.Common.{◌≡◌, inl, inr, ⊎_elim, ℕ, ◌+◌, ◌≤◌, List, length, Option, Some, refl, sym, ◌∙◌, ap, subst, arith}
use Rattle.au_base.specs.declared.reply.Reply.{Reply}
use Rattle.au_base.specs.declared.reply.Said.{Said}
use Rattle.au_base.specs.declared.reply.Said.TheVariants as said
use Rattle.au_entries.specs.declared.kept.Kept.{Kept}
use Rattle.au_engine.specs.declared.prepared.Prepared.{Prepared}
use Rattle.au_engine.specs.Prepared.{after}
use Rattle.au_step.specs.State.{State, stamp_of}
use Rattle.au_step.specs.Step.{Event, Step}
use Rattle.au_io.specs.Areas.{Areas}
use Rattle.au_io.specs.Disk.{Meaning, Passes}
use Rattle.au_io.specs.Moments.{LeavesSince, weaker_since, both_calls}
use Rattle.au_io.specs.Time.{Reads, Ticking}
use Rattle.au_journal.specs.declared.seat.Seat.{Seat}
use Rattle.au_journal.specs.Seats.{mended, needed_of}
use Rattle.rec_codec.specs.declared.frame.Frame.{Frame}
use Rattle.au_store.specs.Recovery.{RecoversTo, RecoversToEither}
use Rattle.au_store.specs.Doubts.{EventWrites, HasFrame, IsAfter}
use Rattle.au_store.specs.Stored.{IsKeptOn}
use Rattle.au_store.specs.Kinds.{GoesOnSeat}
use Rattle.au_store.specs.Steps.{Exceeds, EventCosts, FitsUnder, HasFrameWithin, IsLeftOut, IsMovedTo, IsWritten, StepCosts, StepLeaves, StepMoves, StepsBy}
use Rattle.au_store.specs.declared.ready.Ready.{Ready}
use Rattle.au_store.specs.descent.Making.{IsFullFor, IsMoved, IsReady, IsRoomFor, MakesBy, WritesSome, cost_of_written, written_in}
use Rattle.au_store.proofs.EventFrames.{cost_frame, fits_frame, frame_appended, frame_written, goes_on_seat}

-- the state and the reply
pub steps_by : (m n : State) (event : Event) (prepared : Prepared) (answer : Said) → Step m event prepared.reply (after prepared m) → MakesBy prepared m answer n → StepsBy m event answer n
steps_by m n event prepared (said.Replied reply) step made =
    subst (λ (r : Reply). Step m event r n) (sym made.0) (subst (λ (s : State). Step m event prepared.reply s) (sym made.1) step)
steps_by m n event prepared said.Disk step made = made
steps_by m n event prepared (said.Full needed limit) step made = made
steps_by m n event prepared said.Memory step made = absurd made

-- what is left out of a prepared step needs no memory
pub left_full : (prepared : Prepared) (m n : State) (answer : Said) → MakesBy prepared m answer n → IsLeftOut answer → (needed : ℕ) × (limit : ℕ) × (answer ≡ said.Full needed limit)
left_full prepared m n (said.Replied reply) made left = absurd left
left_full prepared m n said.Disk made left = absurd left
left_full prepared m n (said.Full needed limit) made left = (needed, limit, refl)
left_full prepared m n said.Memory made left = absurd made

module _ (m : State) (event : Event) (ready : Ready) (r : IsReady m event.client event.ask (stamp_of m event.reading) ready) where
  abbrev reached : State
  reached = after ready.prepared m

  -- where the journal stands then
  pub step_moves : (n : State) (answer : Said) (old new : Seat) → MakesBy ready.prepared m answer n
      → ((reply : Reply) → answer ≡ said.Replied reply → IsRoomFor old (written_in ready)) → IsMoved answer (written_in ready) old new → StepMoves m event n answer old new
  step_moves n (said.Replied reply) old new made room moved =
      let is : n ≡ reached = made.1 in
      let here : IsWritten m event reached old new =
      record {
        frame = r.writes.frame;
        of_event = r.writes.of_step;
        within = fits_frame old reached.kept r.writes.frame (written_in ready) r.suits (room reply refl);
        moved = goes_on_seat reached.kept r.writes.frame (written_in ready) old new r.suits moved;
      } in
      subst (λ (s : State). IsWritten m event s old new) (sym is) here
  step_moves n said.Disk old new made room moved = moved
  step_moves n (said.Full needed limit) old new made room moved = moved
  step_moves n said.Memory old new made room moved = absurd made

  -- what was written
  pub event_costs : (mend before now : ℕ) → now ≤ before + mend + cost_of_written (written_in ready) → EventCosts m event mend before now
  event_costs mend before now cost =
      (reached, r.writes.frame, r.writes.of_step, omega (arith, cost, cost_frame reached.kept r.writes.frame (written_in ready) r.suits))

  pub step_costs : (mend : ℕ) (n : State) (answer : Said) (before now : ℕ) → MakesBy ready.prepared m answer n → now ≤ before + mend + cost_of_written (written_in ready)
      → ((needed limit : ℕ) → answer ≡ said.Full needed limit → now ≤ before + mend) → StepCosts m event mend answer before now
  step_costs mend n (said.Replied reply) before now made cost full = event_costs mend before now cost
  step_costs mend n said.Disk before now made cost full = inr (event_costs mend before now cost)
  step_costs mend n (said.Full needed limit) before now made cost full = full needed limit refl
  step_costs mend n said.Memory before now made cost full = absurd made

  -- where there is something to write
  frame_is : (f : Frame) → r.writes.frame ≡ Some f → EventWrites m event reached (Some f)
  frame_is f is = subst (λ (o : Option Frame). EventWrites m event reached o) is r.writes.of_step

  pub frame_there : WritesSome (written_in ready) → HasFrame m event
  frame_there some =
      let found = frame_written reached.kept r.writes.frame (written_in ready) r.suits some in
      (reached, found.0, frame_is found.0 found.1)

  -- and it fits
  pub frame_within : (seat : Seat) → WritesSome (written_in ready) → IsRoomFor seat (written_in ready) → HasFrameWithin m seat event
  frame_within seat some room =
      let found = frame_written reached.kept r.writes.frame (written_in ready) r.suits some in (
        reached,
        found.0,
        frame_is found.0 found.1,
        subst (λ (o : Option Frame). FitsUnder seat o) found.1 (fits_frame seat reached.kept r.writes.frame (written_in ready) r.suits room),
      )

  -- where it is too long
  pub exceeds_by : (seat : Seat) (needed limit : ℕ) → IsFullFor seat (written_in ready) needed limit → Exceeds m event seat needed limit
  exceeds_by seat needed limit full =
      let found = frame_appended reached.kept r.writes.frame (written_in ready) full.0 r.suits full.1 in
      record {
        after = reached;
        frame = found.0;
        writes = frame_is found.0 found.1;
        charged = found.3;
        needs = full.2.needed_is ∙ ap (λ (b : List ℕ). needed_of seat (length b)) found.2;
        bound = full.2.limit_is;
        exceeds = full.2.exceeds;
      }

-- what the event would leave
pub made_after : (m : State) (event : Event) (prepared : Prepared) → Step m event prepared.reply (after prepared m) → IsAfter m event (after prepared m).kept
made_after m event prepared step = (after prepared m, prepared.reply, step, refl)

-- at any moment of a mend, and of the append behind it
pub mend_leaves : (m : State) (event : Event) (doubted : Kept) (old new : Meaning) → LeavesSince (RecoversToEither m.kept doubted) old new → LeavesSince (StepLeaves m event doubted) old new
mend_leaves m event doubted old new leaves = weaker_since (RecoversToEither m.kept doubted) (StepLeaves m event doubted) old new
    (λ c either. ⊎_elim (λ (kept : RecoversTo m.kept c). inl kept) (λ (other : RecoversTo doubted c). inr (inl other)) either) leaves

pub append_leaves : (m : State) (event : Event) (doubted next : Kept) (old new : Meaning) → IsAfter m event next → LeavesSince (RecoversToEither m.kept next) old new → LeavesSince (StepLeaves m event doubted) old new
append_leaves m event doubted next old new is leaves = weaker_since (RecoversToEither m.kept next) (StepLeaves m event doubted) old new
    (λ c either. ⊎_elim (λ (kept : RecoversTo m.kept c). inl kept) (λ (other : RecoversTo next c). inr (inr (next, is, other))) either) leaves

pub step_leaves : (m : State) (event : Event) (doubted next : Kept) (old mid new : Meaning) → Passes old mid → Passes mid new → IsAfter m event next
    → LeavesSince (RecoversToEither m.kept doubted) old mid → LeavesSince (RecoversToEither m.kept next) mid new → LeavesSince (StepLeaves m event doubted) old new
step_leaves m event doubted next old mid new before then is first second =
    both_calls (StepLeaves m event doubted) old mid new before then (mend_leaves m event doubted old mid first) (append_leaves m event doubted next mid new is second)

-- where a mend came first
module _ (m n : State) (event : Event) (old mid : Seat) (is : mid ≡ mended old) where
  pub exceeds_from : (needed limit : ℕ) → Exceeds m event mid needed limit → Exceeds m event old needed limit
  exceeds_from needed limit exceeds =
      let there = subst (λ (s : Seat). Exceeds m event s needed limit) is exceeds in
      record { after = there.after; frame = there.frame; writes = there.writes; charged = there.charged; needs = there.needs; bound = there.bound; exceeds = there.exceeds }

  moved_from : (k : ℕ) (new : Seat) → IsMovedTo k mid new → IsMovedTo k old new
  moved_from k new moved = let there = subst (λ (s : Seat). IsMovedTo k s new) is moved in record { used = there.used; area = there.area; limit = there.limit }

  fits_from : (frame : Option Frame) → FitsUnder mid frame → FitsUnder old frame
  fits_from frame fits = subst (λ (s : Seat). FitsUnder s frame) is fits

  goes_from : (kept : Kept) (frame : Option Frame) (new : Seat) → GoesOnSeat kept frame mid new → GoesOnSeat kept frame old new
  goes_from kept frame new moved = let there = subst (λ (s : Seat). GoesOnSeat kept frame s new) is moved in record { used = there.used; area = there.area; limit = there.limit }

  pub moves_from : (answer : Said) (new : Seat) → StepMoves m event n answer mid new → StepMoves m event n answer old new
  moves_from (said.Replied reply) new moves = record {
    frame = moves.frame;
    of_event = moves.of_event;
    within = fits_from moves.frame moves.within;
    moved = goes_from n.kept moves.frame new moves.moved;
  }
  moves_from said.Disk new moves = moved_from 0 new moves
  moves_from (said.Full needed limit) new moves = moved_from 0 new moves
  moves_from said.Memory new moves = moved_from 0 new moves

-- the clock was read in the second of three calls
pub tried_read : {C : Type 0} (ticking : C → Option Ticking) (c0 c1 c2 c3 : C) (r2 r3 : ℕ) → c1 ≡ c0 → c3 ≡ c2 → r3 ≡ r2 → Reads (ticking c1) (ticking c2) r2 → Reads (ticking c0) (ticking c3) r3
tried_read {C = C} ticking c0 c1 c2 c3 r2 r3 first last reading read =
    subst (λ (x : C). Reads (ticking x) (ticking c3) r3) first (subst (λ (x : C). Reads (ticking c1) (ticking x) r3) (sym last) (subst (λ (r : ℕ). Reads (ticking c1) (ticking c2) r) (sym reading) read))

-- the same at equal disks, seats and states
module _ {D : Type 0} (meaning : D → Meaning) (disk mid : D) (is : mid ≡ disk) where
  pub kept_from : (kept next : Kept) (old new : Seat) → next ≡ kept → new ≡ old → IsKeptOn kept (meaning disk) old → IsKeptOn next (meaning mid) new
  kept_from kept next old new same seat here =
      subst (λ (k : Kept). IsKeptOn k (meaning mid) new) (sym same)
      (subst (λ (s : Seat). IsKeptOn kept (meaning mid) s) (sym seat) (subst (λ (d : D). IsKeptOn kept (meaning d) old) (sym is) here))

  pub time_from : (new : D) → Passes (meaning mid) (meaning new) → Passes (meaning disk) (meaning new)
  time_from new time = subst (λ (d : D). Passes (meaning d) (meaning new)) is time

  pub since_from : (X : Areas → Type 0) (new : D) → LeavesSince X (meaning mid) (meaning new) → LeavesSince X (meaning disk) (meaning new)
  since_from X new leaves = subst (λ (d : D). LeavesSince X (meaning d) (meaning new)) is leaves

  pub since_to : (X : Areas → Type 0) (old : D) → LeavesSince X (meaning old) (meaning disk) → LeavesSince X (meaning old) (meaning mid)
  since_to X old leaves = subst (λ (d : D). LeavesSince X (meaning old) (meaning d)) (sym is) leaves

  pub written_from : (meaning mid).written ≡ (meaning disk).written
  written_from = ap (λ (d : D). (meaning d).written) is

  pub reads_from : (meaning mid).reads ≡ (meaning disk).reads
  reads_from = ap (λ (d : D). (meaning d).reads) is
