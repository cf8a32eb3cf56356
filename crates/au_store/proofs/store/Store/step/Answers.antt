use Rattle.std.proofs.Common.{◌≡◌, ◌≢◌, [], inl, ℕ, refl, sym, ◌∙◌, ap, subst, arith}
use Rattle.au_io.specs.Moments.{LeavesSince, both_pass}
use Rattle.au_journal.specs.declared.seat.Seat.{Seat}
use Rattle.au_journal.specs.declared.doubt.Doubt.TheVariants.{Settled}
use Rattle.au_journal.specs.Seats.{mend_bytes, mended}
use Rattle.au_base.specs.declared.reply.Said.TheVariants as said
use Rattle.au_engine.specs.Prepared.{after}
use Rattle.au_step.specs.State.{State}
use Rattle.au_store.specs.Recovery.{RecoversToEither}
use Rattle.au_store.specs.Steps.{Exceeds, HasFrameWithin, StepCause, StepCosts, StepDoubts, StepLeaves, StepMoves, StepsBy, event_at}
use Rattle.au_store.proofs.Going.{mended_moved, same_moved, still_on, tried_goes_on, unmended_goes_on}
use Rattle.au_store.proofs.Stepped.{exceeds_by, exceeds_from, frame_there, frame_within, kept_from, left_full, made_after, mend_leaves, moves_from, reads_from, since_from, since_to, step_costs, step_leaves, step_moves, steps_by, time_from, tried_read, written_from}
use Rattle.au_store.proofs.store.Store.step.Goals as goal

pub returns-in-Disk-clause-any_moment : goal.returns-in-Disk-clause-any_moment
returns-in-Disk-clause-any_moment g c =
    let meaning = g.D.Disk.meaning in
    let s0 = c.args.self.now in
    let s1 = c.mend.new.self in
    λ told doubted stood. mend_leaves s0.state (event_at c.args.client c.args.ask.now s1.reading) doubted (meaning s0.disk) (meaning s1.disk) (c.mend.ensures.any_moment told doubted stood)

pub returns-in-Err-clause-kept : goal.returns-in-Err-clause-kept
returns-in-Err-clause-kept g c =
    let meaning = g.D.Disk.meaning in
    let s0 = c.args.self.now in
    let s1 = c.mend.new.self in
    let s2 = c.prepare.new.self in
    let same = c.prepare.ensures.state ∙ c.mend.ensures.same.0 in
    let disk = c.prepare.ensures.same.0 in
    λ told no_fault. kept_from meaning s1.disk s2.disk disk s0.state.kept s2.state.kept s1.seat s2.seat (ap (λ (s : State). s.kept) same) c.prepare.ensures.same.1 (c.mend.ensures.kept told c.in-Done.is)

pub returns-in-Err-clause-any_moment : goal.returns-in-Err-clause-any_moment
returns-in-Err-clause-any_moment g c =
    let meaning = g.D.Disk.meaning in
    let s0 = c.args.self.now in
    let s1 = c.mend.new.self in
    let s2 = c.prepare.new.self in
    let same = c.prepare.ensures.state ∙ c.mend.ensures.same.0 in
    let disk = c.prepare.ensures.same.0 in
    λ told doubted stood. since_to meaning s1.disk s2.disk disk (StepLeaves s0.state (event_at c.args.client c.args.ask.now s2.reading) doubted) s0.disk
    (mend_leaves s0.state (event_at c.args.client c.args.ask.now s2.reading) doubted (meaning s0.disk) (meaning s1.disk) (c.mend.ensures.any_moment told doubted stood))

pub returns-in-Ok-clause-step : goal.returns-in-Ok-clause-step
returns-in-Ok-clause-step g c =
    let meaning = g.D.Disk.meaning in
    let s0 = c.args.self.now in
    let s1 = c.mend.new.self in
    let s2 = c.prepare.new.self in
    let same = c.prepare.ensures.state ∙ c.mend.ensures.same.0 in
    let disk = c.prepare.ensures.same.0 in
    let s3 = c.make.new.self in
    let ready = c.in-Ok.ready in
    let prepared = ready.prepared in
    let at = event_at c.args.client c.args.ask.now in
    let event = at s2.reading in
    let seat : s2.seat ≡ mended s0.seat = c.prepare.ensures.same.1 ∙ c.mend.ensures.mended c.in-Done.is in
    subst (λ (r : ℕ). StepsBy s0.state (at r) c.make.result s3.state) (sym c.make.ensures.same.1)
    (subst (λ (s : State). StepsBy s event c.make.result s3.state) same
    (steps_by s2.state s3.state event prepared c.make.result c.in-Ok.ensures.step c.make.ensures.made))

pub returns-in-Ok-clause-moves : goal.returns-in-Ok-clause-moves
returns-in-Ok-clause-moves g c =
    let meaning = g.D.Disk.meaning in
    let s0 = c.args.self.now in
    let s1 = c.mend.new.self in
    let s2 = c.prepare.new.self in
    let same = c.prepare.ensures.state ∙ c.mend.ensures.same.0 in
    let disk = c.prepare.ensures.same.0 in
    let s3 = c.make.new.self in
    let ready = c.in-Ok.ready in
    let prepared = ready.prepared in
    let at = event_at c.args.client c.args.ask.now in
    let event = at s2.reading in
    let seat : s2.seat ≡ mended s0.seat = c.prepare.ensures.same.1 ∙ c.mend.ensures.mended c.in-Done.is in
    subst (λ (r : ℕ). StepMoves s0.state (at r) s3.state c.make.result s0.seat s3.seat) (sym c.make.ensures.same.1)
    (subst (λ (s : State). StepMoves s event s3.state c.make.result s0.seat s3.seat) same
    (moves_from s2.state s3.state event s0.seat s2.seat seat c.make.result s3.seat
    (step_moves s2.state event ready c.in-Ok.ensures.ready s3.state c.make.result s2.seat s3.seat c.make.ensures.made c.make.ensures.within c.make.ensures.moved)))

pub returns-in-Ok-clause-full : goal.returns-in-Ok-clause-full
returns-in-Ok-clause-full g c =
    let meaning = g.D.Disk.meaning in
    let s0 = c.args.self.now in
    let s1 = c.mend.new.self in
    let s2 = c.prepare.new.self in
    let same = c.prepare.ensures.state ∙ c.mend.ensures.same.0 in
    let disk = c.prepare.ensures.same.0 in
    let s3 = c.make.new.self in
    let ready = c.in-Ok.ready in
    let prepared = ready.prepared in
    let at = event_at c.args.client c.args.ask.now in
    let event = at s2.reading in
    let seat : s2.seat ≡ mended s0.seat = c.prepare.ensures.same.1 ∙ c.mend.ensures.mended c.in-Done.is in
    λ needed limit is. subst (λ (r : ℕ). Exceeds s0.state (at r) s0.seat needed limit) (sym c.make.ensures.same.1)
    (subst (λ (s : State). Exceeds s event s0.seat needed limit) same
    (exceeds_from s2.state s3.state event s0.seat s2.seat seat needed limit (exceeds_by s2.state event ready c.in-Ok.ensures.ready s2.seat needed limit (c.make.ensures.full needed limit is))))

pub returns-in-Ok-clause-any_moment : goal.returns-in-Ok-clause-any_moment
returns-in-Ok-clause-any_moment g c =
    let meaning = g.D.Disk.meaning in
    let s0 = c.args.self.now in
    let s1 = c.mend.new.self in
    let s2 = c.prepare.new.self in
    let same = c.prepare.ensures.state ∙ c.mend.ensures.same.0 in
    let disk = c.prepare.ensures.same.0 in
    let s3 = c.make.new.self in
    let ready = c.in-Ok.ready in
    let prepared = ready.prepared in
    let at = event_at c.args.client c.args.ask.now in
    let event = at s2.reading in
    let seat : s2.seat ≡ mended s0.seat = c.prepare.ensures.same.1 ∙ c.mend.ensures.mended c.in-Done.is in
    λ told doubted stood. subst (λ (r : ℕ). LeavesSince (StepLeaves s0.state (at r) doubted) (meaning s0.disk) (meaning s3.disk)) (sym c.make.ensures.same.1)
    (subst (λ (s : State). LeavesSince (StepLeaves s event doubted) (meaning s0.disk) (meaning s3.disk)) same
    (let next = (after prepared s2.state).kept in
    step_leaves s2.state event doubted next (meaning s0.disk) (meaning s1.disk) (meaning s3.disk) c.mend.ensures.time (time_from meaning s1.disk s2.disk disk s3.disk c.make.ensures.time)
    (made_after s2.state event prepared c.in-Ok.ensures.step)
    (subst (λ (s : State). LeavesSince (RecoversToEither s.kept doubted) (meaning s0.disk) (meaning s1.disk)) (sym same) (c.mend.ensures.any_moment told doubted stood))
    (since_from meaning s1.disk s2.disk disk (RecoversToEither s2.state.kept next) s3.disk (c.make.ensures.any_moment told))))

pub returns-in-Ok-clause-time : goal.returns-in-Ok-clause-time
returns-in-Ok-clause-time g c =
    let meaning = g.D.Disk.meaning in
    let s0 = c.args.self.now in
    let s1 = c.mend.new.self in
    let s2 = c.prepare.new.self in
    let same = c.prepare.ensures.state ∙ c.mend.ensures.same.0 in
    let disk = c.prepare.ensures.same.0 in
    let s3 = c.make.new.self in
    let ready = c.in-Ok.ready in
    let prepared = ready.prepared in
    let at = event_at c.args.client c.args.ask.now in
    let event = at s2.reading in
    let seat : s2.seat ≡ mended s0.seat = c.prepare.ensures.same.1 ∙ c.mend.ensures.mended c.in-Done.is in
    both_pass (meaning s0.disk) (meaning s1.disk) (meaning s3.disk) c.mend.ensures.time (time_from meaning s1.disk s2.disk disk s3.disk c.make.ensures.time)

pub returns-in-Ok-clause-cost : goal.returns-in-Ok-clause-cost
returns-in-Ok-clause-cost g c =
    let meaning = g.D.Disk.meaning in
    let s0 = c.args.self.now in
    let s1 = c.mend.new.self in
    let s2 = c.prepare.new.self in
    let same = c.prepare.ensures.state ∙ c.mend.ensures.same.0 in
    let disk = c.prepare.ensures.same.0 in
    let s3 = c.make.new.self in
    let ready = c.in-Ok.ready in
    let prepared = ready.prepared in
    let at = event_at c.args.client c.args.ask.now in
    let event = at s2.reading in
    let seat : s2.seat ≡ mended s0.seat = c.prepare.ensures.same.1 ∙ c.mend.ensures.mended c.in-Done.is in
    subst (λ (r : ℕ). StepCosts s0.state (at r) (mend_bytes s0.seat.doubt) c.make.result (meaning s0.disk).written (meaning s3.disk).written) (sym c.make.ensures.same.1)
    (subst (λ (s : State). StepCosts s event (mend_bytes s0.seat.doubt) c.make.result (meaning s0.disk).written (meaning s3.disk).written) same
    (let mid = written_from meaning s1.disk s2.disk disk in
    step_costs s2.state event ready c.in-Ok.ensures.ready (mend_bytes s0.seat.doubt) s3.state c.make.result (meaning s0.disk).written (meaning s3.disk).written c.make.ensures.made
    (omega (arith, mid, c.mend.ensures.cost, c.make.ensures.cost))
    (λ needed limit is. let still = written_from meaning s2.disk s3.disk (c.make.ensures.untouched needed limit is) in omega (arith, mid, still, c.mend.ensures.cost))))

pub returns-in-Ok-clause-cause : goal.returns-in-Ok-clause-cause
returns-in-Ok-clause-cause g c =
    let meaning = g.D.Disk.meaning in
    let s0 = c.args.self.now in
    let s1 = c.mend.new.self in
    let s2 = c.prepare.new.self in
    let same = c.prepare.ensures.state ∙ c.mend.ensures.same.0 in
    let disk = c.prepare.ensures.same.0 in
    let s3 = c.make.new.self in
    let ready = c.in-Ok.ready in
    let prepared = ready.prepared in
    let at = event_at c.args.client c.args.ask.now in
    let event = at s2.reading in
    let seat : s2.seat ≡ mended s0.seat = c.prepare.ensures.same.1 ∙ c.mend.ensures.mended c.in-Done.is in
    subst (λ (x : ℕ). StepCause c.make.result x (g.D.Disk.faults s3.disk)) (ap g.D.Disk.faults disk ∙ c.in-Done.ensures.cause) c.make.ensures.cause

pub returns-in-Err-clause-settled : goal.returns-in-Err-clause-settled
returns-in-Err-clause-settled g c = λ no_fault. ap (λ (s : Seat). s.doubt) (c.prepare.ensures.same.1 ∙ c.mend.ensures.mended c.in-Done.is)

pub returns-in-Disk-clause-tries : goal.returns-in-Disk-clause-tries
returns-in-Disk-clause-tries g c =
    let s0 = c.args.self.now in
    let s1 = c.mend.new.self in
    unmended_goes_on g.D.Disk.told g.D.Disk.meaning g.D.Disk.faults s0 s1 c.args.client c.args.ask.now g.C.Clock.ticking c.mend.ensures.same.0
    (same_moved s0.seat s1.seat (c.mend.ensures.rests c.in-Disk.is)) c.in-Disk.ensures.cause.1 (record {
      failed = refl;
      stood = c.mend.ensures.stood c.in-Disk.is;
      seat = c.mend.ensures.rests c.in-Disk.is;
      clock = c.mend.ensures.same.2;
      reading = c.mend.ensures.same.3;
      cost = c.mend.ensures.cost;
      doubted = λ told doubted stood. c.mend.ensures.doubted told doubted stood c.in-Disk.is;
      any_moment = λ told doubted stood. c.mend.ensures.any_moment told doubted stood;
    })

pub returns-in-Err-clause-tries : goal.returns-in-Err-clause-tries
returns-in-Err-clause-tries g c =
    let s0 = c.args.self.now in
    let s2 = c.prepare.new.self in
    inl (
      record {
        read = tried_read g.C.Clock.ticking s0.clock c.mend.new.self.clock s2.clock s2.clock s2.reading s2.reading c.mend.ensures.same.2 refl refl c.prepare.ensures.reading;
        wrote = λ is. absurd (let no : said.Memory ≡ said.Disk = is in cc);
        doubts = λ told is. absurd (let no : said.Memory ≡ said.Disk = is in cc);
      },
      still_on g.D.Disk.told g.D.Disk.meaning g.D.Disk.faults s0 s2 c.args.client c.args.ask.now (c.prepare.ensures.state ∙ c.mend.ensures.same.0)
          (mended_moved s0.seat s2.seat (c.prepare.ensures.same.1 ∙ c.mend.ensures.mended c.in-Done.is)) (ap g.D.Disk.faults c.prepare.ensures.same.0 ∙ c.in-Done.ensures.cause)
          (ap (λ (s : Seat). s.doubt) (c.prepare.ensures.same.1 ∙ c.mend.ensures.mended c.in-Done.is)),
    )

pub returns-in-Ok-clause-tries : goal.returns-in-Ok-clause-tries
returns-in-Ok-clause-tries g c =
    let meaning = g.D.Disk.meaning in
    let s0 = c.args.self.now in
    let s1 = c.mend.new.self in
    let s2 = c.prepare.new.self in
    let same = c.prepare.ensures.state ∙ c.mend.ensures.same.0 in
    let s3 = c.make.new.self in
    let ready = c.in-Ok.ready in
    let prepared = ready.prepared in
    let at = event_at c.args.client c.args.ask.now in
    let next = (after prepared s2.state).kept in
    tried_goes_on g.D.Disk.told meaning g.D.Disk.faults s0 s3 c.args.client c.args.ask.now g.C.Clock.ticking c.make.result
    (returns-in-Ok-clause-step g c) (returns-in-Ok-clause-moves g c) (returns-in-Ok-clause-full g c) (returns-in-Ok-clause-cause g c) c.make.ensures.settled (record {
      read = tried_read g.C.Clock.ticking s0.clock s1.clock s2.clock s3.clock s2.reading s3.reading c.mend.ensures.same.2 c.make.ensures.same.0 c.make.ensures.same.1 c.prepare.ensures.reading;
      wrote = λ is. subst (λ (r : ℕ). HasFrameWithin s0.state s0.seat (at r)) (sym c.make.ensures.same.1)
          (subst (λ (s : State). HasFrameWithin s s0.seat (at s2.reading)) same
          (subst (λ (x : Seat). HasFrameWithin s2.state x (at s2.reading)) (c.prepare.ensures.same.1 ∙ c.mend.ensures.mended c.in-Done.is)
          (frame_within s2.state (at s2.reading) ready c.in-Ok.ensures.ready s2.seat (c.make.ensures.wrote is) (c.make.ensures.fits is))));
      doubts = λ told is. subst (λ (r : ℕ). StepDoubts s0.state (at r) (meaning s3.disk) s3.seat) (sym c.make.ensures.same.1)
          (subst (λ (s : State). StepDoubts s (at s2.reading) (meaning s3.disk) s3.seat) same
          (next, made_after s2.state (at s2.reading) prepared c.in-Ok.ensures.step, c.make.ensures.doubted told is));
    })

pub make-requires-clause-left : goal.make-requires-clause-left
make-requires-clause-left g c =
    let s2 = c.prepare.new.self in
    let event = event_at c.args.client c.args.ask.now s2.reading in
    λ _ _ some. record {
      from = s2.state;
      event = event;
      gone = [];
      since = refl;
      has_frame = frame_there s2.state event c.in-Ok.ready c.in-Ok.ensures.ready some;
      is_after = made_after s2.state event c.in-Ok.ready.prepared c.in-Ok.ensures.step;
    }

pub returns-in-Disk-clause-in_doubt : goal.returns-in-Disk-clause-in_doubt
returns-in-Disk-clause-in_doubt g c = λ is. subst (λ (s : Seat). s.doubt ≢ Settled) (sym (c.mend.ensures.rests c.in-Disk.is)) (c.mend.ensures.stood c.in-Disk.is)

pub returns-in-Ok-clause-in_doubt : goal.returns-in-Ok-clause-in_doubt
returns-in-Ok-clause-in_doubt g c = λ is. c.make.ensures.in_doubt is

pub returns-in-Err-clause-untouched : goal.returns-in-Err-clause-untouched
returns-in-Err-clause-untouched g c = λ left settled. c.prepare.ensures.same.0 ∙ c.mend.ensures.still settled

pub returns-in-Ok-clause-untouched : goal.returns-in-Ok-clause-untouched
returns-in-Ok-clause-untouched g c = λ left settled.
    let full = left_full c.in-Ok.ready.prepared c.prepare.new.self.state c.make.new.self.state c.make.result c.make.ensures.made left in
    c.make.ensures.untouched full.0 full.1 full.2 ∙ c.prepare.ensures.same.0 ∙ c.mend.ensures.still settled

pub returns-in-Err-clause-mended : goal.returns-in-Err-clause-mended
returns-in-Err-clause-mended g c = λ told left.
    reads_from g.D.Disk.meaning c.mend.new.self.disk c.prepare.new.self.disk c.prepare.ensures.same.0 ∙ c.mend.ensures.reads told c.in-Done.is

pub returns-in-Ok-clause-mended : goal.returns-in-Ok-clause-mended
returns-in-Ok-clause-mended g c = λ told left.
    let full = left_full c.in-Ok.ready.prepared c.prepare.new.self.state c.make.new.self.state c.make.result c.make.ensures.made left in
    reads_from g.D.Disk.meaning c.mend.new.self.disk c.make.new.self.disk (c.make.ensures.untouched full.0 full.1 full.2 ∙ c.prepare.ensures.same.0) ∙ c.mend.ensures.reads told c.in-Done.is
