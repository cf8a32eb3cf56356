use Rattle.std.proofs.Common.{Bool, false, List, ℕ, [], ◌∷◌, ◌++◌, refl, subst, sym}
use Rattle.au_io.specs.Moments.{Leaves, LeavesSince, at_last, both_calls}
use Rattle.au_journal.specs.Frames.{front, spelled, framed_of}
use Rattle.au_journal.specs.Images.{Closed, Staged, Doubted, EndsIn, In, MayStandFor}
use Rattle.au_journal.proofs.Leaving.{from_ok}
use Rattle.au_journal.proofs.Steps.{gate_leaves, frame_read, closed_since, doubted_since, appended_settled}
use Rattle.au_journal.proofs.appending.add_frame.Goals as goal

pub returns-then-is_err-clause-doubted : goal.returns-then-is_err-clause-doubted
returns-then-is_err-clause-doubted g c = λ told bodies body is settled.
    let laws = g.met.D.Disk g.world.𝓛 g.world.𝓜 g.world.𝓡 ((λ s x. x), (λ x. x), (λ x. x), λ x. x) in
    let seat = c.args.seat in
    let old = g.D.Disk.meaning c.args.disk.now in
    let mid = g.D.Disk.meaning c.stage.new.disk in
    let F = front seat.limit bodies in
    let leaves = c.stage.ensures.any_moment F settled.placed.place (gate_leaves seat bodies old c.requires.gated settled) in
    record {
      placed = record { in_range = settled.placed.in_range; some = settled.placed.some; place = settled.placed.place };
      ended = settled.ended;
      leaves = subst (λ (b : Bool). Leaves (In seat.area (EndsIn b F)) mid) (sym c.requires.gated)
          (at_last (In seat.area (Closed F)) old mid (laws.counts_now c.stage.new.disk) c.stage.ensures.time leaves);
    }

pub returns-then-is_err-clause-any_moment : goal.returns-then-is_err-clause-any_moment
returns-then-is_err-clause-any_moment g c = λ told bodies body is settled.
    let seat = c.args.seat in
    let old = g.D.Disk.meaning c.args.disk.now in
    let mid = g.D.Disk.meaning c.stage.new.disk in
    subst (λ (b : Bool). LeavesSince (MayStandFor b seat.limit seat.area bodies seat.area (bodies ++ body ∷ [])) old mid) (sym c.requires.gated)
    (closed_since seat bodies seat.area (bodies ++ body ∷ []) old mid false settled.placed
    (c.stage.ensures.any_moment (front seat.limit bodies) settled.placed.place (gate_leaves seat bodies old c.requires.gated settled)))

pub returns-then-is_err-2-clause-doubted : goal.returns-then-is_err-2-clause-doubted
returns-then-is_err-2-clause-doubted g c = λ told bodies body is settled.
    let laws = g.met.D.Disk g.world.𝓛 g.world.𝓜 g.world.𝓡 ((λ s x. x), (λ x. x), (λ x. x), λ x. x) in
    let seat = c.args.seat in
    let old = g.D.Disk.meaning c.args.disk.now in
    let mid = g.D.Disk.meaning c.stage.new.disk in
    let new = g.D.Disk.meaning c.open_gate.new.disk in
    let F = front seat.limit bodies in
    let place = settled.placed.place in
    let staged = subst (λ (l : List ℕ). Leaves (In seat.area (Staged F l)) mid) is.is
    (from_ok c.stage.result _ c.if-is_err.ensures.value (c.stage.ensures.staged told F place (gate_leaves seat bodies old c.requires.gated settled))) in
    record {
      placed = record { in_range = settled.placed.in_range; some = settled.placed.some; place = place };
      ended = settled.ended;
      gated = c.requires.gated;
      body = body;
      some = is.some;
      more = refl;
      leaves = at_last (In seat.area (Doubted F (framed_of body))) mid new (laws.counts_now c.open_gate.new.disk) c.open_gate.ensures.time
          (c.open_gate.ensures.any_moment F (framed_of body) place staged);
    }

pub returns-then-is_err-2-clause-any_moment : goal.returns-then-is_err-2-clause-any_moment
returns-then-is_err-2-clause-any_moment g c = λ told bodies body is settled.
    let seat = c.args.seat in
    let old = g.D.Disk.meaning c.args.disk.now in
    let mid = g.D.Disk.meaning c.stage.new.disk in
    let new = g.D.Disk.meaning c.open_gate.new.disk in
    let F = front seat.limit bodies in
    let place = settled.placed.place in
    let leaves = gate_leaves seat bodies old c.requires.gated settled in
    let staged = subst (λ (l : List ℕ). Leaves (In seat.area (Staged F l)) mid) is.is
    (from_ok c.stage.result _ c.if-is_err.ensures.value (c.stage.ensures.staged told F place leaves)) in
    subst (λ (b : Bool). LeavesSince (MayStandFor b seat.limit seat.area bodies seat.area (bodies ++ body ∷ [])) old new) (sym c.requires.gated)
    (both_calls (MayStandFor false seat.limit seat.area bodies seat.area (bodies ++ body ∷ [])) old mid new c.stage.ensures.time c.open_gate.ensures.time
    (closed_since seat bodies seat.area (bodies ++ body ∷ []) old mid false settled.placed (c.stage.ensures.any_moment F place leaves))
    (doubted_since seat bodies mid new body is.some settled.placed (c.open_gate.ensures.any_moment F (framed_of body) place staged)))

pub returns-clause-appended : goal.returns-clause-appended
returns-clause-appended g c = λ told bodies body is settled.
    let seat = c.args.seat in
    let old = g.D.Disk.meaning c.args.disk.now in
    let mid = g.D.Disk.meaning c.stage.new.disk in
    let new = g.D.Disk.meaning c.open_gate.new.disk in
    let F = front seat.limit bodies in
    let place = settled.placed.place in
    let staged = subst (λ (l : List ℕ). Leaves (In seat.area (Staged F l)) mid) is.is
    (from_ok c.stage.result _ c.if-is_err.ensures.value (c.stage.ensures.staged told F place (gate_leaves seat bodies old c.requires.gated settled))) in
    appended_settled seat bodies new c.args.framed.now body is settled.placed settled.ended
    (from_ok c.open_gate.result _ c.if-is_err-2.ensures.value (c.open_gate.ensures.opened told F (spelled body) place staged))

pub returns-clause-any_moment : goal.returns-clause-any_moment
returns-clause-any_moment g c = λ told bodies body is settled.
    let seat = c.args.seat in
    let old = g.D.Disk.meaning c.args.disk.now in
    let mid = g.D.Disk.meaning c.stage.new.disk in
    let new = g.D.Disk.meaning c.open_gate.new.disk in
    let F = front seat.limit bodies in
    let place = settled.placed.place in
    let leaves = gate_leaves seat bodies old c.requires.gated settled in
    let staged = subst (λ (l : List ℕ). Leaves (In seat.area (Staged F l)) mid) is.is
    (from_ok c.stage.result _ c.if-is_err.ensures.value (c.stage.ensures.staged told F place leaves)) in
    subst (λ (b : Bool). LeavesSince (MayStandFor b seat.limit seat.area bodies seat.area (bodies ++ body ∷ [])) old new) (sym c.requires.gated)
    (both_calls (MayStandFor false seat.limit seat.area bodies seat.area (bodies ++ body ∷ [])) old mid new c.stage.ensures.time c.open_gate.ensures.time
    (closed_since seat bodies seat.area (bodies ++ body ∷ []) old mid false settled.placed (c.stage.ensures.any_moment F place leaves))
    (doubted_since seat bodies mid new body is.some settled.placed (c.open_gate.ensures.any_moment F (framed_of body) place staged)))

pub returns-clause-reads : goal.returns-clause-reads
returns-clause-reads g c = λ told.
    let seat = c.args.seat in
    let old = g.D.Disk.meaning c.args.disk.now in
    let mid = g.D.Disk.meaning c.stage.new.disk in
    let new = g.D.Disk.meaning c.open_gate.new.disk in
    frame_read seat.area seat.used c.args.framed.now old.reads mid.reads new.reads (c.requires.within told)
    (from_ok c.stage.result _ c.if-is_err.ensures.value (c.stage.ensures.reads told)) (from_ok c.open_gate.result _ c.if-is_err-2.ensures.value (c.open_gate.ensures.reads told))

pub returns-clause-safe : goal.returns-clause-safe
returns-clause-safe g c = from_ok c.open_gate.result _ c.if-is_err-2.ensures.value c.open_gate.ensures.safe
