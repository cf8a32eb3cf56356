use Rattle.std.proofs.Common.{Bool, refl, subst, sym}
use Rattle.au_io.specs.Moments.{LeavesSince, at_last}
use Rattle.au_journal.specs.Frames.{front}
use Rattle.au_journal.specs.Images.{TornEnd, In, MayStandFor}
use Rattle.au_journal.proofs.Leaving.{from_ok}
use Rattle.au_journal.proofs.Steps.{bare_leaves, torn_since}
use Rattle.au_journal.proofs.appending.close_end.Goals as goal

pub returns-then-is_err-clause-doubted : goal.returns-then-is_err-clause-doubted
returns-then-is_err-clause-doubted g c = λ told bodies others settled.
    let laws = g.met.D.Disk g.world.𝓛 g.world.𝓜 g.world.𝓡 ((λ s x. x), (λ x. x), (λ x. x), λ x. x) in
    let seat = c.args.seat in
    let old = g.D.Disk.meaning c.args.disk.now in
    let new = g.D.Disk.meaning c.close_gate.new.disk in
    let F = front seat.limit bodies in
    record {
      placed = record { in_range = settled.placed.in_range; some = settled.placed.some; place = settled.placed.place };
      ended = settled.ended;
      bare = refl;
      leaves = at_last (In seat.area (TornEnd F)) old new (laws.counts_now c.close_gate.new.disk) c.close_gate.ensures.time
          (c.close_gate.ensures.end_any_moment F settled.placed.place (bare_leaves seat bodies old c.requires.bare settled));
    }

pub returns-then-is_err-clause-any_moment : goal.returns-then-is_err-clause-any_moment
returns-then-is_err-clause-any_moment g c = λ told bodies others settled.
    let seat = c.args.seat in
    let old = g.D.Disk.meaning c.args.disk.now in
    let new = g.D.Disk.meaning c.close_gate.new.disk in
    subst (λ (b : Bool). LeavesSince (MayStandFor b seat.limit seat.area bodies seat.area others) old new) (sym c.requires.bare)
    (torn_since seat bodies seat.area others old new
    (c.close_gate.ensures.end_any_moment (front seat.limit bodies) settled.placed.place (bare_leaves seat bodies old c.requires.bare settled)))

pub returns-clause-any_moment : goal.returns-clause-any_moment
returns-clause-any_moment g c = λ told bodies others settled.
    let seat = c.args.seat in
    let old = g.D.Disk.meaning c.args.disk.now in
    let new = g.D.Disk.meaning c.close_gate.new.disk in
    subst (λ (b : Bool). LeavesSince (MayStandFor b seat.limit seat.area bodies seat.area others) old new) (sym c.requires.bare)
    (torn_since seat bodies seat.area others old new
    (c.close_gate.ensures.end_any_moment (front seat.limit bodies) settled.placed.place (bare_leaves seat bodies old c.requires.bare settled)))

pub returns-clause-closed : goal.returns-clause-closed
returns-clause-closed g c = λ told bodies settled.
    let seat = c.args.seat in
    let old = g.D.Disk.meaning c.args.disk.now in
    let F = front seat.limit bodies in
    record {
      placed = record { in_range = settled.placed.in_range; some = settled.placed.some; place = settled.placed.place };
      ended = settled.ended;
      leaves = from_ok c.close_gate.result _ c.if-is_err.ensures.value
          (c.close_gate.ensures.end_closed told F settled.placed.place (bare_leaves seat bodies old c.requires.bare settled));
    }
