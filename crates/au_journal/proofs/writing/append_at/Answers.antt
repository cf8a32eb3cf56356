use Rattle.std.proofs.Common.{◌≡◌, Bool, true, OnOk, [], ◌∷◌, ◌++◌, sym, subst}
use Rattle.au_io.specs.Moments.{LeavesSince, both_calls}
use Rattle.au_journal.specs.declared.seat.Seat.{Seat}
use Rattle.au_journal.specs.Images.{IsSafe, MayStandFor}
use Rattle.au_journal.specs.Seats.{with_frame}
use Rattle.au_journal.proofs.Leaving.{on_ok}
use Rattle.au_journal.proofs.Steps.{gate_then_frame, true_since}
use Rattle.au_journal.proofs.writing.append_at.Goals as goal

pub returns-in-Ok-clause-any_moment : goal.returns-in-Ok-clause-any_moment
returns-in-Ok-clause-any_moment g c = λ told bodies body is settled.
    let seat = c.args.seat in
    let old = g.D.Disk.meaning c.args.disk.now in
    let mid = g.D.Disk.meaning c.close_end.new.disk in
    let new = g.D.Disk.meaning c.add_frame.new.disk in
    let others = bodies ++ body ∷ [] in
    let Q : Seat → Type 0 = λ s. LeavesSince (MayStandFor s.bare s.limit s.area bodies s.area others) mid new in
    let first = subst (λ (b : Bool). LeavesSince (MayStandFor b seat.limit seat.area bodies seat.area others) old mid) c.if-seat.true (c.close_end.ensures.any_moment told bodies others settled) in
    let second = subst Q c.in-Ok.ensures.advances (c.add_frame.ensures.any_moment told bodies body is (c.in-Ok.ensures.closed told bodies settled)) in
    subst (λ (b : Bool). LeavesSince (MayStandFor b seat.limit seat.area bodies seat.area others) old new) (sym c.if-seat.true)
    (both_calls (MayStandFor true seat.limit seat.area bodies seat.area others) old mid new c.close_end.ensures.time c.add_frame.ensures.time
    first (true_since seat bodies seat.area others mid new second))

pub returns-in-Ok-clause-reads : goal.returns-in-Ok-clause-reads
returns-in-Ok-clause-reads g c = λ told.
    let seat = c.args.seat in
    let old = g.D.Disk.meaning c.args.disk.now in
    let mid = g.D.Disk.meaning c.close_end.new.disk in
    let new = g.D.Disk.meaning c.add_frame.new.disk in
    let Q : Seat → Type 0 = λ s. OnOk c.add_frame.result (new.reads ≡ with_frame s c.args.framed.now mid.reads) in
    on_ok c.add_frame.result _ _ (λ reads.
    gate_then_frame seat.area seat.used c.args.framed.now old.reads mid.reads new.reads (c.requires.within told) (c.in-Ok.ensures.reads told) reads)
    (subst Q c.in-Ok.ensures.advances (c.add_frame.ensures.reads told))

pub returns-in-Ok-clause-safe : goal.returns-in-Ok-clause-safe
returns-in-Ok-clause-safe g c =
    let new = g.D.Disk.meaning c.add_frame.new.disk in
    let Q : Seat → Type 0 = λ s. OnOk c.add_frame.result (IsSafe s.area new) in
    subst Q c.in-Ok.ensures.advances c.add_frame.ensures.safe
