use Rattle.std.proofs.Common.{[], ◌∷◌, ◌++◌, ◌∙◌, ap}
use Rattle.au_io.specs.Moments.{no_call}
use Rattle.au_journal.specs.Journals.{disk_of, seat_of}
use Rattle.au_journal.specs.Seats.{MayLeave}
use Rattle.au_journal.specs.declared.seat.Seat.{Seat}
use Rattle.au_journal.proofs.Holding.{held_after, held_settled, settled_from}
use Rattle.au_journal.proofs.Steps.{settled_leaves}
use Rattle.au_journal.proofs.journal.Journal.append.Goals as goal

pub invariant_of-self-clause-stands : goal.invariant_of-self-clause-stands
invariant_of-self-clause-stands g c =
    let seat = seat_of c.args.self.now in
    let m = g.D.Disk.meaning (disk_of c.args.self.now) in
    let n = g.D.Disk.meaning c.append_at.new.disk in
    let new = c.in-Ok.seat in
    let body = c.requires.framed.0 in
    held_after g.D.Disk.told m seat c.args.self.now.stands c.requires.ended n new
    (λ told held. held_settled n new (held.bodies ++ body ∷ [])
    (c.in-Ok.ensures.appended told held.bodies body c.requires.framed.1 (settled_from m seat held c.requires.settled)) (ap (λ (s : Seat). s.doubt) c.in-Ok.ensures.advances))

pub invariant_of-self-in-Err-clause-stands : goal.invariant_of-self-in-Err-clause-stands
invariant_of-self-in-Err-clause-stands g c =
    let seat = seat_of c.args.self.now in
    let m = g.D.Disk.meaning (disk_of c.args.self.now) in
    let n = g.D.Disk.meaning c.append_at.new.disk in
    let body = c.requires.framed.0 in
    held_after g.D.Disk.told m seat c.args.self.now.stands c.requires.ended n c.in-Err.seat
    (λ told held. record {
      ended = c.in-Err.ensures.rests.ended ∙ held.ended;
      bodies = held.bodies;
      others = held.bodies ++ body ∷ [];
      doubted = c.in-Err.ensures.doubted told held.bodies body c.requires.framed.1 (settled_from m seat held c.requires.settled);
    })

pub returns-then-needed-limit-clause-any_moment : goal.returns-then-needed-limit-clause-any_moment
returns-then-needed-limit-clause-any_moment g c = λ told bodies body is settled.
    let laws = g.met.D.Disk g.world.𝓛 g.world.𝓜 g.world.𝓡 ((λ s x. x), (λ x. x), (λ x. x), λ x. x) in
    let seat = seat_of c.args.self.now in
    let m = g.D.Disk.meaning (disk_of c.args.self.now) in
    let others = bodies ++ body ∷ [] in
    no_call (MayLeave seat bodies seat.area others) m (laws.only_now (disk_of c.args.self.now)) (settled_leaves seat bodies seat.area others m settled)

pub invariant_of-self-clause-shown : goal.invariant_of-self-clause-shown
invariant_of-self-clause-shown g c = λ told. c.clear.ensures.shown _

pub invariant_of-self-in-Err-clause-shown : goal.invariant_of-self-in-Err-clause-shown
invariant_of-self-in-Err-clause-shown g c = λ told. c.clear.ensures.shown _
