use Rattle.std.proofs.Common.{[], ◌∷◌, ◌∙◌, ap}
use Rattle.au_journal.specs.Journals.{disk_of, seat_of}
use Rattle.au_journal.specs.declared.seat.Seat.{Seat}
use Rattle.au_journal.proofs.Holding.{held_after, held_settled, settled_from}
use Rattle.au_journal.proofs.journal.Journal.flip.Goals as goal

pub invariant_of-self-clause-stands : goal.invariant_of-self-clause-stands
invariant_of-self-clause-stands g c =
    let seat = seat_of c.args.self.now in
    let m = g.D.Disk.meaning (disk_of c.args.self.now) in
    let n = g.D.Disk.meaning c.flip_seat.new.disk in
    let body = c.requires.framed.0 in
    held_after g.D.Disk.told m seat c.args.self.now.stands c.requires.ended n c.in-Ok.seat
    (λ told held. held_settled n c.in-Ok.seat (body ∷ [])
    (c.in-Ok.ensures.flipped told held.bodies body c.requires.framed.1 (settled_from m seat held c.requires.settled)) (ap (λ (s : Seat). s.doubt) c.in-Ok.ensures.moves))

pub invariant_of-self-in-Err-clause-stands : goal.invariant_of-self-in-Err-clause-stands
invariant_of-self-in-Err-clause-stands g c =
    let seat = seat_of c.args.self.now in
    let m = g.D.Disk.meaning (disk_of c.args.self.now) in
    let n = g.D.Disk.meaning c.flip_seat.new.disk in
    let body = c.requires.framed.0 in
    held_after g.D.Disk.told m seat c.args.self.now.stands c.requires.ended n c.in-Err.seat
    (λ told held. record {
      ended = c.in-Err.ensures.rests.ended ∙ held.ended;
      bodies = held.bodies;
      others = body ∷ [];
      doubted = c.in-Err.ensures.doubted told held.bodies body c.requires.framed.1 (settled_from m seat held c.requires.settled);
    })

pub invariant_of-self-clause-shown : goal.invariant_of-self-clause-shown
invariant_of-self-clause-shown g c = λ told. c.clear.ensures.shown _

pub invariant_of-self-in-Err-clause-shown : goal.invariant_of-self-in-Err-clause-shown
invariant_of-self-in-Err-clause-shown g c = λ told. c.clear.ensures.shown _
