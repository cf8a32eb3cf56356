use Rattle.std.proofs.Common.{[], ◌∷◌, ◌++◌, length, sym, ap, arith}
use Rattle.std.proofs.lemmas.Bool.{false≢true}
use Rattle.au_journal.specs.declared.seat.Seat.{Seat}
use Rattle.au_journal.specs.Journals.{disk_of, seat_of}
use Rattle.rec_codec.specs.Frames.{spelled}
use Rattle.au_store.specs.Recovery.{ReplayedTo}
use Rattle.au_store.proofs.Frames.{carried_by, is_framed, replayed_push}
use Rattle.au_store.proofs.Keeping.{appended_kept, either_since}
use Rattle.au_store.proofs.Reading.{two_gates}
use Rattle.au_store.proofs.starting.write_start.Goals as goal

pub append-requires-clause-framed : goal.append-requires-clause-framed
append-requires-clause-framed g c = λ _ _.
    let k = c.requires.carries.2 in
    (spelled k.0, is_framed c.args.framed.now k.0 k.1)

pub returns-in-Done-clause-kept : goal.returns-in-Done-clause-kept
returns-in-Done-clause-kept g c = λ told kept next read k.
    let old = seat_of c.args.journal.now in
    let new = c.append.new.self in
    let bytes = c.args.framed.now in
    let body = spelled k.0 in
    appended_kept (ReplayedTo next) (g.D.Disk.meaning (disk_of new)) (seat_of new) read.bodies body (length bytes) old (c.append.ensures.advances c.in-Done.is)
    (c.append.ensures.appended told read.bodies body (is_framed bytes k.0 k.1) read.settled c.in-Done.is)
    (replayed_push read.bodies kept next body read.so (carried_by kept next k.0 k.2))

pub returns-in-Done-clause-moved : goal.returns-in-Done-clause-moved
returns-in-Done-clause-moved g c =
    let is = c.append.ensures.advances c.in-Done.is in
    record { used = ap (λ (s : Seat). s.used) is; area = ap (λ (s : Seat). s.area) is; limit = ap (λ (s : Seat). s.limit) is }

pub returns-in-Done-clause-any_moment : goal.returns-in-Done-clause-any_moment
returns-in-Done-clause-any_moment g c = λ told kept next read k gated.
    let old = c.args.journal.now in
    let new = c.append.new.self in
    let bytes = c.args.framed.now in
    let body = spelled k.0 in
    either_since (ReplayedTo kept) (ReplayedTo next) (seat_of old) read.bodies (seat_of old).area (read.bodies ++ body ∷ [])
    (g.D.Disk.meaning (disk_of old)) (g.D.Disk.meaning (disk_of new)) gated read.so (replayed_push read.bodies kept next body read.so (carried_by kept next k.0 k.2))
    (c.append.ensures.any_moment told read.bodies body (is_framed bytes k.0 k.1) read.settled)

pub returns-in-Disk-clause-any_moment : goal.returns-in-Disk-clause-any_moment
returns-in-Disk-clause-any_moment g c = λ told kept next read k gated.
    let old = c.args.journal.now in
    let new = c.append.new.self in
    let bytes = c.args.framed.now in
    let body = spelled k.0 in
    either_since (ReplayedTo kept) (ReplayedTo next) (seat_of old) read.bodies (seat_of old).area (read.bodies ++ body ∷ [])
    (g.D.Disk.meaning (disk_of old)) (g.D.Disk.meaning (disk_of new)) gated read.so (replayed_push read.bodies kept next body read.so (carried_by kept next k.0 k.2))
    (c.append.ensures.any_moment told read.bodies body (is_framed bytes k.0 k.1) read.settled)

pub returns-in-Done-clause-cost : goal.returns-in-Done-clause-cost
returns-in-Done-clause-cost g c = omega (arith, two_gates (seat_of c.args.journal.now).bare, c.append.ensures.cost)

pub returns-in-Disk-clause-cost : goal.returns-in-Disk-clause-cost
returns-in-Disk-clause-cost g c = omega (arith, two_gates (seat_of c.args.journal.now).bare, c.append.ensures.cost)

pub unreachable-requires : goal.unreachable-requires
unreachable-requires g c = false≢true (sym ((c.append.ensures.full c.in-Full.needed c.in-Full.limit).0 c.in-Full.is).bound)
