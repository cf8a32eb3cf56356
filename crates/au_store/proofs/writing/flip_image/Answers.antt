use Rattle.std.proofs.Common.{inr, [], ◌∷◌, length}
use Rattle.au_image.specs.Image.{image_of}
use Rattle.au_journal.specs.Images.{other_of}
use Rattle.au_journal.specs.Journals.{disk_of, seat_of}
use Rattle.rec_codec.specs.Frames.{spelled}
use Rattle.au_store.specs.Recovery.{ReplayedTo}
use Rattle.au_store.proofs.Frames.{is_framed, replayed_image}
use Rattle.au_store.proofs.Keeping.{either_since, flip_unsettled, flipped_kept, left_in_doubt}
use Rattle.au_store.proofs.writing.flip_image.Goals as goal

pub returns-clause-kept : goal.returns-clause-kept
returns-clause-kept g c = λ told kept next was begins done.
    let old = seat_of c.args.journal.now in
    let new = c.flip.new.self in
    let image = c.args.image.now in
    let body = spelled (image_of next) in
    flipped_kept (ReplayedTo next) (g.D.Disk.meaning (disk_of new)) (seat_of new) old body (length image) (c.flip.ensures.moves done)
    (c.flip.ensures.flipped told was.bodies body (is_framed image (image_of next) begins.bytes) was.settled done)
    (replayed_image image next begins)

pub returns-clause-doubted : goal.returns-clause-doubted
returns-clause-doubted g c = λ told kept next was begins failed.
    let laws = g.met.D.Disk g.world.𝓛 g.world.𝓜 g.world.𝓡 ((λ s x. x), (λ x. x), (λ x. x), λ x. x) in
    let old = c.args.journal.now in
    let new = c.flip.new.self in
    let image = c.args.image.now in
    let body = spelled (image_of next) in
    let m = g.D.Disk.meaning (disk_of old) in
    let n = g.D.Disk.meaning (disk_of new) in
    let then = replayed_image image next begins in
    inr (left_in_doubt (ReplayedTo kept) (ReplayedTo next) m n (seat_of new) was.bodies (body ∷ []) (laws.counts_now (disk_of new)) c.flip.ensures.time
    (c.flip.ensures.doubted told was.bodies body (is_framed image (image_of next) begins.bytes) was.settled failed) was.so then (flip_unsettled (seat_of new).doubt (c.flip.ensures.in_doubt failed))
    (either_since (ReplayedTo kept) (ReplayedTo next) (seat_of old) was.bodies (other_of (seat_of old).area) (body ∷ []) m n c.requires.gated was.so then
    (c.flip.ensures.any_moment told was.bodies body (is_framed image (image_of next) begins.bytes) was.settled)))

pub returns-clause-any_moment : goal.returns-clause-any_moment
returns-clause-any_moment g c = λ told kept next was begins.
    let old = c.args.journal.now in
    let new = c.flip.new.self in
    let image = c.args.image.now in
    let body = spelled (image_of next) in
    either_since (ReplayedTo kept) (ReplayedTo next) (seat_of old) was.bodies (other_of (seat_of old).area) (body ∷ [])
    (g.D.Disk.meaning (disk_of old)) (g.D.Disk.meaning (disk_of new)) c.requires.gated was.so (replayed_image image next begins)
    (c.flip.ensures.any_moment told was.bodies body (is_framed image (image_of next) begins.bytes) was.settled)
