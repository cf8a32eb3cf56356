use Rattle.std.proofs.Common.{◌≡◌, inr, [], ◌∷◌, ◌++◌, length, refl, sym, ◌∙◌}
use Rattle.au_journal.specs.declared.appended.Appended.TheVariants as answer
use Rattle.au_journal.specs.Journals.{disk_of, seat_of}
use Rattle.au_journal.specs.Seats.{needed_of}
use Rattle.rec_codec.specs.Frames.{spelled}
use Rattle.au_store.specs.Recovery.{ReplayedTo}
use Rattle.au_store.proofs.Frames.{carried, carried_by, is_framed, replayed_push, within_limit}
use Rattle.au_store.proofs.Keeping.{append_unsettled, appended_kept, either_since, left_in_doubt}
use Rattle.au_store.proofs.writing.append_frame.Goals as goal

pub returns-in-Some-clause-kept : goal.returns-in-Some-clause-kept
returns-in-Some-clause-kept g c = λ told kept next was carries done.
    let old = seat_of c.args.journal.now in
    let new = c.append.new.self in
    let bytes = c.in-Some.framed.now in
    let k = carried kept next c.args.prepared.now.framed bytes c.in-Some.ensures carries in
    let body = spelled k.0 in
    appended_kept (ReplayedTo next) (g.D.Disk.meaning (disk_of new)) (seat_of new) was.bodies body (length bytes) old (c.append.ensures.advances done)
    (c.append.ensures.appended told was.bodies body (is_framed bytes k.0 k.1) was.settled done)
    (replayed_push was.bodies kept next body was.so (carried_by kept next k.0 k.2))

pub returns-in-Some-clause-doubted : goal.returns-in-Some-clause-doubted
returns-in-Some-clause-doubted g c = λ told kept next was carries failed.
    let laws = g.met.D.Disk g.world.𝓛 g.world.𝓜 g.world.𝓡 ((λ s x. x), (λ x. x), (λ x. x), λ x. x) in
    let old = c.args.journal.now in
    let new = c.append.new.self in
    let bytes = c.in-Some.framed.now in
    let k = carried kept next c.args.prepared.now.framed bytes c.in-Some.ensures carries in
    let body = spelled k.0 in
    let m = g.D.Disk.meaning (disk_of old) in
    let n = g.D.Disk.meaning (disk_of new) in
    let then = replayed_push was.bodies kept next body was.so (carried_by kept next k.0 k.2) in
    inr (left_in_doubt (ReplayedTo kept) (ReplayedTo next) m n (seat_of new) was.bodies (was.bodies ++ body ∷ []) (laws.counts_now (disk_of new)) c.append.ensures.time
    (c.append.ensures.doubted told was.bodies body (is_framed bytes k.0 k.1) was.settled failed) was.so then (append_unsettled (seat_of new).doubt (c.append.ensures.in_doubt failed))
    (either_since (ReplayedTo kept) (ReplayedTo next) (seat_of old) was.bodies (seat_of old).area (was.bodies ++ body ∷ []) m n c.requires.gated was.so then
    (c.append.ensures.any_moment told was.bodies body (is_framed bytes k.0 k.1) was.settled)))

pub returns-in-Some-clause-any_moment : goal.returns-in-Some-clause-any_moment
returns-in-Some-clause-any_moment g c = λ told kept next was carries.
    let old = c.args.journal.now in
    let new = c.append.new.self in
    let bytes = c.in-Some.framed.now in
    let k = carried kept next c.args.prepared.now.framed bytes c.in-Some.ensures carries in
    let body = spelled k.0 in
    either_since (ReplayedTo kept) (ReplayedTo next) (seat_of old) was.bodies (seat_of old).area (was.bodies ++ body ∷ [])
    (g.D.Disk.meaning (disk_of old)) (g.D.Disk.meaning (disk_of new)) c.requires.gated was.so (replayed_push was.bodies kept next body was.so (carried_by kept next k.0 k.2))
    (c.append.ensures.any_moment told was.bodies body (is_framed bytes k.0 k.1) was.settled)

pub returns-in-Some-clause-within : goal.returns-in-Some-clause-within
returns-in-Some-clause-within g c = λ done.
    let old = seat_of c.args.journal.now in
    let bytes = c.in-Some.framed.now in
    within_limit old c.args.prepared.now.framed bytes c.in-Some.ensures (λ over.
    let is = (c.append.ensures.full (needed_of old (length bytes)) old.limit).1 (record { bound = refl; needed_is = refl; limit_is = refl; exceeds = over }) in
    let no : answer.Done ≡ answer.Full (needed_of old (length bytes)) old.limit = sym done ∙ is in cc)

pub returns-in-Some-clause-full : goal.returns-in-Some-clause-full
returns-in-Some-clause-full g c = λ needed limit is.
    (c.in-Some.framed.now, sym c.in-Some.ensures, (c.append.ensures.full needed limit).0 is)

pub returns-in-Some-clause-wrote : goal.returns-in-Some-clause-wrote
returns-in-Some-clause-wrote g c = λ failed. (c.in-Some.framed.now, sym c.in-Some.ensures)

pub returns-in-Some-clause-in_doubt : goal.returns-in-Some-clause-in_doubt
returns-in-Some-clause-in_doubt g c = λ failed. append_unsettled (seat_of c.append.new.self).doubt (c.append.ensures.in_doubt failed)

pub returns-in-Some-clause-fits : goal.returns-in-Some-clause-fits
returns-in-Some-clause-fits g c = λ failed.
    let old = seat_of c.args.journal.now in
    let bytes = c.in-Some.framed.now in
    within_limit old c.args.prepared.now.framed bytes c.in-Some.ensures (λ over.
    let is = (c.append.ensures.full (needed_of old (length bytes)) old.limit).1 (record { bound = refl; needed_is = refl; limit_is = refl; exceeds = over }) in
    let no : answer.Disk ≡ answer.Full (needed_of old (length bytes)) old.limit = sym failed ∙ is in cc)
