use Rattle.std.proofs.Common.{ℕ, ◌∙◌, sym, subst}
use Rattle.au_entries.specs.declared.kept.Kept.{Kept}
use Rattle.au_io.specs.Moments.{both_stay}
use Rattle.au_journal.specs.Journals.{disk_of, seat_of}
use Rattle.au_store.specs.Looking.{ReadsUpTo}
use Rattle.au_store.proofs.Begun.{cause_after, says_of}
use Rattle.au_store.proofs.Looked.{looked, still_read}
use Rattle.au_store.proofs.Reading.{mount_cause, mount_says}
use Rattle.au_store.proofs.store.Store.look.Goals as goal

pub returns-in-Err-clause-why : goal.returns-in-Err-clause-why
returns-in-Err-clause-why g c = λ told.
    let meaning = g.D.Disk.meaning in
    rw c.from.ensures (mount_says (meaning c.args.disk).reads c.in-Err.why (c.in-Err.ensures.why told))

pub returns-in-Err-clause-cause : goal.returns-in-Err-clause-cause
returns-in-Err-clause-cause g c =
    let faults = g.D.Disk.faults in
    rw c.from.ensures (mount_cause c.in-Err.why (faults c.args.disk) (faults c.in-Err.disk) c.in-Err.ensures.cause)

pub returns-in-Ok-into_kept-clause-found : goal.returns-in-Ok-into_kept-clause-found
returns-in-Ok-into_kept-clause-found g c = λ told.
    let laws = g.met.D.Disk g.world.𝓛 g.world.𝓜 g.world.𝓡 ((λ s x. x), (λ x. x), (λ x. x), λ x. x) in
    let meaning = g.D.Disk.meaning in
    let old = meaning c.args.disk in
    let mid = meaning (disk_of c.in-Ok.journal) in
    let new = meaning (disk_of c.recover.new.journal) in
    let stays = both_stay old mid new (laws.counts_now (disk_of c.in-Ok.journal)) c.in-Ok.ensures.stays c.recover.ensures.stays in
    let kept = c.in-Ok-recover.engine.state.kept in
    let seat = seat_of c.recover.new.journal in
    let read = c.in-Ok-recover.ensures.read told (c.in-Ok.ensures.mounted told) in
    let image = laws.reads_is_image (disk_of c.recover.new.journal) told in
    subst (λ (k : Kept). ReadsUpTo k c.used-used.result old.reads) (sym c.in-Ok-into_kept.ensures)
    (subst (λ (u : ℕ). ReadsUpTo kept u old.reads) (sym c.used-used.ensures) (looked old new seat kept stays.reads image read))

pub returns-in-Ok-into_kept-clause-stays : goal.returns-in-Ok-into_kept-clause-stays
returns-in-Ok-into_kept-clause-stays g c =
    let laws = g.met.D.Disk g.world.𝓛 g.world.𝓜 g.world.𝓡 ((λ s x. x), (λ x. x), (λ x. x), λ x. x) in
    let meaning = g.D.Disk.meaning in
    let old = meaning c.args.disk in
    let mid = meaning (disk_of c.in-Ok.journal) in
    let new = meaning (disk_of c.recover.new.journal) in
    let stays = both_stay old mid new (laws.counts_now (disk_of c.in-Ok.journal)) c.in-Ok.ensures.stays c.recover.ensures.stays in
    rw c.shut-disk.ensures stays

pub returns-in-Ok-into_kept-clause-cause : goal.returns-in-Ok-into_kept-clause-cause
returns-in-Ok-into_kept-clause-cause g c = rw c.shut-disk.ensures (c.in-Ok-recover.ensures.cause ∙ c.in-Ok.ensures.cause)

pub returns-in-Err-into_kept-clause-stays : goal.returns-in-Err-into_kept-clause-stays
returns-in-Err-into_kept-clause-stays g c =
    let laws = g.met.D.Disk g.world.𝓛 g.world.𝓜 g.world.𝓡 ((λ s x. x), (λ x. x), (λ x. x), λ x. x) in
    let meaning = g.D.Disk.meaning in
    let old = meaning c.args.disk in
    let mid = meaning (disk_of c.in-Ok.journal) in
    let new = meaning (disk_of c.recover.new.journal) in
    let stays = both_stay old mid new (laws.counts_now (disk_of c.in-Ok.journal)) c.in-Ok.ensures.stays c.recover.ensures.stays in
    rw c.shut-disk.ensures stays

pub returns-in-Err-into_kept-clause-cause : goal.returns-in-Err-into_kept-clause-cause
returns-in-Err-into_kept-clause-cause g c = rw c.shut-disk.ensures (c.in-Ok-recover.ensures.cause ∙ c.in-Ok.ensures.cause)

pub returns-in-Err-recover-clause-why : goal.returns-in-Err-recover-clause-why
returns-in-Err-recover-clause-why g c = λ told.
    let meaning = g.D.Disk.meaning in
    let old = (meaning c.args.disk).reads in
    says_of c.in-Err-recover.why old (meaning (disk_of c.in-Ok.journal)).reads c.in-Ok.ensures.stays.reads (c.in-Err-recover.ensures.why told (c.in-Ok.ensures.mounted told))

pub returns-in-Err-recover-clause-stays : goal.returns-in-Err-recover-clause-stays
returns-in-Err-recover-clause-stays g c =
    let laws = g.met.D.Disk g.world.𝓛 g.world.𝓜 g.world.𝓡 ((λ s x. x), (λ x. x), (λ x. x), λ x. x) in
    let meaning = g.D.Disk.meaning in
    let old = meaning c.args.disk in
    let mid = meaning (disk_of c.in-Ok.journal) in
    let new = meaning (disk_of c.recover.new.journal) in
    let stays = both_stay old mid new (laws.counts_now (disk_of c.in-Ok.journal)) c.in-Ok.ensures.stays c.recover.ensures.stays in
    rw c.shut.ensures stays

pub returns-in-Err-recover-clause-cause : goal.returns-in-Err-recover-clause-cause
returns-in-Err-recover-clause-cause g c =
    let faults = g.D.Disk.faults in
    rw c.shut.ensures
    (cause_after c.in-Err-recover.why (faults c.args.disk) (faults (disk_of c.in-Ok.journal)) (faults (disk_of c.recover.new.journal)) c.in-Ok.ensures.cause c.in-Err-recover.ensures.cause)

pub returns-in-Ok-into_kept-clause-synced : goal.returns-in-Ok-into_kept-clause-synced
returns-in-Ok-into_kept-clause-synced g c = λ told.
    let laws = g.met.D.Disk g.world.𝓛 g.world.𝓜 g.world.𝓡 ((λ s x. x), (λ x. x), (λ x. x), λ x. x) in
    let meaning = g.D.Disk.meaning in
    let mid = meaning (disk_of c.in-Ok.journal) in
    let new = meaning (disk_of c.recover.new.journal) in
    rw c.shut-disk.ensures (still_read mid new (laws.counts_now (disk_of c.recover.new.journal)) c.recover.ensures.stays (c.in-Ok.ensures.mounted told).walked.still)
