use Rattle.std.proofs.Common.{◌≡◌, ◌∙◌, false, refl, sym}
use Rattle.au_io.specs.Moments.{both_pass, both_stay}
use Rattle.au_journal.specs.Journals.{disk_of, seat_of}
use Rattle.au_entries.specs.Imaging.{nothing}
use Rattle.au_store.specs.Looking.{look_fault_of}
use Rattle.au_store.proofs.Begun.{cause_after, match_both, no_cost, says_of}
use Rattle.au_store.proofs.Reading.{gated_by, mount_cause, mount_says, open_leaves, opened_by, opening_cause, opens_in_vain, recovered, seated_by, start_says, unread_in_vain}
use Rattle.au_store.proofs.store.Store.open.Goals as goal

pub returns-in-Err-clause-why : goal.returns-in-Err-clause-why
returns-in-Err-clause-why g c = λ told.
    let meaning = g.D.Disk.meaning in
    rw c.open_fault_of.ensures (mount_says (meaning c.args.disk).reads c.in-Err.why (c.in-Err.ensures.why told))

pub returns-in-Err-clause-time : goal.returns-in-Err-clause-time
returns-in-Err-clause-time g c = c.in-Err.ensures.stays.time

pub returns-in-Err-clause-cost : goal.returns-in-Err-clause-cost
returns-in-Err-clause-cost g c =
    let meaning = g.D.Disk.meaning in
    no_cost nothing 0 (meaning c.args.disk).written (meaning c.in-Err.disk).written c.in-Err.ensures.stays.written

pub returns-in-Err-clause-cause : goal.returns-in-Err-clause-cause
returns-in-Err-clause-cause g c =
    let faults = g.D.Disk.faults in
    rw c.open_fault_of.ensures (opening_cause (look_fault_of c.in-Err.why) (faults c.args.disk) (faults c.in-Err.disk) (mount_cause c.in-Err.why (faults c.args.disk) (faults c.in-Err.disk) c.in-Err.ensures.cause))

pub begin-requires-clause-settled : goal.begin-requires-clause-settled
begin-requires-clause-settled g c = λ _ _. c.recover.ensures.settled ∙ c.in-Ok.ensures.settled

pub begin-requires-clause-read : goal.begin-requires-clause-read
begin-requires-clause-read g c = λ _ _ told. c.in-Ok-recover.ensures.read told (c.in-Ok.ensures.mounted told)

pub returns-in-Ok-recover-clause-started : goal.returns-in-Ok-recover-clause-started
returns-in-Ok-recover-clause-started g c =
    match_both c.begin.result _ _ _ _ _ _ c.begin.ensures.begun c.begin.ensures.begun
    (λ store begun _. (c.in-Ok-recover.engine.state.kept, begun.0, begun.1)) (λ failed none _. none)

pub returns-in-Ok-recover-clause-opened : goal.returns-in-Ok-recover-clause-opened
returns-in-Ok-recover-clause-opened g c = λ told.
    let laws = g.met.D.Disk g.world.𝓛 g.world.𝓜 g.world.𝓡 ((λ s x. x), (λ x. x), (λ x. x), λ x. x) in
    let meaning = g.D.Disk.meaning in
    let old = meaning c.args.disk in
    let mid = meaning (disk_of c.in-Ok.journal) in
    let new = meaning (disk_of c.recover.new.journal) in
    let stays = both_stay old mid new (laws.counts_now (disk_of c.in-Ok.journal)) c.in-Ok.ensures.stays c.recover.ensures.stays in
    let kept = c.in-Ok-recover.engine.state.kept in
    let seat = seat_of c.recover.new.journal in
    let read = c.in-Ok-recover.ensures.read told (c.in-Ok.ensures.mounted told) in
    let image = laws.reads_is_image (disk_of c.recover.new.journal) told in
    match_both c.begin.result _ _ _ _ _ _ c.begin.ensures.begun c.begin.ensures.begun
    (λ store begun _. opened_by old new seat kept stays.reads image read store.reading store.state begun.0 begun.1) (λ failed none _. none)

pub returns-in-Ok-recover-clause-seated : goal.returns-in-Ok-recover-clause-seated
returns-in-Ok-recover-clause-seated g c = λ told.
    let laws = g.met.D.Disk g.world.𝓛 g.world.𝓜 g.world.𝓡 ((λ s x. x), (λ x. x), (λ x. x), λ x. x) in
    let meaning = g.D.Disk.meaning in
    let old = meaning c.args.disk in
    let mid = meaning (disk_of c.in-Ok.journal) in
    let new = meaning (disk_of c.recover.new.journal) in
    let stays = both_stay old mid new (laws.counts_now (disk_of c.in-Ok.journal)) c.in-Ok.ensures.stays c.recover.ensures.stays in
    let kept = c.in-Ok-recover.engine.state.kept in
    let seat = seat_of c.recover.new.journal in
    let read = c.in-Ok-recover.ensures.read told (c.in-Ok.ensures.mounted told) in
    let image = laws.reads_is_image (disk_of c.recover.new.journal) told in
    match_both c.begin.result _ _ _ _ _ _ c.begin.ensures.moved c.begin.ensures.moved
    (λ store moved _. seated_by old new seat kept stays.reads image read _ store.reading store.seat refl moved) (λ failed none _. none)

pub returns-in-Ok-recover-clause-kept : goal.returns-in-Ok-recover-clause-kept
returns-in-Ok-recover-clause-kept g c = λ told. c.begin.ensures.kept told

pub returns-in-Ok-recover-clause-why : goal.returns-in-Ok-recover-clause-why
returns-in-Ok-recover-clause-why g c = λ told.
    let laws = g.met.D.Disk g.world.𝓛 g.world.𝓜 g.world.𝓡 ((λ s x. x), (λ x. x), (λ x. x), λ x. x) in
    let meaning = g.D.Disk.meaning in
    let old = meaning c.args.disk in
    let mid = meaning (disk_of c.in-Ok.journal) in
    let new = meaning (disk_of c.recover.new.journal) in
    let stays = both_stay old mid new (laws.counts_now (disk_of c.in-Ok.journal)) c.in-Ok.ensures.stays c.recover.ensures.stays in
    let kept = c.in-Ok-recover.engine.state.kept in
    let seat = seat_of c.recover.new.journal in
    let read = c.in-Ok-recover.ensures.read told (c.in-Ok.ensures.mounted told) in
    let image = laws.reads_is_image (disk_of c.recover.new.journal) told in
    match_both c.begin.result _ _ _ _ _ _ c.begin.ensures.why c.begin.ensures.why (λ store none _. none)
    (λ failed says _. start_says kept old.reads failed.2 (recovered old new seat kept stays.reads image read) says)

pub returns-in-Ok-recover-clause-any_moment : goal.returns-in-Ok-recover-clause-any_moment
returns-in-Ok-recover-clause-any_moment g c = λ told none.
    let laws = g.met.D.Disk g.world.𝓛 g.world.𝓜 g.world.𝓡 ((λ s x. x), (λ x. x), (λ x. x), λ x. x) in
    let meaning = g.D.Disk.meaning in
    let old = meaning c.args.disk in
    let mid = meaning (disk_of c.in-Ok.journal) in
    let new = meaning (disk_of c.recover.new.journal) in
    let stays = both_stay old mid new (laws.counts_now (disk_of c.in-Ok.journal)) c.in-Ok.ensures.stays c.recover.ensures.stays in
    let kept = c.in-Ok-recover.engine.state.kept in
    let seat = seat_of c.recover.new.journal in
    let read = c.in-Ok-recover.ensures.read told (c.in-Ok.ensures.mounted told) in
    let image = laws.reads_is_image (disk_of c.recover.new.journal) told in
    let recovers = recovered old new seat kept stays.reads image read in
    let gated = gated_by old new seat kept stays.reads image read (laws.reads_is_image c.args.disk told) none in
    match_both c.begin.result _ _ _ _ _ _ (c.begin.ensures.any_moment told gated) c.begin.ensures.time
    (λ store leaves time. open_leaves old new (meaning store.disk) kept store.reading stays time recovers leaves) (λ failed none _. none)

pub returns-in-Ok-recover-clause-time : goal.returns-in-Ok-recover-clause-time
returns-in-Ok-recover-clause-time g c =
    let laws = g.met.D.Disk g.world.𝓛 g.world.𝓜 g.world.𝓡 ((λ s x. x), (λ x. x), (λ x. x), λ x. x) in
    let meaning = g.D.Disk.meaning in
    let old = meaning c.args.disk in
    let mid = meaning (disk_of c.in-Ok.journal) in
    let new = meaning (disk_of c.recover.new.journal) in
    let stays = both_stay old mid new (laws.counts_now (disk_of c.in-Ok.journal)) c.in-Ok.ensures.stays c.recover.ensures.stays in
    match_both c.begin.result _ _ _ _ _ _ c.begin.ensures.time c.begin.ensures.time
    (λ store time _. both_pass old new (meaning store.disk) stays.time time) (λ failed time _. both_pass old new (meaning failed.0) stays.time time)

pub returns-in-Ok-recover-clause-cost : goal.returns-in-Ok-recover-clause-cost
returns-in-Ok-recover-clause-cost g c =
    let laws = g.met.D.Disk g.world.𝓛 g.world.𝓜 g.world.𝓡 ((λ s x. x), (λ x. x), (λ x. x), λ x. x) in
    let meaning = g.D.Disk.meaning in
    let old = meaning c.args.disk in
    let mid = meaning (disk_of c.in-Ok.journal) in
    let new = meaning (disk_of c.recover.new.journal) in
    let stays = both_stay old mid new (laws.counts_now (disk_of c.in-Ok.journal)) c.in-Ok.ensures.stays c.recover.ensures.stays in
    rw (← stays.written) c.begin.ensures.cost

pub returns-in-Ok-recover-clause-cause : goal.returns-in-Ok-recover-clause-cause
returns-in-Ok-recover-clause-cause g c =
    rw (sym (c.in-Ok-recover.ensures.cause ∙ c.in-Ok.ensures.cause)) c.begin.ensures.cause

pub returns-in-Err-recover-clause-why : goal.returns-in-Err-recover-clause-why
returns-in-Err-recover-clause-why g c = λ told.
    let meaning = g.D.Disk.meaning in
    rw c.from.ensures (says_of c.in-Err-recover.why (meaning c.args.disk).reads (meaning (disk_of c.in-Ok.journal)).reads c.in-Ok.ensures.stays.reads (c.in-Err-recover.ensures.why told (c.in-Ok.ensures.mounted told)))

pub returns-in-Err-recover-clause-time : goal.returns-in-Err-recover-clause-time
returns-in-Err-recover-clause-time g c =
    let laws = g.met.D.Disk g.world.𝓛 g.world.𝓜 g.world.𝓡 ((λ s x. x), (λ x. x), (λ x. x), λ x. x) in
    let meaning = g.D.Disk.meaning in
    let old = meaning c.args.disk in
    let mid = meaning (disk_of c.in-Ok.journal) in
    let new = meaning (disk_of c.recover.new.journal) in
    let stays = both_stay old mid new (laws.counts_now (disk_of c.in-Ok.journal)) c.in-Ok.ensures.stays c.recover.ensures.stays in
    rw c.shut.ensures stays.time

pub returns-in-Err-recover-clause-cost : goal.returns-in-Err-recover-clause-cost
returns-in-Err-recover-clause-cost g c =
    let laws = g.met.D.Disk g.world.𝓛 g.world.𝓜 g.world.𝓡 ((λ s x. x), (λ x. x), (λ x. x), λ x. x) in
    let meaning = g.D.Disk.meaning in
    let old = meaning c.args.disk in
    let mid = meaning (disk_of c.in-Ok.journal) in
    let new = meaning (disk_of c.recover.new.journal) in
    let stays = both_stay old mid new (laws.counts_now (disk_of c.in-Ok.journal)) c.in-Ok.ensures.stays c.recover.ensures.stays in
    rw c.shut.ensures (no_cost nothing 0 old.written new.written stays.written)

pub returns-in-Err-recover-clause-cause : goal.returns-in-Err-recover-clause-cause
returns-in-Err-recover-clause-cause g c =
    let faults = g.D.Disk.faults in
    rw (c.shut.ensures, c.from.ensures) (opening_cause c.in-Err-recover.why (faults c.args.disk) (faults (disk_of c.recover.new.journal))
    (cause_after c.in-Err-recover.why (faults c.args.disk) (faults (disk_of c.in-Ok.journal)) (faults (disk_of c.recover.new.journal)) c.in-Ok.ensures.cause c.in-Err-recover.ensures.cause))

pub returns-in-Err-clause-in_vain : goal.returns-in-Err-clause-in_vain
returns-in-Err-clause-in_vain g c =
    unread_in_vain g.D.Disk.told g.D.Disk.meaning g.C.Clock.ticking c.args.disk c.in-Err.disk c.args.clock c.args.clock c.open_fault_of.result refl c.in-Err.ensures.stays

pub returns-in-Err-recover-clause-in_vain : goal.returns-in-Err-recover-clause-in_vain
returns-in-Err-recover-clause-in_vain g c =
    let laws = g.met.D.Disk g.world.𝓛 g.world.𝓜 g.world.𝓡 ((λ s x. x), (λ x. x), (λ x. x), λ x. x) in
    let meaning = g.D.Disk.meaning in
    let old = meaning c.args.disk in
    let mid = meaning (disk_of c.in-Ok.journal) in
    let new = meaning (disk_of c.recover.new.journal) in
    let stays = both_stay old mid new (laws.counts_now (disk_of c.in-Ok.journal)) c.in-Ok.ensures.stays c.recover.ensures.stays in
    rw c.shut.ensures
    (unread_in_vain g.D.Disk.told meaning g.C.Clock.ticking c.args.disk (disk_of c.recover.new.journal) c.args.clock c.args.clock c.from.result refl stays)

pub returns-in-Ok-recover-clause-in_vain : goal.returns-in-Ok-recover-clause-in_vain
returns-in-Ok-recover-clause-in_vain g c =
    let laws = g.met.D.Disk g.world.𝓛 g.world.𝓜 g.world.𝓡 ((λ s x. x), (λ x. x), (λ x. x), λ x. x) in
    let meaning = g.D.Disk.meaning in
    let d = c.args.disk in
    let n = disk_of c.recover.new.journal in
    let old = meaning d in
    let mid = meaning (disk_of c.in-Ok.journal) in
    let new = meaning n in
    let stays = both_stay old mid new (laws.counts_now (disk_of c.in-Ok.journal)) c.in-Ok.ensures.stays c.recover.ensures.stays in
    let kept = c.in-Ok-recover.engine.state.kept in
    let seat = seat_of c.recover.new.journal in
    match_both c.begin.result _ _ _ _ _ _ c.begin.ensures.in_vain c.begin.ensures.time (λ store none _. none)
    (λ failed vain time. opens_in_vain g.D.Disk.told meaning g.C.Clock.ticking d n failed.0 c.args.clock failed.1 kept (seat.bare ≡ false) stays time
    (λ told. recovered old new seat kept stays.reads (laws.reads_is_image n told) (c.in-Ok-recover.ensures.read told (c.in-Ok.ensures.mounted told)))
    (λ told none. gated_by old new seat kept stays.reads (laws.reads_is_image n told) (c.in-Ok-recover.ensures.read told (c.in-Ok.ensures.mounted told)) (laws.reads_is_image d told) none)
    failed.2 vain)
