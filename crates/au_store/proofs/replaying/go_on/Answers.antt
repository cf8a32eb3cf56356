use Rattle.std.proofs.Common.{◌∙◌, refl}
use Rattle.std.proofs.lemmas.Result.{err_from_is_err_and}
use Rattle.au_io.specs.Moments.{both_stay}
use Rattle.au_journal.specs.Journals.{disk_of}
use Rattle.au_store.proofs.Begun.{cause_after, says_of}
use Rattle.au_store.proofs.Reading.{stays_same}
use Rattle.au_store.proofs.replaying.go_on.Goals as goal

pub loop-turn-init : goal.loop-turn-init
loop-turn-init g c =
    let laws = g.met.D.Disk g.world.𝓛 g.world.𝓜 g.world.𝓡 ((λ s x. x), (λ x. x), (λ x. x), λ x. x) in
    let j = c.args.journal.now in
    record {
      taken = λ told taken. taken;
      resting = c.requires.resting;
      ends = c.requires.ends;
      settled = refl;
      stays = stays_same (g.D.Disk.meaning (disk_of j)) (laws.counts_now (disk_of j)) (laws.only_now (disk_of j));
      cause = refl;
    }

pub returns-in_err-take_frame-clause-why : goal.returns-in_err-take_frame-clause-why
returns-in_err-take_frame-clause-why g c = λ told taken.
    let p = err_from_is_err_and c.from_residual.result c.from_residual.ensures.1 in
    let meaning = g.D.Disk.meaning in
    let before = c.loop-turn.invariant in
    rw (p.1, p.2) (says_of c.in_err-take_frame.field-0.0 (meaning (disk_of c.args.journal.now)).reads (meaning (disk_of c.loop-turn.journal)).reads before.stays.reads
    (c.in_err-take_frame.ensures.why told (before.taken told taken)))

pub returns-in_err-take_frame-clause-settled : goal.returns-in_err-take_frame-clause-settled
returns-in_err-take_frame-clause-settled g c = c.take_frame.ensures.settled ∙ c.loop-turn.invariant.settled

pub returns-in_err-take_frame-clause-stays : goal.returns-in_err-take_frame-clause-stays
returns-in_err-take_frame-clause-stays g c =
    let laws = g.met.D.Disk g.world.𝓛 g.world.𝓜 g.world.𝓡 ((λ s x. x), (λ x. x), (λ x. x), λ x. x) in
    let meaning = g.D.Disk.meaning in
    both_stay (meaning (disk_of c.args.journal.now)) (meaning (disk_of c.loop-turn.journal)) (meaning (disk_of c.take_frame.new.journal)) (laws.counts_now (disk_of c.loop-turn.journal))
    c.loop-turn.invariant.stays c.take_frame.ensures.stays

pub returns-in_err-take_frame-clause-cause : goal.returns-in_err-take_frame-clause-cause
returns-in_err-take_frame-clause-cause g c =
    let p = err_from_is_err_and c.from_residual.result c.from_residual.ensures.1 in
    let faults = g.D.Disk.faults in
    rw (p.1, p.2) (cause_after c.in_err-take_frame.field-0.0 (faults (disk_of c.args.journal.now)) (faults (disk_of c.loop-turn.journal)) (faults (disk_of c.take_frame.new.journal))
    c.loop-turn.invariant.cause c.in_err-take_frame.ensures.cause)

pub returns-then-not-branch-clause-read : goal.returns-then-not-branch-clause-read
returns-then-not-branch-clause-read g c = λ told taken. rw c.if-not-branch.true at (c.in_ok-take_frame.ensures.taken told (c.loop-turn.invariant.taken told taken))

pub returns-then-not-branch-clause-settled : goal.returns-then-not-branch-clause-settled
returns-then-not-branch-clause-settled g c = c.take_frame.ensures.settled ∙ c.loop-turn.invariant.settled

pub returns-then-not-branch-clause-stays : goal.returns-then-not-branch-clause-stays
returns-then-not-branch-clause-stays g c =
    let laws = g.met.D.Disk g.world.𝓛 g.world.𝓜 g.world.𝓡 ((λ s x. x), (λ x. x), (λ x. x), λ x. x) in
    let meaning = g.D.Disk.meaning in
    both_stay (meaning (disk_of c.args.journal.now)) (meaning (disk_of c.loop-turn.journal)) (meaning (disk_of c.take_frame.new.journal)) (laws.counts_now (disk_of c.loop-turn.journal))
    c.loop-turn.invariant.stays c.take_frame.ensures.stays

pub returns-then-not-branch-clause-cause : goal.returns-then-not-branch-clause-cause
returns-then-not-branch-clause-cause g c = c.in_ok-take_frame.ensures.cause ∙ c.loop-turn.invariant.cause

pub loop-turn-preserved : goal.loop-turn-preserved
loop-turn-preserved g c =
    let laws = g.met.D.Disk g.world.𝓛 g.world.𝓜 g.world.𝓡 ((λ s x. x), (λ x. x), (λ x. x), λ x. x) in
    let meaning = g.D.Disk.meaning in
    let before = c.loop-turn.invariant in
    record {
      taken = λ told taken. rw c.if-not-branch.false at (c.in_ok-take_frame.ensures.taken told (before.taken told taken));
      resting = c.take_frame.ensures.resting;
      ends = c.take_frame.ensures.ends;
      settled = c.take_frame.ensures.settled ∙ before.settled;
      stays =
          both_stay (meaning (disk_of c.args.journal.now)) (meaning (disk_of c.loop-turn.journal)) (meaning (disk_of c.take_frame.new.journal)) (laws.counts_now (disk_of c.loop-turn.journal))
          before.stays c.take_frame.ensures.stays;
      cause = c.in_ok-take_frame.ensures.cause ∙ before.cause;
    }

pub returns-clause-why : goal.returns-clause-why
returns-clause-why g c = λ told taken. tt

pub returns-clause-settled : goal.returns-clause-settled
returns-clause-settled g c = c.loop-turn.invariant.settled

pub returns-clause-stays : goal.returns-clause-stays
returns-clause-stays g c = c.loop-turn.invariant.stays

pub returns-clause-cause : goal.returns-clause-cause
returns-clause-cause g c = c.loop-turn.invariant.cause
