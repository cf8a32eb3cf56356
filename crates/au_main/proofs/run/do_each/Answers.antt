use Rattle.std.proofs.Common.{◌+◌, ◌-◌, ◌≤◌, refl, ◌∙◌}
use Rattle.au_main.specs.Means.{means_of}
use Rattle.au_main.proofs.Counts.{counted, counted_next, some_next, fits_next, falls, none_taken, stopped, went_on, bad_is_no_fault, memory_is_no_fault}
use Rattle.au_main.proofs.Runs.{RanSoFar-none, RanSoFar-more, no_memory_before, RanToFront-ended, RanToFront-no_memory, RanToFault-at, RanToLimit-at, RanToBadLine-ended, RanToBadLine-overlong, RanToEnd-at, RanTo-last, IsReadCause-last, count-below, room_ended, room_last}
use Rattle.au_main.proofs.run.do_each.Goals as goal

pub loop-line-init : goal.loop-line-init
loop-line-init g c =
    let means = means_of g.D.Disk.told g.D.Disk.meaning g.D.Disk.faults g.C.Clock.ticking in
    let laws = g.met.D.Disk g.world.𝓛 g.world.𝓜 g.world.𝓡 ((λ s x. x), (λ x. x), (λ x. x), λ x. x) in
    record {
      ran = rw c.requires.unused (RanSoFar-none means _ _ _ _ (laws.counts_now c.args.store.now.disk) (laws.only_now c.args.store.now.disk) c.requires.settled c.requires.kept c.requires.bytes c.requires.taken);
      counts = some_next 0;
      within = none_taken _ c.requires.taken;
      read = refl;
      wrote = refl;
    }

pub overflow_add-number : goal.overflow_add-number
overflow_add-number g c =
    let means = means_of g.D.Disk.told g.D.Disk.meaning g.D.Disk.faults g.C.Clock.ticking in
    let below : c.loop-line.number - 1 ≤ c.loop-line.pending.taken = count-below means _ _ _ _ _ _ _ _ _ c.loop-line.invariant.ran in
    fits_next c.loop-line.number c.loop-line.pending.taken below c.loop-line.invariant.within

pub answer_line-requires-clause-room : goal.answer_line-requires-clause-room
answer_line-requires-clause-room g c = λ _ _.
    let means = means_of g.D.Disk.told g.D.Disk.meaning g.D.Disk.faults g.C.Clock.ticking in
    let line = rw c.in-Ok-Ended.field-0-is at c.in-Ok-Ended.ensures.line in
    room_ended means _ _ _ _ _ _ _ _ _ c.loop-line.invariant.ran _ _ _ line c.in-Ok-Ended.ensures.within

pub answer_last-requires-clause-room : goal.answer_last-requires-clause-room
answer_last-requires-clause-room g c = λ _ _.
    let means = means_of g.D.Disk.told g.D.Disk.meaning g.D.Disk.faults g.C.Clock.ticking in
    let line = rw c.in-Ok-Last.field-0-is at c.in-Ok-Last.ensures.line in
    room_last means _ _ _ _ _ _ _ _ _ c.loop-line.invariant.ran _ _ _ line c.in-Ok-Last.ensures.within

pub loop-line-smaller : goal.loop-line-smaller
loop-line-smaller g c =
    let means = means_of g.D.Disk.told g.D.Disk.meaning g.D.Disk.faults g.C.Clock.ticking in
    let line = rw c.in-Ok-Ended.field-0-is at c.in-Ok-Ended.ensures.line in
    let answered = rw c.deref.ensures.value at c.in-Ok.ensures.ok in
    let number = counted_next c.loop-line.number c.loop-line.invariant.counts in
    let below : (c.loop-line.number + 1) - 1 ≤ c.next_line.new.pending.taken = count-below means _ _ _ _ _ _ _ _ _ (RanSoFar-more means _ _ _ _ _ _ _ _ _ c.loop-line.invariant.ran _ _ _ _ _ line _ number _ answered) in
    falls c.loop-line.number c.next_line.new.pending.taken below c.in-Ok-Ended.ensures.within

pub loop-line-preserved : goal.loop-line-preserved
loop-line-preserved g c =
    let means = means_of g.D.Disk.told g.D.Disk.meaning g.D.Disk.faults g.C.Clock.ticking in
    let line = rw c.in-Ok-Ended.field-0-is at c.in-Ok-Ended.ensures.line in
    let answered = rw c.deref.ensures.value at c.in-Ok.ensures.ok in
    let number = counted_next c.loop-line.number c.loop-line.invariant.counts in
    let cause = rw c.in-Ok-Ended.field-0-is at c.in-Ok-Ended.ensures.cause in
    record {
      ran = RanSoFar-more means _ _ _ _ _ _ _ _ _ c.loop-line.invariant.ran _ _ _ _ _ line _ number _ answered;
      counts = some_next c.loop-line.number;
      within = c.in-Ok-Ended.ensures.within;
      read = cause ∙ c.loop-line.invariant.read;
      wrote = c.in-Ok.ensures.well (went_on _) ∙ c.loop-line.invariant.wrote;
    }

pub returns-in-Err-BadLine-clause-ran : goal.returns-in-Err-BadLine-clause-ran
returns-in-Err-BadLine-clause-ran g c =
    let means = means_of g.D.Disk.told g.D.Disk.meaning g.D.Disk.faults g.C.Clock.ticking in
    let line = rw c.in-Ok-Ended.field-0-is at c.in-Ok-Ended.ensures.line in
    let number = counted c.loop-line.number c.loop-line.invariant.counts in
    let bad = rw c.deref.ensures.value at (c.in-Err-BadLine.ensures.bad (stopped _ _ c.in-Err-BadLine.field-0-is)) in
    RanToBadLine-ended means _ _ _ _ _ _ _ _ _ c.loop-line.invariant.ran _ _ _ _ _ line _ number bad (c.in-Err-BadLine.ensures.bad_stays (stopped _ _ c.in-Err-BadLine.field-0-is))

pub returns-in-Err-BadLine-clause-read : goal.returns-in-Err-BadLine-clause-read
returns-in-Err-BadLine-clause-read g c =
    let cause = rw c.in-Ok-Ended.field-0-is at c.in-Ok-Ended.ensures.cause in
    cause ∙ c.loop-line.invariant.read

pub returns-in-Err-BadLine-clause-write : goal.returns-in-Err-BadLine-clause-write
returns-in-Err-BadLine-clause-write g c =
    let well = rw c.in-Err-BadLine.field-0-is at c.in-Err-BadLine.ensures.well in
    well bad_is_no_fault ∙ c.loop-line.invariant.wrote

pub returns-in-Err-WriteFault-clause-ran : goal.returns-in-Err-WriteFault-clause-ran
returns-in-Err-WriteFault-clause-ran g c =
    let means = means_of g.D.Disk.told g.D.Disk.meaning g.D.Disk.faults g.C.Clock.ticking in
    let line = rw c.in-Ok-Ended.field-0-is at c.in-Ok-Ended.ensures.line in
    let answered = rw c.deref.ensures.value at (c.in-Err-WriteFault.ensures.write_fault (stopped _ _ c.in-Err-WriteFault.field-0-is)) in
    RanToFront-ended means _ _ _ _ _ _ _ _ _ c.loop-line.invariant.ran _ _ _ _ _ line answered

pub returns-in-Err-WriteFault-clause-read : goal.returns-in-Err-WriteFault-clause-read
returns-in-Err-WriteFault-clause-read g c =
    let cause = rw c.in-Ok-Ended.field-0-is at c.in-Ok-Ended.ensures.cause in
    cause ∙ c.loop-line.invariant.read

pub returns-in-Err-WriteFault-clause-write : goal.returns-in-Err-WriteFault-clause-write
returns-in-Err-WriteFault-clause-write g c = rw c.loop-line.invariant.wrote at (c.in-Err-WriteFault.ensures.cause (stopped _ _ c.in-Err-WriteFault.field-0-is))

pub returns-in-Err-Memory-clause-ran : goal.returns-in-Err-Memory-clause-ran
returns-in-Err-Memory-clause-ran g c =
    let means = means_of g.D.Disk.told g.D.Disk.meaning g.D.Disk.faults g.C.Clock.ticking in
    let line = rw c.in-Ok-Ended.field-0-is at c.in-Ok-Ended.ensures.line in
    let answered = rw c.deref.ensures.value at (c.in-Err-Memory.ensures.memory (stopped _ _ c.in-Err-Memory.field-0-is)) in
    RanToFront-no_memory means _ _ _ _ _ _ _ _ _ c.loop-line.invariant.ran _ _ _ _ _ line answered

pub returns-in-Err-Memory-clause-read : goal.returns-in-Err-Memory-clause-read
returns-in-Err-Memory-clause-read g c =
    let cause = rw c.in-Ok-Ended.field-0-is at c.in-Ok-Ended.ensures.cause in
    cause ∙ c.loop-line.invariant.read

pub returns-in-Err-Memory-clause-write : goal.returns-in-Err-Memory-clause-write
returns-in-Err-Memory-clause-write g c =
    let well = rw c.in-Err-Memory.field-0-is at c.in-Err-Memory.ensures.well in
    well memory_is_no_fault ∙ c.loop-line.invariant.wrote

pub returns-in-Ok-Last-clause-ran : goal.returns-in-Ok-Last-clause-ran
returns-in-Ok-Last-clause-ran g c =
    let means = means_of g.D.Disk.told g.D.Disk.meaning g.D.Disk.faults g.C.Clock.ticking in
    let line = rw c.in-Ok-Last.field-0-is at c.in-Ok-Last.ensures.line in
    let number = counted c.loop-line.number c.loop-line.invariant.counts in
    let ends = rw c.deref-in-Ok-Last.ensures.value at c.answer_last.ensures.ends in
    RanTo-last means _ _ _ _ _ _ _ _ _ c.loop-line.invariant.ran _ _ _ _ _ line _ _ number c.answer_last.result ends

pub returns-in-Ok-Last-clause-read : goal.returns-in-Ok-Last-clause-read
returns-in-Ok-Last-clause-read g c =
    let means = means_of g.D.Disk.told g.D.Disk.meaning g.D.Disk.faults g.C.Clock.ticking in
    let cause = rw c.in-Ok-Last.field-0-is at c.in-Ok-Last.ensures.cause in
    IsReadCause-last means c.answer_last.result _ _ _ _ _ _ _ _ _ _ c.answer_last.ensures.ends (cause ∙ c.loop-line.invariant.read)

pub returns-in-Ok-Last-clause-write : goal.returns-in-Ok-Last-clause-write
returns-in-Ok-Last-clause-write g c = rw c.loop-line.invariant.wrote at c.answer_last.ensures.cause

pub returns-in-Ok-End-clause-ran : goal.returns-in-Ok-End-clause-ran
returns-in-Ok-End-clause-ran g c =
    let means = means_of g.D.Disk.told g.D.Disk.meaning g.D.Disk.faults g.C.Clock.ticking in
    let line = rw c.in-Ok-End.field-0-is at c.in-Ok-End.ensures.line in
    RanToEnd-at means _ _ _ _ _ _ _ _ _ c.loop-line.invariant.ran _ _ line

pub returns-in-Ok-End-clause-read : goal.returns-in-Ok-End-clause-read
returns-in-Ok-End-clause-read g c =
    let cause = rw c.in-Ok-End.field-0-is at c.in-Ok-End.ensures.cause in
    cause ∙ c.loop-line.invariant.read

pub returns-in-Ok-Overlong-clause-ran : goal.returns-in-Ok-Overlong-clause-ran
returns-in-Ok-Overlong-clause-ran g c =
    let means = means_of g.D.Disk.told g.D.Disk.meaning g.D.Disk.faults g.C.Clock.ticking in
    let line = rw c.in-Ok-Overlong.field-0-is at c.in-Ok-Overlong.ensures.line in
    let number = counted c.loop-line.number c.loop-line.invariant.counts in
    RanToBadLine-overlong means _ _ _ _ _ _ _ _ _ c.loop-line.invariant.ran _ _ _ number line

pub returns-in-Ok-Overlong-clause-read : goal.returns-in-Ok-Overlong-clause-read
returns-in-Ok-Overlong-clause-read g c =
    let cause = rw c.in-Ok-Overlong.field-0-is at c.in-Ok-Overlong.ensures.cause in
    cause ∙ c.loop-line.invariant.read

pub returns-in-Ok-Failed-clause-ran : goal.returns-in-Ok-Failed-clause-ran
returns-in-Ok-Failed-clause-ran g c =
    let means = means_of g.D.Disk.told g.D.Disk.meaning g.D.Disk.faults g.C.Clock.ticking in
    let line = rw c.in-Ok-Failed.field-0-is at c.in-Ok-Failed.ensures.line in
    RanToFault-at means _ _ _ _ _ _ _ _ _ c.loop-line.invariant.ran _ _ line

pub returns-in-Ok-Failed-clause-read : goal.returns-in-Ok-Failed-clause-read
returns-in-Ok-Failed-clause-read g c =
    let cause = rw c.in-Ok-Failed.field-0-is at c.in-Ok-Failed.ensures.cause in
    rw c.loop-line.invariant.read at cause

pub returns-in-Ok-Beyond-clause-ran : goal.returns-in-Ok-Beyond-clause-ran
returns-in-Ok-Beyond-clause-ran g c =
    let means = means_of g.D.Disk.told g.D.Disk.meaning g.D.Disk.faults g.C.Clock.ticking in
    let line = rw c.in-Ok-Beyond.field-0-is at c.in-Ok-Beyond.ensures.line in
    RanToLimit-at means _ _ _ _ _ _ _ _ _ c.loop-line.invariant.ran _ _ line

pub returns-in-Ok-Beyond-clause-read : goal.returns-in-Ok-Beyond-clause-read
returns-in-Ok-Beyond-clause-read g c =
    let cause = rw c.in-Ok-Beyond.field-0-is at c.in-Ok-Beyond.ensures.cause in
    cause ∙ c.loop-line.invariant.read

pub returns-in-Err-clause-ran : goal.returns-in-Err-clause-ran
returns-in-Err-clause-ran g c =
    let means = means_of g.D.Disk.told g.D.Disk.meaning g.D.Disk.faults g.C.Clock.ticking in
    no_memory_before means _ _ _ _ _ _ _ _ _ c.loop-line.invariant.ran (g.S.Stream.left c.next_line.new.source) c.in-Err.ensures.took

pub returns-in-Err-clause-read : goal.returns-in-Err-clause-read
returns-in-Err-clause-read g c = c.in-Err.ensures.memory ∙ c.loop-line.invariant.read

pub returns-in-Ok-End-clause-write : goal.returns-in-Ok-End-clause-write
returns-in-Ok-End-clause-write g c = c.loop-line.invariant.wrote

pub returns-in-Ok-Overlong-clause-write : goal.returns-in-Ok-Overlong-clause-write
returns-in-Ok-Overlong-clause-write g c = c.loop-line.invariant.wrote

pub returns-in-Ok-Failed-clause-write : goal.returns-in-Ok-Failed-clause-write
returns-in-Ok-Failed-clause-write g c = c.loop-line.invariant.wrote

pub returns-in-Ok-Beyond-clause-write : goal.returns-in-Ok-Beyond-clause-write
returns-in-Ok-Beyond-clause-write g c = c.loop-line.invariant.wrote

pub returns-in-Err-clause-write : goal.returns-in-Err-clause-write
returns-in-Err-clause-write g c = c.loop-line.invariant.wrote
