use Rattle.std.proofs.Common.{◌≡◌}
use Rattle.au_io.specs.Disk.{Stays}
use Rattle.au_journal.specs.Journals.{disk_of, seat_of}
use Rattle.au_step.specs.Replaying.{EndsWell}
use Rattle.au_step.specs.State.{resting}
use Rattle.au_store.specs.descent.Opening.{IsTaken}
use Rattle.au_store.proofs.replaying.go_on.Given as goal

abbrev pub invariant-loop-turn : goal.invariant-loop-turn
invariant-loop-turn g l =
    let disk = g.D.Disk in
    record {
      taken : disk.told → IsTaken (disk.meaning (disk_of l.fn.journal)) (seat_of l.fn.journal) l.fn.engine.state.kept
          → IsTaken (disk.meaning (disk_of l.journal)) (seat_of l.journal) l.engine.state.kept;
      resting : l.engine.state ≡ resting l.engine.state.kept;
      ends : EndsWell l.engine.state.kept;
      settled : (seat_of l.journal).doubt ≡ (seat_of l.fn.journal).doubt;
      stays : Stays (disk.meaning (disk_of l.fn.journal)) (disk.meaning (disk_of l.journal));
      cause : disk.faults (disk_of l.journal) ≡ disk.faults (disk_of l.fn.journal);
    }
