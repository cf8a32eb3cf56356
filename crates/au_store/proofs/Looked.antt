-- From what a walk reads to what is said of a store that is looked at.
use Rattle.std.proofs.Common.{◌≡◌, ◌∙◌, sym, subst}
use Rattle.au_entries.specs.declared.kept.Kept.{Kept}
use Rattle.au_io.specs.Disk.{Meaning, Stays}
use Rattle.au_io.specs.Moments.{CountsNow}
use Rattle.au_journal.specs.declared.seat.Seat.{Seat}
use Rattle.au_journal.specs.Walk.{IsStill}
use Rattle.au_store.specs.Looking.{ReadsUpTo}
use Rattle.au_store.specs.descent.Opening.{IsRead}
use Rattle.au_store.proofs.Reading.{settled_in}

pub looked : (old mid : Meaning) (seat : Seat) (kept : Kept) → mid.reads ≡ old.reads → mid.images mid.reads → IsRead mid seat kept → ReadsUpTo kept seat.used old.reads
looked old mid seat kept reads image read = subst (ReadsUpTo kept seat.used) reads (record {
  reads = record { area = seat.area; limit = seat.limit; bodies = read.bodies; held = settled_in mid seat read.bodies read.settled image; so = read.so };
  ends = read.settled.placed.place;
})

-- what was the only image still is
pub still_read : (old new : Meaning) → CountsNow new → Stays old new → IsStill old → IsStill new
still_read old new counts stays still c image = still c (stays.images c (counts old.moment c stays.time.later image)) ∙ sym stays.reads
