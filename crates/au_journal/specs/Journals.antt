-- What is seen of a journal.
use Rattle.au_io.specs.declared.disk.Disk.{Ghosts}
use Rattle.au_journal.specs.declared.journal.Journal.{Journal}
use Rattle.au_journal.specs.declared.seat.Seat.{Seat}

abbrev pub disk_of : {D : Type 0} {ghosts : Ghosts D} → Journal D ghosts → D
disk_of journal = journal.disk

abbrev pub seat_of : {D : Type 0} {ghosts : Ghosts D} → Journal D ghosts → Seat
seat_of journal = journal.seat
