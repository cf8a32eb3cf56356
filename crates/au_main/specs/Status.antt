-- The exit status of each end of the program.
use Rattle.std.specs.Prelude.{ℕ}
use Rattle.au_main.specs.declared.status.Status.{Status}
use Rattle.au_main.specs.declared.status.Status.TheVariants.{Done, Usage, ReadFault, WriteFault, DiskFault, Unformatted, Formatted, Damaged, BadLine, TooLong, LobbyFault, Memory, Worn}

abbrev pub number_of : Status → ℕ
number_of Done = 0
number_of Usage = 2
number_of ReadFault = 3
number_of WriteFault = 4
number_of DiskFault = 5
number_of Unformatted = 6
number_of Formatted = 7
number_of (Damaged area at) = 8
number_of (BadLine line) = 9
number_of TooLong = 10
number_of LobbyFault = 11
number_of Memory = 12
number_of Worn = 13
