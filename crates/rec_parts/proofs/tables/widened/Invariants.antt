use Rattle.std.proofs.Common.{◌≡◌, take}
use Rattle.rec_parts.proofs.tables.widened.Given as goal

abbrev pub invariant-loop-byte : goal.invariant-loop-byte
invariant-loop-byte l = l.values ≡ take l.byte-index l.bytes
