use Rattle.std.proofs.Common.{◌≡◌, drop}
use Rattle.std.specs.Prelude.{fold}
use Rattle.au_rows.specs.Hash.{hash_step}
use Rattle.au_rows.proofs.hash.text_hash.Given as goal

abbrev pub invariant-loop-byte : goal.invariant-loop-byte
invariant-loop-byte l = fold hash_step l.hash (drop l.byte-index l.bytes) ≡ fold hash_step 1 l.bytes
