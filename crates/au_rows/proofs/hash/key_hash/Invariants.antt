use Rattle.std.proofs.Common.{◌≡◌, drop}
use Rattle.au_rows.specs.Hash.{key_hash}
use Rattle.au_rows.proofs.hash.key_hash.Given as goal

abbrev pub invariant-loop-cell : goal.invariant-loop-cell
invariant-loop-cell l = key_hash l.hash (drop l.cell-index l.key) ≡ key_hash l.table l.key
