use Rattle.std.proofs.Common.{◌≡◌, drop}
use Rattle.au_rows.specs.Hash.{stored_hash}
use Rattle.au_rows.proofs.hash.stored_hash.Given as goal

abbrev pub invariant-loop-place : goal.invariant-loop-place
invariant-loop-place l = stored_hash l.hash (drop l.place-index l.places) l.cells ≡ stored_hash l.table l.places l.cells
