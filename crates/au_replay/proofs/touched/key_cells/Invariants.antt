use Rattle.std.proofs.Common.{◌≡◌, take}
use Rattle.au_entries.specs.Lawful.{key_of}
use Rattle.au_replay.proofs.touched.key_cells.Given as goal

abbrev pub invariant-loop-place : goal.invariant-loop-place
invariant-loop-place l = l.found.items ≡ key_of (take l.place-index l.key) l.cells
