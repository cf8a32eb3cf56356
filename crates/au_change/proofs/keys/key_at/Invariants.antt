use Rattle.std.proofs.Common.{◌≡◌, drop}
use Rattle.au_change.specs.Inside as spec
use Rattle.au_change.proofs.KeysOf.{front}
use Rattle.au_change.proofs.keys.key_at.Given as goal

abbrev pub invariant-loop-place : goal.invariant-loop-place
invariant-loop-place l = front l.key.items (spec.key_at (drop l.place-index l.places) l.cells) ≡ spec.key_at l.places l.cells
