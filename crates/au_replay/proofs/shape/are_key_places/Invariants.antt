use Rattle.std.proofs.Common.{drop}
use Rattle.std.specs.Prelude.{◌↔◌}
use Rattle.std.specs.List.{AllByRecursion}
use Rattle.au_entries.specs.Replaying.{IsKeyPlace}
use Rattle.au_replay.proofs.shape.are_key_places.Given as goal

abbrev pub invariant-loop-place : goal.invariant-loop-place
invariant-loop-place l = AllByRecursion (IsKeyPlace l.columns) (drop l.place-index l.key) ↔ AllByRecursion (IsKeyPlace l.columns) l.key
