use Rattle.std.proofs.Common.{◌≡◌, ◌<◌, ℕ, Some}
use Rattle.std.specs.List.{slice_get}
use Rattle.au_world.specs.Inside.{names_in}
use Rattle.au_world.proofs.looking.is_alone.Given as goal

abbrev pub invariant-loop-other : goal.invariant-loop-other
invariant-loop-other l = (other : ℕ) → other < l.other → slice_get (names_in l.tables) other ≡ Some l.name → other ≡ l.place
