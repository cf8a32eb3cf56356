use Rattle.std.proofs.Common.{◌≡◌, ◌++◌, drop}
use Rattle.std.specs.List.{flat_map}
use Rattle.au_entries.specs.Changing.{grant_changes}
use Rattle.au_kept.proofs.parting.grant_changes_of.Given as goal

abbrev pub invariant-loop-change : goal.invariant-loop-change
invariant-loop-change l = l.made.items ++ flat_map grant_changes (drop l.change-index l.changes) ≡ flat_map grant_changes l.changes
