use Rattle.std.proofs.Common.{◌≡◌, map, take}
use Rattle.au_entries.specs.Enabling.{widened}
use Rattle.au_audit.proofs.enabling.widened.Given as goal

abbrev pub invariant-loop-entry : goal.invariant-loop-entry
invariant-loop-entry l = l.all.items ≡ map (widened l.users.keys l.outcomes) (take l.entry-index l.listed)
