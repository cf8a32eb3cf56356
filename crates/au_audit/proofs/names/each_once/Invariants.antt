use Rattle.std.proofs.Common.{◌≡◌, take}
use Rattle.au_entries.specs.Enabling.{each_once}
use Rattle.au_audit.proofs.names.each_once.Given as goal

abbrev pub invariant-loop-name : goal.invariant-loop-name
invariant-loop-name l = l.once.keys ≡ each_once (take l.name-index l.names)
