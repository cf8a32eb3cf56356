use Rattle.std.proofs.Common.{◌≡◌, map, take}
use Rattle.au_txn.specs.Listing.{name_of}
use Rattle.au_txn.proofs.named.names_of.Given as goal

abbrev pub invariant-loop-change : goal.invariant-loop-change
invariant-loop-change l = l.names.items ≡ map name_of (take l.change-index l.changes)
