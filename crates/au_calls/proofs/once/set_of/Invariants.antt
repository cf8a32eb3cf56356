use Rattle.std.proofs.Common.{◌≡◌, take}
use Rattle.std.specs.Str.{bytes_eq}
use Rattle.au_calls.specs.Once.{once}
use Rattle.au_calls.proofs.once.set_of.Given as goal

abbrev pub invariant-loop-name : goal.invariant-loop-name
invariant-loop-name l = l.kept.keys ≡ once bytes_eq (take l.name-index l.names)
