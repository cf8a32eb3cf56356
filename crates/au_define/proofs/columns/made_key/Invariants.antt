use Rattle.std.proofs.Common.{◌≡◌, map, take}
use Rattle.au_define.specs.Columns.{place_of}
use Rattle.au_define.proofs.columns.made_key.Given as goal

abbrev pub invariant-loop-name : goal.invariant-loop-name
invariant-loop-name l = l.places ≡ map (place_of l.names) (take l.name-index l.key)
