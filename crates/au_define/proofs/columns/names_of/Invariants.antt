use Rattle.std.proofs.Common.{◌≡◌, take}
use Rattle.std.specs.List.{flat_map}
use Rattle.au_define.specs.Columns.{name_of}
use Rattle.au_define.proofs.columns.names_of.Given as goal

abbrev pub invariant-loop-element : goal.invariant-loop-element
invariant-loop-element l = l.names ≡ flat_map name_of (take l.element-index l.elements)
