use Rattle.std.proofs.Common.{◌≡◌, take}
use Rattle.std.specs.List.{flat_map}
use Rattle.au_define.specs.Columns.{key_part}
use Rattle.au_define.proofs.columns.key_names.Given as goal

abbrev pub invariant-loop-element : goal.invariant-loop-element
invariant-loop-element l = l.names ≡ flat_map key_part (take l.element-index l.elements)
