use Rattle.std.proofs.Common.{◌≡◌, take}
use Rattle.std.specs.List.{flat_map}
use Rattle.au_define.specs.Columns.{column_of}
use Rattle.au_define.proofs.columns.columns_of.Given as goal

abbrev pub invariant-loop-element : goal.invariant-loop-element
invariant-loop-element l = l.columns ≡ flat_map column_of (take l.element-index l.elements)
