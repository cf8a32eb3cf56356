use Rattle.std.proofs.Common.{◌≡◌, false, take}
use Rattle.std.specs.List.{list_any}
use Rattle.au_define.specs.Columns.{has_key_twice}
use Rattle.au_define.proofs.columns.some_key_twice.Given as goal

abbrev pub invariant-loop-element : goal.invariant-loop-element
invariant-loop-element l = list_any has_key_twice (take l.element-index l.elements) ≡ false
