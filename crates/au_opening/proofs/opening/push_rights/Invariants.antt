use Rattle.std.proofs.Common.{◌≡◌, ◌++◌, map, take}
use Rattle.au_opening.specs.Opening.{right_of_sys}
use Rattle.au_opening.proofs.opening.push_rights.Given as goal

abbrev pub invariant-loop-privilege : goal.invariant-loop-privilege
invariant-loop-privilege l = l.changes ≡ l.fn.changes ++ map right_of_sys (take l.privilege-index l.privileges)
