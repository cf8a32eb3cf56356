use Rattle.std.proofs.Common.{◌≡◌, ◌++◌, take}
use Rattle.std.specs.List.{flat_map}
use Rattle.au_define.specs.descent.Named.{roles_in}
use Rattle.au_define.proofs.granting.with_roles.Given as goal

abbrev pub invariant-loop-right : goal.invariant-loop-right
invariant-loop-right l = l.all ≡ l.fn.names ++ flat_map roles_in (take l.right-index l.rights)
