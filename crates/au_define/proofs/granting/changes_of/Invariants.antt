use Rattle.std.proofs.Common.{◌≡◌, map, take}
use Rattle.au_define.specs.Granting.{change_of}
use Rattle.au_define.proofs.granting.changes_of.Given as goal

abbrev pub invariant-loop-grant : goal.invariant-loop-grant
invariant-loop-grant l = l.changes ≡ map change_of (take l.grant-index l.grants)
