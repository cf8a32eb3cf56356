use Rattle.std.proofs.Common.{◌≡◌, take}
use Rattle.std.specs.List.{filter}
use Rattle.au_define.specs.Settings.{has_role, lent}
use Rattle.au_define.proofs.granting.roles_among.Given as goal

abbrev pub invariant-loop-name : goal.invariant-loop-name
invariant-loop-name l = l.roles ≡ filter (has_role (lent l.case)) (take l.name-index l.names)
