use Rattle.std.proofs.Common.{◌≡◌, take}
use Rattle.std.specs.List.{filter}
use Rattle.au_define.specs.Settings.{has_user, lent}
use Rattle.au_define.proofs.granting.users_among.Given as goal

abbrev pub invariant-loop-name : goal.invariant-loop-name
invariant-loop-name l = l.users ≡ filter (has_user (lent l.case)) (take l.name-index l.names)
