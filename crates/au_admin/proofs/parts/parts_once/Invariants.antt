use Rattle.std.proofs.Common.{◌≡◌, map, take}
use Rattle.au_calls.specs.Once.{once}
use Rattle.au_admin.specs.Policies.{part_of, same_part}
use Rattle.au_admin.proofs.parts.parts_once.Given as goal

abbrev pub invariant-loop-part : goal.invariant-loop-part
invariant-loop-part l = l.actions ≡ once same_part (map (part_of l.user) (take l.part-index l.parts))
