use Rattle.std.proofs.Common.{◌≡◌, drop}
use Rattle.rec_parts.specs.Parts.{is_rising}
use Rattle.rec_parts.proofs.lists.is_rising.Given as goal

abbrev pub invariant-loop-privilege : goal.invariant-loop-privilege
invariant-loop-privilege l = is_rising 0 l.privileges ≡ is_rising l.last (drop l.privilege-index l.privileges)
