use Rattle.std.proofs.Common.{◌≡◌, ◌++◌, length}
use Rattle.au_rows.specs.Blocks.{joined}
use Rattle.au_rows.proofs.walk.begun.Given as goal

abbrev pub invariant-loop-block : goal.invariant-loop-block
invariant-loop-block l = l.block ++ joined l.later ≡ l.fn.block ++ joined l.fn.later

abbrev pub decreases-loop-block : goal.decreases-loop-block
decreases-loop-block l = length l.later
