use Rattle.std.proofs.Common.{◌≡◌, ◌+◌, ◌-◌, ◌≤◌, length, drop}
use Rattle.std.specs.List.{prefix_len}
use Rattle.au_calls.specs.Literals.{is_space}
use Rattle.au_calls.proofs.pieces.spaces_before.Given as goal

abbrev pub invariant-loop-n : goal.invariant-loop-n
invariant-loop-n l = (l.n ≤ length l.piece) × (prefix_len is_space l.piece ≡ l.n + prefix_len is_space (drop l.n l.piece))

abbrev pub decreases-loop-n : goal.decreases-loop-n
decreases-loop-n l = length l.piece - l.n
