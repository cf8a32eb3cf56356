use Rattle.std.proofs.Common.{◌≡◌, ◌+◌, ◌≤◌, length, take}
use Rattle.std.specs.List.{suffix_len}
use Rattle.au_calls.specs.Literals.{is_space}
use Rattle.au_calls.proofs.pieces.end_of.Given as goal

abbrev pub invariant-loop-n : goal.invariant-loop-n
invariant-loop-n l = (l.n ≤ length l.piece) × (l.n + suffix_len is_space l.piece ≡ length l.piece + suffix_len is_space (take l.n l.piece))

abbrev pub decreases-loop-n : goal.decreases-loop-n
decreases-loop-n l = l.n
