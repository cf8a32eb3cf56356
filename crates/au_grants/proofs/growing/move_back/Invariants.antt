use Rattle.std.proofs.Common.{◌≡◌, ◌+◌, ◌++◌, reverse}
use Rattle.std.specs.Prelude.{vec_capacity, vec_len}
use Rattle.au_grants.proofs.growing.move_back.Given as goal

abbrev pub invariant-loop-last : goal.invariant-loop-last
invariant-loop-last g l =
    (l.entries.items ++ reverse l.moving.items ≡ l.fn.entries.items ++ reverse l.fn.moving.items) × (vec_len l.entries + vec_len l.moving ≡ vec_len l.fn.entries + vec_len l.fn.moving)
    × (vec_capacity l.entries ≡ vec_capacity l.fn.entries) × (vec_capacity l.moving ≡ vec_capacity l.fn.moving)

abbrev pub decreases-loop-last : goal.decreases-loop-last
decreases-loop-last g l = vec_len l.moving
