use Rattle.std.proofs.Common.{◌≡◌, ◌+◌, ◌≤◌, ◌++◌, reverse, take, drop}
use Rattle.std.specs.Prelude.{vec_capacity, vec_len}
use Rattle.au_grants.proofs.growing.move_from.Given as goal

abbrev pub invariant-loop-entries : goal.invariant-loop-entries
invariant-loop-entries g l =
    (reverse l.moving.items ≡ drop (vec_len l.entries) l.fn.entries.items ++ reverse l.fn.moving.items) × (l.entries.items ≡ take (vec_len l.entries) l.fn.entries.items) × (l.place ≤ vec_len l.entries)
    × (vec_len l.entries ≤ vec_len l.fn.entries) × (vec_len l.entries + vec_len l.moving ≡ vec_len l.fn.entries + vec_len l.fn.moving)
    × (vec_capacity l.entries ≡ vec_capacity l.fn.entries) × (vec_capacity l.moving ≡ vec_capacity l.fn.moving)

abbrev pub decreases-loop-entries : goal.decreases-loop-entries
decreases-loop-entries g l = vec_len l.entries
