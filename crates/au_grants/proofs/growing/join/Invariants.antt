use Rattle.std.proofs.Common.{◌≡◌, ◌+◌, ◌++◌, reverse}
use Rattle.std.specs.Prelude.{IsTrue, vec_capacity, vec_len}
use Rattle.au_grants.specs.Order.{is_in_order}
use Rattle.au_grants.specs.descent.Growing.{before_by, merged}
use Rattle.au_grants.proofs.growing.join.Given as goal

abbrev pub invariant-loop-entry : goal.invariant-loop-entry
invariant-loop-entry g l =
    (merged (before_by g.T.Entry.fields) l.fresh.items l.kept.items ++ reverse l.moving.items ≡ merged (before_by g.T.Entry.fields) l.fn.fresh.items l.fn.kept.items)
    × IsTrue (is_in_order (before_by g.T.Entry.fields) l.fresh.items) × IsTrue (is_in_order (before_by g.T.Entry.fields) l.kept.items)
    × (vec_len l.kept + vec_len l.fresh + vec_len l.moving ≡ vec_len l.fn.kept + vec_len l.fn.fresh)
    × (vec_capacity l.kept ≡ vec_capacity l.fn.kept) × (vec_capacity l.fresh ≡ vec_capacity l.fn.fresh) × (vec_capacity l.moving ≡ vec_capacity l.fn.moving)

abbrev pub decreases-loop-entry : goal.decreases-loop-entry
decreases-loop-entry g l = vec_len l.fresh
