use Rattle.std.proofs.Common.{◌≡◌, ◌||◌, ℕ, drop}
use Rattle.std.specs.Prelude.{◌==◌}
use Rattle.std.specs.BTreeSet.{contains}
use Rattle.std.specs.List.{list_any}
use Rattle.std.specs.Ordering.{nat_cmp}
use Rattle.au_pindex.proofs.buckets.take_all.Given as goal

-- what is taken, and what is left, are what all are
abbrev pub invariant-loop-place : goal.invariant-loop-place
invariant-loop-place l =
    (at : ℕ) → (list_any (λ place. place == at) (drop l.place-index l.bucket) || contains nat_cmp l.places at) ≡ (list_any (λ place. place == at) l.bucket || contains nat_cmp l.fn.places at)
