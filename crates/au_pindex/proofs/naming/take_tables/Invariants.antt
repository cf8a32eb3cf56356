use Rattle.std.proofs.Common.{◌≡◌, ◌||◌, ℕ, drop}
use Rattle.std.specs.BTreeSet.{contains}
use Rattle.std.specs.List.{list_any}
use Rattle.std.specs.Ordering.{nat_cmp}
use Rattle.au_pindex.specs.Buckets.{is_in_bucket}
use Rattle.au_pindex.specs.Indexing.{table_cmp}
use Rattle.au_pindex.proofs.naming.take_tables.Given as goal

abbrev pub invariant-loop-table : goal.invariant-loop-table
invariant-loop-table l =
    (at : ℕ) → (list_any (λ table. is_in_bucket table_cmp l.buckets table at) (drop l.table-index l.tables) || contains nat_cmp l.places at)
    ≡ (list_any (λ table. is_in_bucket table_cmp l.buckets table at) l.tables || contains nat_cmp l.fn.places at)
