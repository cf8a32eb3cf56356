use Rattle.std.proofs.Common.{◌≡◌, ◌||◌, drop}
use Rattle.std.specs.Ordering.{nat_cmp}
use Rattle.std.specs.BTreeSet.{contains}
use Rattle.au_base.specs.declared.numbers.RowNo.{RowNo}
use Rattle.au_change.specs.Inside.{has_number}
use Rattle.au_change.proofs.clashes.numbers_of.Given as goal

abbrev pub invariant-loop-change : goal.invariant-loop-change
invariant-loop-change l =
    (row : RowNo) → (contains nat_cmp l.numbers row.0 || has_number row (drop l.change-index l.changes)) ≡ has_number row l.changes
