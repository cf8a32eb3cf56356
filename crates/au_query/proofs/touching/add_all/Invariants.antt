use Rattle.std.proofs.Common.{◌≡◌, ◌||◌, drop}
use Rattle.std.specs.Ordering.{nat_cmp}
use Rattle.std.specs.BTreeSet.{contains}
use Rattle.au_base.specs.declared.numbers.RowNo.{RowNo}
use Rattle.au_query.specs.Answers.{stands_in}
use Rattle.au_query.proofs.touching.add_all.Given as goal

abbrev pub invariant-loop-place : goal.invariant-loop-place
invariant-loop-place l =
    (number : RowNo) → (stands_in (drop l.place-index l.places) number l.combo || contains nat_cmp l.there number.0) ≡ (stands_in l.places number l.combo || contains nat_cmp l.fn.there number.0)
