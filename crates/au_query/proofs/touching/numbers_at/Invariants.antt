use Rattle.std.proofs.Common.{◌≡◌, ◌||◌, drop}
use Rattle.std.specs.List.{list_any}
use Rattle.std.specs.Ordering.{nat_cmp}
use Rattle.std.specs.BTreeSet.{contains}
use Rattle.au_base.specs.declared.numbers.RowNo.{RowNo}
use Rattle.au_query.specs.Answers.{stands_in}
use Rattle.au_query.proofs.touching.numbers_at.Given as goal

abbrev pub invariant-loop-combo : goal.invariant-loop-combo
invariant-loop-combo l =
    (number : RowNo) → (contains nat_cmp l.there number.0 || list_any (stands_in l.places number) (drop l.combo-index l.combos)) ≡ list_any (stands_in l.places number) l.combos
