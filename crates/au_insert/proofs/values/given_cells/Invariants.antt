use Rattle.std.proofs.Common.{◌≡◌, ◌++◌, drop, map}
use Rattle.std.specs.List.{AllByRecursion, list_any}
use Rattle.au_insert.specs.Inserting.{cell_of, value_overflows}
use Rattle.au_insert.specs.Inside.{IsFree}
use Rattle.au_insert.proofs.values.given_cells.Given as goal

abbrev pub invariant-loop-value : goal.invariant-loop-value
invariant-loop-value l = record {
  free : AllByRecursion IsFree (drop l.value-index l.values);
  small : list_any (value_overflows l.session) (drop l.value-index l.values) ≡ list_any (value_overflows l.session) l.values;
  cells : l.cells.items ++ map (cell_of l.session) (drop l.value-index l.values) ≡ map (cell_of l.session) l.values;
}
