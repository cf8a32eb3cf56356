use Rattle.std.proofs.Common.{◌≡◌, drop}
use Rattle.std.specs.List.{list_any}
use Rattle.au_expr.specs.Ranges.{names_column}
use Rattle.au_query.specs.descent.Plans.{keys_trees}
use Rattle.au_query.proofs.naming.is_in_keys.Given as goal

abbrev pub invariant-loop-place : goal.invariant-loop-place
invariant-loop-place l = list_any (names_column l.range l.column) (keys_trees (drop l.place-index l.keys)) ≡ list_any (names_column l.range l.column) (keys_trees l.keys)
