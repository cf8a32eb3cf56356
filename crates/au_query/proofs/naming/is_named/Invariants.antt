use Rattle.std.proofs.Common.{◌≡◌, drop}
use Rattle.std.specs.List.{list_any}
use Rattle.au_expr.specs.Ranges.{names_column}
use Rattle.au_query.specs.descent.Plans.{trees_in_plan}
use Rattle.au_query.proofs.naming.is_named.Given as goal

abbrev pub invariant-loop-place : goal.invariant-loop-place
invariant-loop-place l =
    list_any (λ place. list_any (names_column place l.column) (trees_in_plan l.plan)) (drop l.place-index l.places)
    ≡ list_any (λ place. list_any (names_column place l.column) (trees_in_plan l.plan)) l.places
