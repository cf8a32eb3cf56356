use Rattle.std.proofs.Common.{◌≡◌, drop, map}
use Rattle.std.specs.List.{list_any}
use Rattle.sql_ast.specs.declared.rows.Assignment.{Assignment}
use Rattle.au_modify.specs.Columns.{is_called}
use Rattle.au_change.proofs.referring.is_set.Given as goal

abbrev pub invariant-loop-assignment : goal.invariant-loop-assignment
invariant-loop-assignment l =
    list_any (λ name. is_called name l.column) (map (λ (assignment : Assignment). assignment.column) (drop l.assignment-index l.assignments))
    ≡ list_any (λ name. is_called name l.column) (map (λ (assignment : Assignment). assignment.column) l.assignments)
