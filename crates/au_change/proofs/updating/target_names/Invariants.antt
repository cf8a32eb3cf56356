use Rattle.std.proofs.Common.{◌≡◌, map, take}
use Rattle.sql_ast.specs.declared.rows.Assignment.{Assignment}
use Rattle.au_change.proofs.updating.target_names.Given as goal

abbrev pub invariant-loop-assignment : goal.invariant-loop-assignment
invariant-loop-assignment l = l.names.items ≡ map (λ (assignment : Assignment). assignment.column) (take l.assignment-index l.assignments)
