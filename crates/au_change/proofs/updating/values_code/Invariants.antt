use Rattle.std.proofs.Common.{◌≡◌, drop, map}
use Rattle.sql_ast.specs.declared.rows.Assignment.{Assignment}
use Rattle.au_modify.specs.Targets.{names_refusal}
use Rattle.au_change.proofs.updating.values_code.Given as goal

abbrev pub invariant-loop-assignment : goal.invariant-loop-assignment
invariant-loop-assignment l =
    names_refusal l.ranges (map (λ (assignment : Assignment). assignment.value) (drop l.assignment-index l.assignments))
    ≡ names_refusal l.ranges (map (λ (assignment : Assignment). assignment.value) l.assignments)
