use Rattle.std.proofs.Common.{◌≡◌, drop, map, take}
use Rattle.au_change.specs.Inside.{AreSettings, assignment_kind}
use Rattle.au_expr.specs.Names.{first}
use Rattle.au_change.proofs.settings.settings.Given as goal

abbrev pub invariant-loop-assignment : goal.invariant-loop-assignment
invariant-loop-assignment l = record {
  code : first (map (assignment_kind l.range) (drop l.assignment-index l.assignments)) ≡ first (map (assignment_kind l.range) l.assignments);
  settings : AreSettings l.range (take l.assignment-index l.assignments) l.settings.items;
}
