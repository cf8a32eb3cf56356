use Rattle.std.proofs.Common.{◌≡◌, ◌≤◌, drop, length}
use Rattle.au_modify.specs.Targets.{kinds_refusal}
use Rattle.au_modify.proofs.targets.kinds_refusal.Given as goal

abbrev pub invariant-loop-name : goal.invariant-loop-name
invariant-loop-name l = record {
  within : l.next ≤ length l.values;
  codes : kinds_refusal l.ranges l.columns (drop l.name-index l.names) (drop l.next l.values) ≡ kinds_refusal l.ranges l.columns l.names l.values;
}
