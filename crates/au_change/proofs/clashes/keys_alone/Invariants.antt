use Rattle.std.proofs.Common.{◌≡◌, ◌++◌, drop, map, take}
use Rattle.std.specs.List.{Contains}
use Rattle.au_txn.specs.declared.change.RowChange.{RowChange}
use Rattle.au_change.specs.Inside.{IsStood, all_parts}
use Rattle.au_change.proofs.clashes.keys_alone.Given as goal

abbrev pub invariant-loop-change : goal.invariant-loop-change
invariant-loop-change l = record {
  none : (change : RowChange) → Contains (take l.change-index l.changes) change → ¬ IsStood l.keyed change;
  keys : map (λ key. key.items) l.keys.items ++ all_parts l.keyed.places.now (drop l.change-index l.changes) ≡ all_parts l.keyed.places.now l.changes;
}
