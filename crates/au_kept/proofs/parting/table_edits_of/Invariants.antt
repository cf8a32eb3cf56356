use Rattle.std.proofs.Common.{◌≡◌, ◌++◌, drop}
use Rattle.std.specs.List.{filter_map}
use Rattle.au_kept.specs.Staging.{table_edit}
use Rattle.au_kept.proofs.parting.table_edits_of.Given as goal

abbrev pub invariant-loop-change : goal.invariant-loop-change
invariant-loop-change l = l.edits.items ++ filter_map table_edit (drop l.change-index l.changes) ≡ filter_map table_edit l.changes
