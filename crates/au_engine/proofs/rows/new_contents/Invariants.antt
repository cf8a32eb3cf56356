use Rattle.std.proofs.Common.{◌≡◌, map, take}
use Rattle.std.specs.List.{filter_map}
use Rattle.au_engine.proofs.rows.new_contents.Given as goal

abbrev pub invariant-loop-change : goal.invariant-loop-change
invariant-loop-change l = map (λ cells. cells.items) l.contents.items ≡ filter_map (λ change. change.new) (take l.change-index l.changes)
