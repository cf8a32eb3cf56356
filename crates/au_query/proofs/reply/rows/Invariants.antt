use Rattle.std.proofs.Common.{◌≡◌, ◌++◌, drop, map}
use Rattle.au_query.specs.Combos.{cells_at}
use Rattle.au_query.specs.descent.Outputs.{trees_in}
use Rattle.au_query.proofs.reply.rows.Given as goal

abbrev pub invariant-loop-combo : goal.invariant-loop-combo
invariant-loop-combo l = l.rows ++ map (cells_at l.session (trees_in l.outputs)) (drop l.combo-index l.combos) ≡ map (cells_at l.session (trees_in l.outputs)) l.combos
