use Rattle.std.proofs.Common.{◌≡◌, drop, map, take}
use Rattle.au_change.specs.Inside.{change_of, line_code}
use Rattle.au_expr.specs.Names.{first}
use Rattle.au_query.specs.Combos.{lines}
use Rattle.au_change.proofs.changing.changes.Given as goal

abbrev pub invariant-loop-row : goal.invariant-loop-row
invariant-loop-row l = record {
  code : first (map (line_code l.sets.session.now l.sets.settings.now) (lines (drop l.row-index l.rows))) ≡ first (map (line_code l.sets.session.now l.sets.settings.now) (lines l.rows));
  changes : l.changes ≡ map (change_of l.sets.table.now l.sets.session.now l.sets.sources.now l.sets.settings.now) (lines (take l.row-index l.rows));
}
