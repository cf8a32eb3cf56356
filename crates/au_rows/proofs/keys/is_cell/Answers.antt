use Rattle.au_rows.proofs.KeyLemmas.{cell-some, cell-none}
use Rattle.au_rows.proofs.keys.is_cell.Goals as goal

pub returns-in-Some : goal.returns-in-Some
returns-in-Some c = cell-some c.args.cells.now c.args.place c.in-Some.found.now c.args.cell.now c.is_same.result c.in-Some.ensures.lookup.3.0 c.in-Some.ensures.lookup.1 c.is_same.ensures

pub returns-in-None : goal.returns-in-None
returns-in-None c = cell-none c.args.cells.now c.args.place c.args.cell.now c.in-None.ensures.lookup.3
