use Rattle.std.proofs.Common.{sym}
use Rattle.au_world.proofs.Halving.{is_found, is_missed}
use Rattle.au_world.proofs.finding.has_table.Goals as goal

pub returns-in-Some : goal.returns-in-Some
returns-in-Some c = sym (is_found c.args.tables.now c.args.name.now _ c.in-Some.ensures)

pub returns-in-None : goal.returns-in-None
returns-in-None c = sym (is_missed c.args.tables.now c.args.name.now c.in-None.ensures)
