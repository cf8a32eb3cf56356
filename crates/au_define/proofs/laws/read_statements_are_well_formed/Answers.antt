use Rattle.au_define.proofs.ReadTables.{well_formed}
use Rattle.au_define.proofs.laws.read_statements_are_well_formed.Goals as goal

pub returns : goal.returns
returns c = well_formed
